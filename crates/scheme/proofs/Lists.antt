-- Laws of span, members, rank, rows and all_of.
--   span_append, span_in, in_span, span_once, span_length       the n numbers from k on
--   span_start, span_more, span_end                             those from i on, of n: all, one and the others, none
--   map_same, map_back, map_span_length, map_span_at            maps over them
--   map_below_same, map_below_at                                and over those below n
--   members_append, members_in, in_members, members_once, members_fewer, members_le     those that pass a test
--   rank_start, rank_more, rank_at, rank_lt                      how many below v pass
--   rows_same, rows_append, rows_length, rows_at                        one list for each number
--   all_of_in, at_all_of, all_of_same, all_of_part         a test of each number of a list; a weaker one
--   in_at                                                       the number at a place of a list
--   sets_append, sets_more, sets_whole                          lists written one behind the other; one word more of a map; all of a list
--   zeros_at                                                    a list of zeros
--   high, low, digits_lt                                        a number of two digits
-- Assumes nothing.
use mathlib.Core.Path.{◌≡◌, refl, sym, ap, ap₂, ◌∙◌}
use mathlib.Core.Logic.{◌⊎◌, inl, inr, ⊎_elim}
use mathlib.Core.Bool.{Bool, true, false, ◌&&◌, cond}
use mathlib.Core.List.{List, [], ◌∷◌, ◌++◌, map, map-append, append_assoc, append-nil}
use Prim.Native.Nat.{ℕ, zero, suc, ◌+◌, ◌*◌, ◌-◌, ◌/◌, ◌%◌, ◌≤◌, ◌<◌}
use native.Mathlib.Nat.{add-zero, zero-add, add-suc, suc-add, suc-mul, zero-mul, mul-le-mul_right, mul-add-div_right, mul-add-mod_self_right, mod-eq_of_lt, div-eq_of_lt}
use native.Mathlib.Numerals.{add-one}
use native.Mathlib.Decide.{ℕ_discrete}
use native.Mathlib.Omega.{arith}
use lib.ListN.{length, get_or, take, drop, set, replicate, length-append, drop_of_length-le}
use lib.Seq.{sets, sets-eq, take_at, drop_at, get_or_at}
use Rattle.algebra.specs.Sums.{In, Distinct}
use Rattle.scheme.specs.Lists.{span, keep, members, rank, rows, all_of}
use Rattle.scheme.proofs.Tests.{holds, and_both, and_joined}

-- ---- span
pub span_append : (m n k : ℕ) → span (m + n) k ≡ span m k ++ span n (k + m)
span_append zero n k = rw (zero-add, add-zero)
span_append (suc m) n k =
    let e : suc k + m ≡ k + suc m = omega arith in
    rw suc-add (ap (λ (l : List ℕ). k ∷ l) (span_append m n (suc k) ∙ ap (λ (i : ℕ). span m (suc k) ++ span n i) e))

pub span_in : (n k i : ℕ) → In i (span n k) → (k ≤ i) × (i < k + n)
span_in zero k i h = absurd h
span_in (suc n) k i (inl e) = (omega arith, omega arith)
span_in (suc n) k i (inr h) = let s = span_in n (suc k) i h in (omega arith, omega arith)

pub in_span : (n k i : ℕ) → k ≤ i → i < k + n → In i (span n k)
in_span zero k i lo hi = absurd (omega arith)
in_span (suc n) k i lo hi = elim (ℕ_discrete i k) [ yes e ↦ inl e | no e ↦ inr (in_span n (suc k) i (omega arith) (omega arith)) ]

pub span_once : (n k : ℕ) → Distinct (span n k)
span_once zero k = tt
span_once (suc n) k = (λ h. let s = span_in n (suc k) k h in omega arith, span_once n (suc k))

pub span_length : (n k : ℕ) → length (span n k) ≡ n
span_length zero k = refl
span_length (suc n) k = ap suc (span_length n (suc k))

pub span_start : (n : ℕ) → span (n - 0) 0 ≡ span n 0
span_start n = let e : n - 0 ≡ n = omega arith in rw e

pub span_more : (n i : ℕ) → i < n → span (n - i) i ≡ i ∷ span (n - (i + 1)) (i + 1)
span_more n i h = let e : n - i ≡ suc (n - (i + 1)) = omega arith in rw (e, add-one)

pub span_end : (n i : ℕ) → n ≤ i → span (n - i) i ≡ []
span_end n i h = let e : n - i ≡ 0 = omega arith in rw e

-- ---- maps
pub map_same : {A : Type 0} (f g : ℕ → A) (l : List ℕ) → ((k : ℕ) → In k l → f k ≡ g k) → map f l ≡ map g l
map_same f g [] h = refl
map_same f g (k ∷ l) h = ap₂ ◌∷◌ (h k (inl refl)) (map_same f g l (λ i m. h i (inr m)))

-- equal maps of a list are equal at each of its numbers
pub map_back : {A : Type 0} (f g : ℕ → A) (l : List ℕ) → map f l ≡ map g l → (k : ℕ) → In k l → f k ≡ g k
map_back f g [] e k m = absurd m
map_back f g (i ∷ l) e k (inl d) = cc
map_back f g (i ∷ l) e k (inr m) = map_back f g l (cc) k m

pub map_below_same : {A : Type 0} (f g : ℕ → A) (n : ℕ) → ((i : ℕ) → i < n → f i ≡ g i) → map f (span n 0) ≡ map g (span n 0)
map_below_same f g n h = map_same f g (span n 0) (λ i m. h i (omega (arith, span_in n 0 i m)))

pub map_span_length : (f : ℕ → ℕ) (n k : ℕ) → length (map f (span n k)) ≡ n
map_span_length f zero k = refl
map_span_length f (suc n) k = ap suc (map_span_length f n (suc k))

pub map_span_at : (f : ℕ → ℕ) (n k i : ℕ) → i < n → get_or (map f (span n k)) i 0 ≡ f (k + i)
map_span_at f zero k i h = absurd (omega arith)
map_span_at f (suc n) k zero h = ap f (sym (add-zero k))
map_span_at f (suc n) k (suc i) h = map_span_at f n (suc k) i (omega arith) ∙ ap f (suc-add k i ∙ sym (add-suc k i))

pub map_below_at : (f : ℕ → ℕ) (n i : ℕ) → i < n → get_or (map f (span n 0)) i 0 ≡ f i
map_below_at f n i h = map_span_at f n 0 i h ∙ ap f (zero-add i)

-- ---- members
keep_append : (b : Bool) (k : ℕ) (l m : List ℕ) → keep b k (l ++ m) ≡ keep b k l ++ m
keep_append true k l m = refl
keep_append false k l m = refl

pub members_append : (t : ℕ → Bool) (m n k : ℕ) → members t (m + n) k ≡ members t m k ++ members t n (k + m)
members_append t zero n k = rw (zero-add, add-zero)
members_append t (suc m) n k =
    let e : suc k + m ≡ k + suc m = omega arith in
    rw suc-add
    (ap (keep (t k) k) (members_append t m n (suc k) ∙ ap (λ (i : ℕ). members t m (suc k) ++ members t n i) e)
    ∙ keep_append (t k) k (members t m (suc k)) (members t n (k + suc m)))

keep_in : (b : Bool) (k i : ℕ) (l : List ℕ) → In i (keep b k l) → ((i ≡ k) × (b ≡ true)) ⊎ In i l
keep_in true k i l (inl e) = inl (e, refl)
keep_in true k i l (inr h) = inr h
keep_in false k i l h = inr h

pub members_in : (t : ℕ → Bool) (n k i : ℕ) → In i (members t n k) → (k ≤ i) × (i < k + n) × (t i ≡ true)
members_in t zero k i h = absurd h
members_in t (suc n) k i h = ⊎_elim (λ e. (omega arith, omega arith, ap t e.0 ∙ e.1))
    (λ m. let s = members_in t n (suc k) i m in (omega arith, omega arith, s.2)) (keep_in (t k) k i (members t n (suc k)) h)

in_keep : (b : Bool) (k i : ℕ) (l : List ℕ) → In i l → In i (keep b k l)
in_keep true k i l h = inr h
in_keep false k i l h = h

keep_first : (b : Bool) (k : ℕ) (l : List ℕ) → b ≡ true → In k (keep b k l)
keep_first true k l e = inl refl
keep_first false k l e = absurd (holds e)

pub in_members : (t : ℕ → Bool) (n k i : ℕ) → k ≤ i → i < k + n → t i ≡ true → In i (members t n k)
in_members t zero k i lo hi e = absurd (omega arith)
in_members t (suc n) k i lo hi e = elim (ℕ_discrete i k) [
  | yes r ↦ rw r (keep_first (t k) k (members t n (suc k)) (sym (ap t r) ∙ e))
  | no r ↦ in_keep (t k) k i (members t n (suc k)) (in_members t n (suc k) i (omega arith) (omega arith) e)
]

keep_once : (b : Bool) (k : ℕ) (l : List ℕ) → (In k l → ⊥) → Distinct l → Distinct (keep b k l)
keep_once true k l h d = (h, d)
keep_once false k l h d = d

pub members_once : (t : ℕ → Bool) (n k : ℕ) → Distinct (members t n k)
members_once t zero k = tt
members_once t (suc n) k = keep_once (t k) k (members t n (suc k)) (λ h. let s = members_in t n (suc k) k h in omega arith) (members_once t n (suc k))

keep_fewer : (a b : Bool) (k : ℕ) (l m : List ℕ) → length l ≤ length m → length (keep (a && b) k l) ≤ length (keep a k m)
keep_fewer true true k l m h = omega arith
keep_fewer true false k l m h = omega arith
keep_fewer false b k l m h = h

pub members_fewer : (s t : ℕ → Bool) (n k : ℕ) → length (members (λ i. s i && t i) n k) ≤ length (members s n k)
members_fewer s t zero k = omega arith
members_fewer s t (suc n) k = keep_fewer (s k) (t k) k _ _ (members_fewer s t n (suc k))

-- ---- rank
pub rank_start : (t : ℕ → Bool) → rank t 0 ≡ 0
unfolding rank
rank_start t = refl

keep_length : (b : Bool) (k : ℕ) (l : List ℕ) → length (keep b k l) ≡ cond b 1 0 + length l
keep_length true k l = omega arith
keep_length false k l = omega arith

pub rank_more : (t : ℕ → Bool) (v : ℕ) → rank t (v + 1) ≡ rank t v + cond (t v) 1 0
unfolding rank
rank_more t v = ap length (members_append t v 1 0) ∙ length-append (members t v 0) (members t 1 (0 + v))
    ∙ ap (λ (n : ℕ). length (members t v 0) + n) (keep_length (t (0 + v)) (0 + v) [] ∙ add-zero _ ∙ ap (λ (i : ℕ). cond (t i) 1 0) (zero-add v))

pub members_le : (t : ℕ → Bool) (n k : ℕ) → length (members t n k) ≤ n
members_le t zero k = omega arith
members_le t (suc n) k =
    let h = members_le t n (suc k) in
    elim (t k) as (λ b. length (keep b k (members t n (suc k))) ≤ suc n) [ true ↦ omega arith | false ↦ omega arith ]

-- the numbers below v that pass, v, and those above
members_split : (t : ℕ → Bool) (n v : ℕ) → v < n → t v ≡ true → members t n 0 ≡ members t v 0 ++ (v ∷ members t (n - suc v) (suc v))
members_split t n v h e =
    let s : n ≡ v + suc (n - suc v) = omega arith in
    ap (λ (i : ℕ). members t i 0) s ∙ members_append t v (suc (n - suc v)) 0
    ∙ ap (λ (i : ℕ). members t v 0 ++ members t (suc (n - suc v)) i) (zero-add v)
    ∙ ap (λ (b : Bool). members t v 0 ++ keep b v (members t (n - suc v) (suc v))) e

pub rank_lt : (t : ℕ → Bool) (n v : ℕ) → v < n → t v ≡ true → rank t v < length (members t n 0)
unfolding rank
rank_lt t n v h e = omega (arith, ap length (members_split t n v h e), length-append (members t v 0) (v ∷ members t (n - suc v) (suc v)))

pub rank_at : (t : ℕ → Bool) (n v : ℕ) → v < n → t v ≡ true → get_or (members t n 0) (rank t v) 0 ≡ v
unfolding rank
rank_at t n v h e = ap (λ (l : List ℕ). get_or l (length (members t v 0)) 0) (members_split t n v h e)
    ∙ get_or_at (members t v 0) v (members t (n - suc v) (suc v)) 0 _ refl

-- ---- rows
pub rows_same : (f g : ℕ → List ℕ) (l : List ℕ) → ((k : ℕ) → In k l → f k ≡ g k) → rows f l ≡ rows g l
rows_same f g [] h = refl
rows_same f g (k ∷ l) h = ap₂ ◌++◌ (h k (inl refl)) (rows_same f g l (λ i m. h i (inr m)))

pub rows_append : (f : ℕ → List ℕ) (l m : List ℕ) → rows f (l ++ m) ≡ rows f l ++ rows f m
rows_append f [] m = refl
rows_append f (k ∷ l) m = ap (λ (r : List ℕ). f k ++ r) (rows_append f l m) ∙ sym (append_assoc (f k) (rows f l) (rows f m))

pub rows_length : (f : ℕ → List ℕ) (n : ℕ) → ((k : ℕ) → length (f k) ≡ n) → (l : List ℕ) → length (rows f l) ≡ length l * n
rows_length f n h [] = sym (zero-mul n)
rows_length f n h (k ∷ l) = omega (arith, length-append (f k) (rows f l), h k, rows_length f n h l, suc-mul (length l) n)

-- the list of v stands behind those of the smaller numbers
pub rows_at : (f : ℕ → List ℕ) (m : ℕ) → ((k : ℕ) → length (f k) ≡ m) → (t : ℕ → Bool) (n v : ℕ) → v < n → t v ≡ true
    → take m (drop (rank t v * m) (rows f (members t n 0))) ≡ f v
unfolding rank
rows_at f m h t n v l e =
    let a = rows f (members t v 0) in
    let b = rows f (members t (n - suc v) (suc v)) in
    ap (λ (r : List ℕ). take m (drop (length (members t v 0) * m) r))
    (ap (rows f) (members_split t n v l e) ∙ rows_append f (members t v 0) (v ∷ members t (n - suc v) (suc v)))
    ∙ ap (take m) (drop_at a (f v ++ b) _ (rows_length f m h (members t v 0))) ∙ take_at (f v) b m (h v)

-- ---- writing
pub sets_append : (o : List ℕ) (at : ℕ) (xs ys : List ℕ) → sets (sets o at xs) (at + length xs) ys ≡ sets o at (xs ++ ys)
sets_append o at [] ys = ap (λ (k : ℕ). sets o k ys) (add-zero at)
sets_append o at (x ∷ xs) ys =
    let e : at + suc (length xs) ≡ suc at + length xs = omega arith in
    ap (λ (k : ℕ). sets (sets (set o at x) (suc at) xs) k ys) e ∙ sets_append (set o at x) (suc at) xs ys

pub sets_more : (o : List ℕ) (at i : ℕ) (f : ℕ → ℕ) → set (sets o at (map f (span i 0))) (at + i) (f i) ≡ sets o at (map f (span (i + 1) 0))
sets_more o at i f = ap₂ (λ (n x : ℕ). set (sets o at (map f (span i 0))) (at + n) x) (sym (map_span_length f i 0)) (ap f (sym (zero-add i)))
    ∙ sets_append o at (map f (span i 0)) (map f (span 1 (0 + i)))
    ∙ ap (sets o at) (sym (ap (map f) (span_append i 1 0) ∙ map-append f (span i 0) (span 1 (0 + i))))

pub sets_whole : (o ws : List ℕ) → length ws ≡ length o → sets o 0 ws ≡ ws
sets_whole o ws e =
    sets-eq ws o 0 (omega arith) ∙ ap (λ (l : List ℕ). ws ++ l) (drop_of_length-le o {i = 0 + length ws} (omega arith)) ∙ append-nil ws

pub zeros_at : (n i : ℕ) → ◌≡◌ {A = ℕ} (get_or (replicate n 0) i 0) 0
zeros_at zero i = refl
zeros_at (suc n) zero = refl
zeros_at (suc n) (suc i) = zeros_at n i

-- ---- a number a * n + b with b below n
pub high : (a b n : ℕ) → b < n → (a * n + b) / n ≡ a
high a b n h = mul-add-div_right (omega arith) a b ∙ ap (λ (x : ℕ). a + x) (div-eq_of_lt h) ∙ add-zero a

pub low : (a b n : ℕ) → b < n → (a * n + b) % n ≡ b
low a b n h = mul-add-mod_self_right a n b ∙ mod-eq_of_lt h

pub digits_lt : (a m b n : ℕ) → a < m → b < n → a * n + b < m * n
digits_lt a m b n h l = omega (arith, mul-le-mul_right n h, suc-mul a n)

-- ---- a test of each number of a list
pub all_of_in : (t : ℕ → Bool) (l : List ℕ) → all_of t l ≡ true → (k : ℕ) → In k l → t k ≡ true
unfolding all_of
all_of_in t [] h k m = absurd m
all_of_in t (i ∷ l) h k (inl e) = ap t e ∙ (and_both (t i) (all_of t l) h).0
all_of_in t (i ∷ l) h k (inr m) = all_of_in t l (and_both (t i) (all_of t l) h).1 k m

pub at_all_of : (t : ℕ → Bool) (l : List ℕ) → ((a : ℕ) → a < length l → t (get_or l a 0) ≡ true) → all_of t l ≡ true
unfolding all_of
at_all_of t [] h = refl
at_all_of t (k ∷ l) h = and_joined (h 0 (omega arith)) (at_all_of t l (λ a i. h (suc a) (omega arith)))

pub all_of_same : (s t : ℕ → Bool) (l : List ℕ) → ((k : ℕ) → In k l → s k ≡ t k) → all_of s l ≡ all_of t l
unfolding all_of
all_of_same s t [] h = refl
all_of_same s t (k ∷ l) h = ap₂ (λ (a b : Bool). a && b) (h k (inl refl)) (all_of_same s t l (λ i m. h i (inr m)))

pub in_at : (l : List ℕ) (a : ℕ) → a < length l → In (get_or l a 0) l
in_at [] a i = absurd (omega arith)
in_at (k ∷ l) zero i = inl refl
in_at (k ∷ l) (suc a) i = inr (in_at l a (omega arith))

-- a weaker test of a part of a list
pub all_of_part : (t u : ℕ → Bool) (l m : List ℕ) → ((k : ℕ) → In k m → In k l) → ((k : ℕ) → In k m → t k ≡ true → u k ≡ true) →
    all_of t l ≡ true → all_of u m ≡ true
all_of_part t u l m sub step h = at_all_of u m (λ a i. let j = in_at m a i in step _ j (all_of_in t l h _ (sub _ j)))
