-- Decimal digits.
--   spell_parts                          a given number of digits: those of a high part, then those of the low part
--   decimal_one, decimal_whole           a number's digits, where their number is known
--   decimal_parts                        those of a high part, then those of the low part
--   decimal_twenty                       at most 20
--   decimal_most                         below a power of ten
-- Assumes nothing.
use Rattle.std.proofs.Common.{◌≡◌, refl, sym, ap, ◌∙◌, List, [], ◌∷◌, ◌++◌, append_assoc, append-nil, ℕ, zero, suc, ◌+◌, ◌*◌, ◌/◌, ◌%◌, ◌^◌, ◌≤◌, ◌<◌, add-zero, add-suc, div-one, pow-suc, add-one, arith, lit<, length, length-append, lt-ltb, le-ltb}
use native.Mathlib.Nat.{div-div-eq-div-mul, pow-succ', one-le-pow}
use lib.Arith.{mod-mul}
use native.Mathlib.Decide.{dec_lt}
use Rattle.lines.specs.Text.{digits, decimal, spell}

abbrev last_digit : ℕ → List ℕ
last_digit n = (48 + n % 10) ∷ []

-- the low digits of the tenth part, and the last one
module _ (k n : ℕ) where
  low : n % 10 ^ suc k ≡ (n / 10 % 10 ^ k) * 10 + n % 10
  low = ap (λ (m : ℕ). n % m) (pow-suc 10 k) ∙ mod-mul n (one-le-pow k 10 (lit< tt)) (lit< tt)

  high_tenth : n / 10 / 10 ^ k ≡ n / 10 ^ suc k
  high_tenth = div-div-eq-div-mul n 10 (10 ^ k) ∙ ap (λ (m : ℕ). n / m) (sym (pow-succ' 10 k))

spell_low : (k n : ℕ) → spell k (n % 10 ^ k) ≡ spell k n
unfolding spell
spell_low zero n = refl
spell_low (suc k) n =
    let tenth : n % 10 ^ suc k / 10 ≡ n / 10 % 10 ^ k = omega (arith, low k n) in
    let last : n % 10 ^ suc k % 10 ≡ n % 10 = omega (arith, low k n) in
    rw (tenth, last, spell_low k (n / 10))

spell_split : (j k n : ℕ) → spell (j + k) n ≡ spell j (n / 10 ^ k) ++ spell k n
unfolding spell
spell_split j zero n = simp (add-zero, div-one, append-nil)
spell_split j (suc k) n = rw (add-suc j k, spell_split j k (n / 10), append_assoc, high_tenth k n)

pub spell_parts : (j k n : ℕ) → spell j (n / 10 ^ k) ++ spell k (n % 10 ^ k) ≡ spell (j + k) n
spell_parts j k n = ap (λ (l : List ℕ). spell j (n / 10 ^ k) ++ l) (spell_low k n) ∙ sym (spell_split j k n)

-- a fact of the digits: of none, of one, and of the tenth part's and one more
module _
    (P : (most n : ℕ) → List ℕ → Type 0)
    (none : (n : ℕ) → P 0 n [])
    (one : (m n : ℕ) → n < 10 → P (suc m) n ((48 + n) ∷ []))
    (more : (m n : ℕ) (l : List ℕ) → 10 ≤ n → P m (n / 10) l → P (suc m) n (l ++ last_digit n)) where
  by_digits : (m n : ℕ) → P m n (digits m n)
  unfolding digits
  by_digits zero n = none n
  by_digits (suc m) n = pick (dec_lt n 10) (by_digits m (n / 10))
    where
      pick : Dec (n < 10) → P m (n / 10) (digits m (n / 10)) → P (suc m) n (digits (suc m) n)
      pick (yes l) p = rw (lt-ltb n 10 l) (one m n l)
      pick (no l) p = rw (le-ltb n 10 (omega arith)) (more m n _ (omega arith) p)

length_last : (l : List ℕ) (x : ℕ) → length (l ++ (x ∷ [])) ≡ suc (length l)
length_last l x = length-append l (x ∷ []) ∙ add-one (length l)

pub decimal_twenty : (n : ℕ) → length (decimal n) ≤ 20
unfolding decimal
decimal_twenty n =
    by_digits (λ m n l. length l ≤ m) (λ n. omega arith) (λ m n h. omega arith) (λ m n l h p. omega (arith, length_last l (48 + n % 10))) 20 n

-- a number below a power of ten
abbrev Most : (m n : ℕ) → List ℕ → Type 0
Most m n l = (k : ℕ) → n < 10 ^ suc k → length l ≤ suc k

pub decimal_most : (k n : ℕ) → 1 ≤ k → n < 10 ^ k → length (decimal n) ≤ k
unfolding decimal
decimal_most zero n lo = absurd (omega arith)
decimal_most (suc k) n lo =
    by_digits Most (λ n k h. omega arith) (λ m n h k i. omega arith) last 20 n k
  where
    last : (m n : ℕ) (l : List ℕ) → 10 ≤ n → Most m (n / 10) l → Most (suc m) n (l ++ last_digit n)
    last m n l h p zero i = absurd (omega arith)
    last m n l h p (suc k) i = omega (arith, length_last l (48 + n % 10), p k (omega (arith, pow-suc 10 (suc k))))

-- ---- digits whose number is known, and a high part's
pub decimal_one : (n : ℕ) → n < 10 → spell 1 n ≡ decimal n
unfolding decimal digits spell
decimal_one n h = let e : n % 10 ≡ n = omega arith in simp (lt-ltb n 10 h, e)

digits_more : (m n : ℕ) → n < 10 ^ suc m → digits (suc m) n ≡ digits (suc (suc m)) n
unfolding digits
digits_more zero n h = let l : n < 10 = omega arith in rw (lt-ltb n 10 l)
digits_more (suc m) n h = pick (dec_lt n 10) (digits_more m (n / 10) (omega (arith, pow-suc 10 (suc m))))
  where
    pick : Dec (n < 10) → digits (suc m) (n / 10) ≡ digits (suc (suc m)) (n / 10) → digits (suc (suc m)) n ≡ digits (suc (suc (suc m))) n
    pick (yes l) e = rw (lt-ltb n 10 l)
    pick (no l) e = rw (le-ltb n 10 (omega arith)) (ap (λ (l : List ℕ). l ++ last_digit n) e)

decimal_last : (n : ℕ) → 10 ≤ n → n < 10 ^ 20 → decimal n ≡ decimal (n / 10) ++ last_digit n
unfolding decimal digits
decimal_last n lo hi = rw (le-ltb n 10 lo) (ap (λ (l : List ℕ). l ++ last_digit n) (digits_more 18 (n / 10) (omega arith)))

decimal_split : (k n : ℕ) → 10 ^ k ≤ n → n < 10 ^ 20 → decimal n ≡ decimal (n / 10 ^ k) ++ spell k n
unfolding spell
decimal_split zero n lo hi = simp (div-one, append-nil)
decimal_split (suc k) n lo hi =
    let p = one-le-pow k 10 (lit< tt) in
    let q = pow-suc 10 k in
    rw (decimal_last n (omega arith) hi, decimal_split k (n / 10) (omega arith) (omega arith), append_assoc, high_tenth k n)

pub decimal_whole : (k n : ℕ) → n / 10 ^ k < 10 → 10 ^ k ≤ n → n < 10 ^ 20 → spell (1 + k) n ≡ decimal n
decimal_whole k n one lo hi = rw (decimal_split k n lo hi, ← decimal_one (n / 10 ^ k) one) (spell_split 1 k n)

pub decimal_parts : (k n : ℕ) → 10 ^ k ≤ n → n < 10 ^ 20 → decimal (n / 10 ^ k) ++ spell k (n % 10 ^ k) ≡ decimal n
decimal_parts k n lo hi = ap (λ (l : List ℕ). decimal (n / 10 ^ k) ++ l) (spell_low k n) ∙ sym (decimal_split k n lo hi)
