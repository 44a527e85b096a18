-- Sets of users, and where the masks and the noise stand in the random list.
--   users_in_in, user_in, in_users  the users of a set
--   in_low, in_high                 those of its low part and of its high part
--   members_same, none_in           the same test; the empty set
--   count_ones, users_in_size       as many as the set number has ones
--   ones_le                         no more than there are users
--   ones_split, ones_beyond         the size in two parts; users beyond the set
--   usable_below, usable_size       what makes a set usable
--   usable_split                    the same of its two parts
--   colluders_few, colluders_in_in  the colluders in a set
--   place_lt                        the place of a block's item
--   mask_lt, noise_lt               within the list
-- Assumes nothing.
use mathlib.Core.Path.{◌≡◌, refl, sym, ap, ap₂, ◌∙◌}
use mathlib.Core.Bool.{Bool, true, ◌&&◌}
use mathlib.Core.List.{List, []}
use Prim.Native.Nat.{ℕ, zero, suc, ◌+◌, ◌*◌, ◌-◌, ◌/◌, ◌%◌, ◌^◌, ◌≤◌, ◌<◌}
use native.Mathlib.Nat.{add_comm, mul_comm, mul_assoc, mod-lt, mod-eq_of_lt, mod-add-div', add-mul-mod_self_right, pow-suc, one-le-pow, zero-div, div-eq_of_lt, div-div-eq-div-mul, add-mul-div_right, div-one}
use native.Mathlib.Omega.{arith}
use lib.Dec.{ltb, leb, eqb}
use lib.ListN.{length, length-append}
use lib.Pow.{pow-add}
use borrow.Author.Tests.{lt-ltb, ltb-true, leb-true}
use Rattle.algebra.specs.Sums.{In}
use Rattle.scheme.specs.Lists.{keep, members, rank}
use Rattle.scheme.specs.Scheme.{Plan, items, places, in_set, ones, usable, users_in, usable_sets, list_length, noise_start}
use Rattle.scheme.specs.Delta.{colluders_in}
use Rattle.scheme.proofs.Tests.{and_both}
use Rattle.scheme.proofs.Lists.{members_append, members_in, in_members, members_fewer, members_le, rank_lt, high, low, digits_lt}

pub users_in_in : (p : Plan) (v k : ℕ) → In k (users_in p v) → (1 ≤ k) × (k ≤ p.users) × (in_set v k ≡ true)
unfolding users_in
users_in_in p v k h = let s = members_in (in_set v) p.users 1 k h in (s.0, omega arith, s.2)

pub user_in : (p : Plan) (v k : ℕ) → In k (users_in p v) → (1 ≤ k) × (k ≤ p.users)
user_in p v k h = let s = users_in_in p v k h in (s.0, s.1)

pub in_users : (p : Plan) (v k : ℕ) → 1 ≤ k → k ≤ p.users → in_set v k ≡ true → In k (users_in p v)
unfolding users_in
in_users p v k lo hi e = in_members (in_set v) p.users 1 k lo (omega arith) e

-- ---- the low and the high part of a set
-- bit j of the low part, below bit h
low_bit : (v j d : ℕ) → v % 2 ^ (j + suc d) / 2 ^ j % 2 ≡ v / 2 ^ j % 2
low_bit v j d =
    let w : ℕ = 2 ^ (j + suc d) in
    let m : ℕ = v / w * 2 ^ d in
    let e : w ≡ 2 ^ d * 2 * 2 ^ j = pow-add 2 j (suc d) ∙ ap (λ (x : ℕ). 2 ^ j * x) (pow-suc 2 d) ∙ mul_comm (2 ^ j) (2 ^ d * 2) in
    let f : v / w * w ≡ m * 2 * 2 ^ j =
    ap (λ (x : ℕ). v / w * x) e ∙ sym (mul_assoc (v / w) (2 ^ d * 2) (2 ^ j)) ∙ ap (λ (x : ℕ). x * 2 ^ j) (sym (mul_assoc (v / w) (2 ^ d) 2)) in
    let g : v ≡ v % w + m * 2 * 2 ^ j = sym (mod-add-div' v w) ∙ ap (λ (x : ℕ). v % w + x) f in
    sym (ap (λ (x : ℕ). x / 2 ^ j % 2) g ∙ ap (λ (x : ℕ). x % 2) (add-mul-div_right (v % w) (m * 2) (one-le-pow j 2 (omega arith)))
    ∙ add-mul-mod_self_right (v % w / 2 ^ j) m 2)

pub in_low : (v h k : ℕ) → 1 ≤ k → k ≤ h → in_set v k ≡ in_set (v % 2 ^ h) k
unfolding in_set
in_low v h k lo hi =
    let e : h ≡ k - 1 + suc (h - k) = omega arith in
    ap (λ (x : ℕ). eqb x 1) (sym (ap (λ (n : ℕ). v % 2 ^ n / 2 ^ (k - 1) % 2) e ∙ low_bit v (k - 1) (h - k)))

pub in_high : (v h k : ℕ) → 1 ≤ k → in_set v (h + k) ≡ in_set (v / 2 ^ h) k
unfolding in_set
in_high v h k lo =
    let e : h + k - 1 ≡ h + (k - 1) = omega arith in
    ap (λ (x : ℕ). eqb (x % 2) 1)
    (ap (λ (n : ℕ). v / 2 ^ n) e ∙ ap (λ (n : ℕ). v / n) (pow-add 2 h (k - 1)) ∙ sym (div-div-eq-div-mul v (2 ^ h) (2 ^ (k - 1))))

pub members_same : (t u : ℕ → Bool) (n k : ℕ) → ((i : ℕ) → k ≤ i → i < k + n → t i ≡ u i) → members t n k ≡ members u n k
members_same t u zero k h = refl
members_same t u (suc n) k h =
    ap₂ (λ (b : Bool) (l : List ℕ). keep b k l) (h k (omega arith) (omega arith)) (members_same t u n (suc k) (λ i lo hi. h i (omega arith) (omega arith)))

pub none_in : (n k : ℕ) → members (in_set 0) n k ≡ []
unfolding in_set
none_in zero k = refl
none_in (suc n) k =
    ap₂ (λ (b : Bool) (l : List ℕ). keep b k l) (ap (λ (x : ℕ). eqb (x % 2) 1) (zero-div (2 ^ (k - 1)))) (none_in n (suc k))

-- ---- its size
-- one bit
bit : (b k : ℕ) (l : List ℕ) → b < 2 → length (keep (eqb b 1) k l) ≡ b + length l
bit zero k l h = omega arith
bit (suc zero) k l h = omega arith
bit (suc (suc b)) k l h = absurd (omega arith)

count : (n k v : ℕ) → length (members (in_set v) n (suc k)) ≡ ones n (v / 2 ^ k)
unfolding in_set ones
count zero k v = refl
count (suc n) k v =
    let e : suc k - 1 ≡ k = omega arith in
    rw e
    (bit (v / 2 ^ k % 2) (suc k) (members (in_set v) n (suc (suc k))) (mod-lt (v / 2 ^ k) (omega arith))
    ∙ ap (λ (x : ℕ). v / 2 ^ k % 2 + x)
    (count n (suc k) v ∙ ap (ones n) (ap (λ (x : ℕ). v / x) (pow-suc 2 k) ∙ sym (div-div-eq-div-mul v (2 ^ k) 2))))

pub count_ones : (n v : ℕ) → length (members (in_set v) n 1) ≡ ones n v
count_ones n v = count n 0 v ∙ ap (ones n) (div-one v)

pub ones_le : (n v : ℕ) → ones n v ≤ n
ones_le n v = omega (arith, count_ones n v, members_le (in_set v) n 1)

-- counted in two parts, wherever the set is split
pub ones_split : (h n v : ℕ) → ones (h + n) v ≡ ones h (v % 2 ^ h) + ones n (v / 2 ^ h)
ones_split h n v =
    let low : members (in_set v) h 1 ≡ members (in_set (v % 2 ^ h)) h 1 = members_same _ _ h 1 (λ i lo hi. in_low v h i lo (omega arith)) in
    let one_more : 1 + h ≡ suc h = omega arith in
    sym (count_ones (h + n) v) ∙ ap length (members_append (in_set v) h n 1) ∙ length-append (members (in_set v) h 1) (members (in_set v) n (1 + h))
    ∙ ap₂ ◌+◌ (ap length low ∙ count_ones h (v % 2 ^ h)) (ap (λ (i : ℕ). length (members (in_set v) n i)) one_more ∙ count n h v)

pub ones_beyond : (h n v : ℕ) → v < 2 ^ h → ones (h + n) v ≡ ones h v
ones_beyond h n v low =
    let none : ones n 0 ≡ 0 = sym (count_ones n 0) ∙ ap length (none_in n 1) in
    ones_split h n v ∙ ap₂ (λ (x y : ℕ). ones h x + ones n y) (mod-eq_of_lt low) (div-eq_of_lt low) ∙ omega (arith, none)

pub users_in_size : (p : Plan) (v : ℕ) → length (users_in p v) ≡ ones p.users v
unfolding users_in
users_in_size p v = count_ones p.users v

pub usable_below : (p : Plan) (v : ℕ) → usable p v ≡ true → v < 2 ^ p.users
unfolding usable
usable_below p v h = ltb-true _ _ (and_both (ltb v (2 ^ p.users)) _ h).0

pub usable_size : (p : Plan) (v : ℕ) → usable p v ≡ true → p.threshold ≤ ones p.users v
unfolding usable
usable_size p v h = leb-true _ _ (and_both (ltb v (2 ^ p.users)) _ h).1

pub usable_split : (p : Plan) (h x y : ℕ) → x < 2 ^ h → y * 2 ^ h + x < 2 ^ p.users → p.users ≤ h + h
    → usable p (y * 2 ^ h + x) ≡ leb p.threshold (ones h y + ones h x)
unfolding usable
usable_split p h x y less inside few =
    let v : ℕ = y * 2 ^ h + x in
    let k : ℕ = p.users in
    let all : k + (h + h - k) ≡ h + h = omega arith in
    let size : ones k v ≡ ones h y + ones h x =
    sym (ones_beyond k (h + h - k) v inside) ∙ ap (λ (n : ℕ). ones n v) all ∙ ones_split h h v
    ∙ ap₂ (λ (a b : ℕ). ones h a + ones h b) (low y x (2 ^ h) less) (high y x (2 ^ h) less) ∙ add_comm (ones h x) (ones h y) in
    rw (lt-ltb _ _ inside) (ap (leb p.threshold) size)

pub colluders_few : (p : Plan) (c w : ℕ) → ones p.users c ≤ p.collusion → length (colluders_in p c w) ≤ p.collusion
unfolding colluders_in
colluders_few p c w few = omega (arith, members_fewer (in_set c) (in_set w) p.users 1, count_ones p.users c)

pub colluders_in_in : (p : Plan) (c w k : ℕ) → In k (colluders_in p c w) → (1 ≤ k) × (k ≤ p.users)
unfolding colluders_in
colluders_in_in p c w k h = let s = members_in (λ k. in_set c k && in_set w k) p.users 1 k h in (s.0, omega arith)

pub place_lt : (p : Plan) (b j : ℕ) → b < p.blocks → 1 ≤ j → j ≤ items p → b * items p + (j - 1) < places p
unfolding places
place_lt p b j h lo hi = digits_lt b p.blocks (j - 1) (items p) h (omega arith)

pub mask_lt : (p : Plan) (k i : ℕ) → 1 ≤ k → k ≤ p.users → i < places p → (k - 1) * places p + i < p.users * places p
mask_lt p k i lo hi h = digits_lt (k - 1) p.users i (places p) (omega arith) h

pub noise_lt : (p : Plan) (v b i : ℕ) → usable p v ≡ true → b < p.blocks → i < p.collusion → noise_start p v b + i < list_length p
unfolding noise_start list_length usable_sets
noise_lt p v b i u h l =
    let s = rank_lt (usable p) (2 ^ p.users) v (usable_below p v u) u in
    let n = length (members (usable p) (2 ^ p.users) 0) in
    omega (arith, digits_lt (rank (usable p) v * p.blocks + b) (n * p.blocks) i p.collusion (digits_lt (rank (usable p) v) n b p.blocks s h) l)
