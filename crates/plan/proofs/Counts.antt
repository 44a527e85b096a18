-- Laws of the counts of sets.
--   by_bit                the numbers below 2 ^ suc n that pass a test, by their lowest bits
--   sets_next, held_first, held_next    so of the sets with enough members, and of those of them that hold a user
--   held                  a user given, these are the sets of the other users with one member less
--   sets_same, with_same  the counts of a plan's usable sets, and of those that hold a user
--   sets_few              at most most_sets
--   sets_entry            the table's entry of a number of users and a threshold
-- Assumes nothing.
use Rattle.std.proofs.Common.{◌≡◌, refl, sym, ap, ap₂, ◌∙◌, Bool, true, false, ◌&&◌, cond, ℕ, zero, suc, ◌+◌, ◌*◌, ◌-◌, ◌/◌, ◌%◌, ◌^◌, ◌≤◌, ◌<◌, zero-add, mul_comm, pow-suc, div-one, add-one, arith, ltb, leb, eqb, length, pow_mono, lt-ltb, le-leb}
use native.Mathlib.Nat.{div-div-eq-div-mul}
use native.Mathlib.Decide.{dec_le}
use borrow.Author.Tests.{lt-leb}
use Rattle.scheme.specs.Limits.{most_users, most_sets}
use Rattle.scheme.specs.Lists.{rank}
use Rattle.scheme.specs.Scheme.{Plan, in_set, ones, usable, usable_with, usable_sets, sets_with}
use Rattle.scheme.proofs.Tests.{and_true, and_false}
use Rattle.scheme.proofs.Lists.{members_le, rank_start, rank_more, high, low}
use Rattle.plan.specs.Counts.{sets_of, sets_rule}

-- ---- by the lowest bit
rank_suc : (t : ℕ → Bool) (n : ℕ) → rank t (suc n) ≡ rank t n + cond (t n) 1 0
rank_suc t n = ap (rank t) (sym (add-one n)) ∙ rank_more t n

same_rank : (s t : ℕ → Bool) (n : ℕ) → ((v : ℕ) → v < n → s v ≡ t v) → rank s n ≡ rank t n
same_rank s t zero h = rank_start s ∙ sym (rank_start t)
same_rank s t (suc n) h =
    rank_suc s n ∙ ap₂ (λ (m : ℕ) (b : Bool). m + cond b 1 0) (same_rank s t n (λ v l. h v (omega arith))) (h n (omega arith)) ∙ sym (rank_suc t n)

halves : (t : ℕ → Bool) (m : ℕ) → rank t (2 * m) ≡ rank (λ w. t (2 * w)) m + rank (λ w. t (2 * w + 1)) m
halves t zero = omega (arith, rank_start t, rank_start (λ w. t (2 * w)), rank_start (λ w. t (2 * w + 1)))
halves t (suc m) =
    let e : 2 * suc m ≡ 2 * m + 1 + 1 = omega arith in
    ap (rank t) e
    ∙ omega (arith, rank_more t (2 * m + 1), rank_more t (2 * m), halves t m, rank_suc (λ w. t (2 * w)) m, rank_suc (λ w. t (2 * w + 1)) m)

twice : (n : ℕ) → 2 ^ suc n ≡ 2 * 2 ^ n
twice n = pow-suc 2 n ∙ mul_comm (2 ^ n) 2

by_bit : (t even odd : ℕ → Bool) (n : ℕ) → ((w : ℕ) → t (2 * w) ≡ even w) → ((w : ℕ) → t (2 * w + 1) ≡ odd w)
    → rank t (2 ^ suc n) ≡ rank even (2 ^ n) + rank odd (2 ^ n)
by_bit t even odd n h l =
    ap (rank t) (twice n) ∙ halves t (2 ^ n) ∙ ap₂ ◌+◌ (same_rank _ even (2 ^ n) (λ w b. h w)) (same_rank _ odd (2 ^ n) (λ w b. l w))

none : (n : ℕ) → rank (λ v. false) n ≡ 0
none zero = rank_start (λ v. false)
none (suc n) = omega (arith, rank_suc (λ v. false) n, none n)

-- the sets of n users with at least u members, and those of them that hold user k
abbrev all_sets : (n u : ℕ) → ℕ
all_sets n u = rank (λ v. leb u (ones n v)) (2 ^ n)

abbrev sets_holding : (n u k : ℕ) → ℕ
sets_holding n u k = rank (λ v. leb u (ones n v) && in_set v k) (2 ^ n)

enough_even : (n u w : ℕ) → leb u (ones (suc n) (2 * w)) ≡ leb u (ones n w)
unfolding ones
enough_even n u w =
    let e : 2 * w % 2 ≡ 0 = omega arith in
    let f : 2 * w / 2 ≡ w = omega arith in
    rw (e, f, zero-add)

one_less : (u m : ℕ) → leb u (1 + m) ≡ leb (u - 1) m
one_less u m = pick (dec_le u (1 + m))
  where
    pick : Dec (u ≤ 1 + m) → leb u (1 + m) ≡ leb (u - 1) m
    pick (yes h) = le-leb u (1 + m) h ∙ sym (le-leb (u - 1) m (omega arith))
    pick (no h) = lt-leb u (1 + m) (omega arith) ∙ sym (lt-leb (u - 1) m (omega arith))

enough_odd : (n u w : ℕ) → leb u (ones (suc n) (2 * w + 1)) ≡ leb (u - 1) (ones n w)
unfolding ones
enough_odd n u w =
    let e : (2 * w + 1) % 2 ≡ 1 = omega arith in
    let f : (2 * w + 1) / 2 ≡ w = omega arith in
    rw (e, f) (one_less u (ones n w))

bit_next : (v w k : ℕ) → v / 2 ≡ w → in_set v (suc (suc k)) ≡ in_set w (suc k)
unfolding in_set
bit_next v w k e =
    let f : suc (suc k) - 1 ≡ suc k = omega arith in
    let g : suc k - 1 ≡ k = omega arith in
    rw (f, g) (ap (λ (x : ℕ). eqb (x % 2) 1)
    (ap (λ (x : ℕ). v / x) (twice k) ∙ sym (div-div-eq-div-mul v 2 (2 ^ k)) ∙ ap (λ (x : ℕ). x / 2 ^ k) e))

sets_next : (n u : ℕ) → all_sets (suc n) u ≡ all_sets n u + all_sets n (u - 1)
sets_next n u = by_bit _ _ _ n (enough_even n u) (enough_odd n u)

held_first : (n u : ℕ) → sets_holding (suc n) u 1 ≡ all_sets n (u - 1)
unfolding in_set
held_first n u =
    let even : (w : ℕ) → eqb (2 * w / 1 % 2) 1 ≡ false = λ w. let e : 2 * w % 2 ≡ 0 = omega arith in rw (div-one, e) in
    let odd : (w : ℕ) → eqb ((2 * w + 1) / 1 % 2) 1 ≡ true = λ w. let e : (2 * w + 1) % 2 ≡ 1 = omega arith in rw (div-one, e) in
    by_bit _ (λ v. false) _ n (λ w. rw (even w) (and_false (leb u (ones (suc n) (2 * w)))))
    (λ w. rw (odd w) (and_true (leb u (ones (suc n) (2 * w + 1)))) ∙ enough_odd n u w)
    ∙ ap (λ (m : ℕ). m + all_sets n (u - 1)) (none (2 ^ n)) ∙ zero-add _

held_next : (n u k : ℕ) → sets_holding (suc n) u (suc (suc k)) ≡ sets_holding n u (suc k) + sets_holding n (u - 1) (suc k)
held_next n u k =
    by_bit _ _ _ n (λ w. ap₂ ◌&&◌ (enough_even n u w) (bit_next (2 * w) w k (omega arith)))
    (λ w. ap₂ ◌&&◌ (enough_odd n u w) (bit_next (2 * w + 1) w k (omega arith)))

held : (n u k : ℕ) → k ≤ n → sets_holding (suc n) u (suc k) ≡ all_sets n (u - 1)
held n u zero h = held_first n u
held zero u (suc k) h = absurd (omega arith)
held (suc n) u (suc k) h =
    held_next (suc n) u k ∙ ap₂ ◌+◌ (held n u k (omega arith)) (held n (u - 1) k (omega arith)) ∙ sym (sets_next n (u - 1))

-- ---- of a plan
sets_all : (n u : ℕ) → sets_of n u ≡ all_sets n u
unfolding sets_of usable_sets usable rank
sets_all n u = same_rank (λ v. ltb v (2 ^ n) && leb u (ones n v)) (λ v. leb u (ones n v)) (2 ^ n) (λ v h. rw (lt-ltb v (2 ^ n) h))

pub sets_same : (p : Plan) → sets_of p.users p.threshold ≡ length (usable_sets p)
unfolding sets_of usable_sets usable
sets_same p = refl

with_all : (p : Plan) (k : ℕ) → length (sets_with p k) ≡ sets_holding p.users p.threshold k
unfolding sets_with usable_with usable rank
with_all p k =
    same_rank (λ v. (ltb v (2 ^ p.users) && leb p.threshold (ones p.users v)) && in_set v k)
    (λ v. leb p.threshold (ones p.users v) && in_set v k) (2 ^ p.users) (λ v h. rw (lt-ltb v (2 ^ p.users) h))

pub with_same : (p : Plan) (k : ℕ) → 1 ≤ k → k ≤ p.users → sets_of (p.users - 1) (p.threshold - 1) ≡ length (sets_with p k)
with_same p k lo hi =
    let n : p.users ≡ suc (p.users - 1) = omega arith in
    let i : k ≡ suc (k - 1) = omega arith in
    sets_all (p.users - 1) (p.threshold - 1) ∙ sym (held (p.users - 1) p.threshold (k - 1) (omega arith))
    ∙ ap₂ (λ (m j : ℕ). sets_holding m p.threshold j) (sym n) (sym i) ∙ sym (with_all p k)

pub sets_few : (n u : ℕ) → n ≤ most_users → sets_of n u ≤ most_sets
unfolding rank
sets_few n u h = omega (arith, sets_all n u, members_le (λ v. leb u (ones n v)) (2 ^ n) 0, pow_mono {j = most_users} h)

-- ---- the table
pub sets_entry : (n u : ℕ) → u < most_users → sets_rule (n * most_users + u) ≡ sets_of n u
unfolding sets_rule
sets_entry n u h = rw (high n u most_users h, low n u most_users h)
