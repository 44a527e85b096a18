-- A set without one of its users.
--   without_other, without_itself, without_in     whom it holds
--   without_ones                                  it has one user fewer
-- Assumes nothing.
use mathlib.Core.Path.{◌≡◌, refl, sym, ap, ◌∙◌}
use mathlib.Core.Logic.{◌≢◌}
use mathlib.Core.Bool.{true, false}
use Prim.Native.Nat.{ℕ, zero, suc, ◌+◌, ◌*◌, ◌-◌, ◌/◌, ◌%◌, ◌^◌, ◌≤◌}
use native.Mathlib.Nat.{pow-suc, pow-zero, div-one, div-add-mod', mod-lt}
use native.Mathlib.Omega.{arith}
use lib.Dec.{eqb}
use borrow.Author.Tests.{eqb-true}
use Rattle.scheme.specs.Scheme.{in_set, ones}
use Rattle.scheme.specs.Aside.{without}
use Rattle.scheme.proofs.Tests.{holds}
use Rattle.scheme.proofs.Lists.{high, low}
use Rattle.scheme.proofs.Pooling.Held.{in_half}

in_one : (v : ℕ) → in_set v 1 ≡ eqb (v % 2) 1
unfolding in_set
in_one v = ap (λ (x : ℕ). eqb (x % 2) 1) (div-one v)

odd : (v : ℕ) → in_set v 1 ≡ true → v % 2 ≡ 1
odd v h = eqb-true (v % 2) 1 (sym (in_one v) ∙ h)

-- a set that holds a user is no less than the user's bit
at_least : (v k : ℕ) → in_set v (suc k) ≡ true → 2 ^ k ≤ v
at_least v zero h = omega (arith, odd v h, div-add-mod' v 2, pow-zero 2)
at_least v (suc k) h = omega (arith, div-add-mod' v 2, pow-suc 2 k, at_least (v / 2) k (sym (in_half v k) ∙ h))

-- its half and its lowest bit: without user 1 the bit goes, without a later one the half has one user fewer
module _ (v : ℕ) where
  first : in_set v 1 ≡ true → without v 1 ≡ v / 2 * 2 + 0
  unfolding without
  first h = omega (arith, odd v h, div-add-mod' v 2, pow-zero 2)

  first_half : in_set v 1 ≡ true → without v 1 / 2 ≡ v / 2
  first_half h = ap (λ (x : ℕ). x / 2) (first h) ∙ high (v / 2) 0 2 (omega arith)

  first_bit : in_set v 1 ≡ true → without v 1 % 2 ≡ 0
  first_bit h = ap (λ (x : ℕ). x % 2) (first h) ∙ low (v / 2) 0 2 (omega arith)

  module _ (k : ℕ) (h : in_set v (suc (suc k)) ≡ true) where
    later : without v (suc (suc k)) ≡ without (v / 2) (suc k) * 2 + v % 2
    unfolding without
    later =
        let e : suc k - 1 ≡ k = omega arith in
        let d : suc (suc k) - 1 ≡ suc k = omega arith in
        let half : v - 2 ^ suc k ≡ (v / 2 - 2 ^ k) * 2 + v % 2
        = omega (arith, div-add-mod' v 2, pow-suc 2 k, at_least (v / 2) k (sym (in_half v k) ∙ h)) in
        ap (λ (i : ℕ). v - 2 ^ i) d ∙ half ∙ ap (λ (i : ℕ). (v / 2 - 2 ^ i) * 2 + v % 2) (sym e)

    later_half : without v (suc (suc k)) / 2 ≡ without (v / 2) (suc k)
    later_half = ap (λ (x : ℕ). x / 2) later ∙ high (without (v / 2) (suc k)) (v % 2) 2 (mod-lt v (omega arith))

    later_bit : without v (suc (suc k)) % 2 ≡ v % 2
    later_bit = ap (λ (x : ℕ). x % 2) later ∙ low (without (v / 2) (suc k)) (v % 2) 2 (mod-lt v (omega arith))

-- ---- whom it holds
pub without_other : (v k i : ℕ) → 1 ≤ k → in_set v k ≡ true → 1 ≤ i → i ≢ k → in_set (without v k) i ≡ in_set v i
without_other v zero i lk h li ne = absurd (omega arith)
without_other v (suc k) zero lk h li ne = absurd (omega arith)
without_other v (suc zero) (suc zero) lk h li ne = absurd (ne refl)
without_other v (suc zero) (suc (suc i)) lk h li ne =
    in_half (without v 1) i ∙ ap (λ (x : ℕ). in_set x (suc i)) (first_half v h) ∙ sym (in_half v i)
without_other v (suc (suc k)) (suc zero) lk h li ne =
    in_one (without v (suc (suc k))) ∙ ap (λ (x : ℕ). eqb x 1) (later_bit v k h) ∙ sym (in_one v)
without_other v (suc (suc k)) (suc (suc i)) lk h li ne =
    in_half (without v (suc (suc k))) i ∙ ap (λ (x : ℕ). in_set x (suc i)) (later_half v k h)
    ∙ without_other (v / 2) (suc k) (suc i) (omega arith) (sym (in_half v k) ∙ h) (omega arith) (λ e. ne (ap suc e)) ∙ sym (in_half v i)

pub without_itself : (v k : ℕ) → 1 ≤ k → in_set v k ≡ true → in_set (without v k) k ≡ false
without_itself v zero lk h = absurd (omega arith)
without_itself v (suc zero) lk h = in_one (without v 1) ∙ ap (λ (x : ℕ). eqb x 1) (first_bit v h)
without_itself v (suc (suc k)) lk h =
    in_half (without v (suc (suc k))) k ∙ ap (λ (x : ℕ). in_set x (suc k)) (later_half v k h)
    ∙ without_itself (v / 2) (suc k) (omega arith) (sym (in_half v k) ∙ h)

-- another user, and one of the set
pub without_in : (v k i : ℕ) → 1 ≤ k → in_set v k ≡ true → 1 ≤ i → in_set (without v k) i ≡ true → (i ≢ k) × (in_set v i ≡ true)
without_in v k i lk h li m =
    let ne : i ≢ k = λ e. holds (sym (ap (in_set (without v k)) e ∙ without_itself v k lk h) ∙ m) in
    (ne, sym (without_other v k i lk h li ne) ∙ m)

-- ---- one user fewer
pub without_ones : (n v k : ℕ) → 1 ≤ k → k ≤ n → in_set v k ≡ true → ones n (without v k) + 1 ≡ ones n v
unfolding ones
without_ones n v zero lo hi h = absurd (omega arith)
without_ones zero v (suc k) lo hi h = absurd (omega arith)
without_ones (suc n) v (suc zero) lo hi h = omega (arith, odd v h, first_bit v h, ap (ones n) (first_half v h))
without_ones (suc n) v (suc (suc k)) lo hi h =
    omega (arith, later_bit v k h, ap (ones n) (later_half v k h), without_ones n (v / 2) (suc k) (omega arith) (omega arith) (sym (in_half v k) ∙ h))
