-- The set of the users 1 to m.
--   first                           its number
--   first_in, first_out             whom it holds
--   first_size, first_below, first_usable    its size; that it is usable
-- Assumes nothing.
use mathlib.Core.Path.{◌≡◌, refl, sym, ap, ap₂, ◌∙◌}
use mathlib.Core.Bool.{true}
use Prim.Native.Nat.{ℕ, zero, suc, ◌+◌, ◌*◌, ◌-◌, ◌/◌, ◌%◌, ◌^◌, ◌≤◌, ◌<◌}
use native.Mathlib.Nat.{zero-add, pow-suc, pow-zero, div-one, zero-div, zero-mod, div-div-eq-div-mul, mul_comm}
use native.Mathlib.Decide.{dec_le}
use native.Mathlib.Omega.{arith}
use lib.Dec.{eqb}
use borrow.Author.Tests.{le-leb, lt-ltb}
use Rattle.scheme.specs.Scheme.{Plan, in_set, ones, usable}
use Rattle.scheme.proofs.Tests.{holds, and_joined}
use Rattle.scheme.proofs.Lists.{low, high}

pub first : (m : ℕ) → ℕ
first zero = 0
first (suc m) = first m * 2 + 1

bit_suc : (m i : ℕ) → first (suc m) / 2 ^ suc i % 2 ≡ first m / 2 ^ i % 2
unfolding first
bit_suc m i = ap (λ (n : ℕ). first (suc m) / n % 2) (pow-suc 2 i ∙ mul_comm (2 ^ i) 2)
    ∙ ap (λ (n : ℕ). n % 2) (sym (div-div-eq-div-mul (first (suc m)) 2 (2 ^ i)) ∙ ap (λ (n : ℕ). n / 2 ^ i) (high (first m) 1 2 (omega arith)))

bit_in : (m i : ℕ) → i < m → first m / 2 ^ i % 2 ≡ 1
unfolding first
bit_in zero i h = absurd (omega arith)
bit_in (suc m) zero h = ap (λ (n : ℕ). first (suc m) / n % 2) (pow-zero 2) ∙ ap (λ (n : ℕ). n % 2) (div-one _) ∙ low (first m) 1 2 (omega arith)
bit_in (suc m) (suc i) h = bit_suc m i ∙ bit_in m i (omega arith)

bit_out : (m i : ℕ) → m ≤ i → first m / 2 ^ i % 2 ≡ 0
unfolding first
bit_out zero i h = ap (λ (n : ℕ). n % 2) (zero-div (2 ^ i)) ∙ zero-mod 2
bit_out (suc m) zero h = absurd (omega arith)
bit_out (suc m) (suc i) h = bit_suc m i ∙ bit_out m i (omega arith)

pub first_in : (m k : ℕ) → 1 ≤ k → k ≤ m → in_set (first m) k ≡ true
unfolding in_set
first_in m k lo hi = ap (λ (n : ℕ). eqb n 1) (bit_in m (k - 1) (omega arith))

pub first_out : (m k : ℕ) → in_set (first m) k ≡ true → k ≤ m
unfolding in_set
first_out m k e = elim (dec_le k m) [ yes h ↦ h | no h ↦ absurd (holds (sym (ap (λ (n : ℕ). eqb n 1) (bit_out m (k - 1) (omega arith))) ∙ e)) ]

pub first_size : (n m : ℕ) → m ≤ n → ones n (first m) ≡ m
unfolding first ones
first_size zero zero h = refl
first_size zero (suc m) h = absurd (omega arith)
first_size (suc n) zero h = zero-add _ ∙ first_size n zero (omega arith)
first_size (suc n) (suc m) h = ap₂ ◌+◌ (low (first m) 1 2 (omega arith)) (ap (ones n) (high (first m) 1 2 (omega arith)) ∙ first_size n m (omega arith))
    ∙ omega arith

pub first_below : (n m : ℕ) → m ≤ n → first m < 2 ^ n
unfolding first
first_below zero zero h = omega (arith, pow-zero 2)
first_below zero (suc m) h = absurd (omega arith)
first_below (suc n) zero h = omega (arith, first_below n zero (omega arith), pow-suc 2 n)
first_below (suc n) (suc m) h = omega (arith, first_below n m (omega arith), pow-suc 2 n)

pub first_usable : (p : Plan) (m : ℕ) → m ≤ p.users → p.threshold ≤ m → usable p (first m) ≡ true
unfolding usable
first_usable p m hi lo = and_joined (lt-ltb _ _ (first_below p.users m hi))
    (le-leb p.threshold (ones p.users (first m)) (omega (arith, first_size p.users m hi)))
