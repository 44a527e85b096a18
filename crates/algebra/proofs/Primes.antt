-- Primes by trial division up to the root.
--   divides_not, trial     none of n numbers from a on divides q, as a computation
--   prime_by_root          no divisor from 2 to s + 1, and q below (s + 1)²: q is prime
--   prime_65521            65521 is prime
use mathlib.Core.Path.{◌≡◌}
use mathlib.Core.Logic.{◌≢◌}
use mathlib.Core.Bool.{Bool, true, false}
use lib.Dec.{T, lit<, lit≤}
use Prim.Native.Nat.{ℕ, zero, suc, ◌+◌, ◌*◌, ◌/◌, ◌%◌, ◌≤◌, ◌<◌}
use native.Mathlib.Nat.{div-add-mod', mul-le-mul, mul-mod_right, zero-mul, one-mul}
use native.Mathlib.Decide.{ℕ_discrete, dec_le}
use native.Mathlib.Omega.{arith}
use Rattle.algebra.specs.Residue.{Prime}

abbrev pub divides_not : (remainder : ℕ) → Bool → Bool
divides_not zero b = false
divides_not (suc r) b = b

abbrev pub trial : (n q a : ℕ) → Bool
trial zero q a = true
trial (suc n) q a = divides_not (q % a) (trial n q (suc a))

not_divided : (r : ℕ) (b : Bool) → T (divides_not r b) → (r ≢ 0) × T b
not_divided zero b t = absurd t
not_divided (suc r) b t = (omega arith, t)

trial_right : (n q a : ℕ) → T (trial n q a) → (d : ℕ) → a ≤ d → d < a + n → q % d ≢ 0
trial_right zero q a t d low high = absurd (omega arith)
trial_right (suc n) q a t d low high = go (ℕ_discrete d a) (trial_right n q (suc a) now.1 d)
  where
    now : (q % a ≢ 0) × T (trial n q (suc a))
    now = not_divided (q % a) (trial n q (suc a)) t

    go : Dec (d ≡ a) → (suc a ≤ d → d < suc a + n → q % d ≢ 0) → q % d ≢ 0
    go (yes e) later = rw e now.0
    go (no ne) later = later (omega arith) (omega arith)

module _ (q s : ℕ) (root : q < suc s * suc s) (none : (d : ℕ) → 1 < d → d ≤ s → q % d ≢ 0) where
  -- of two factors one is at most the root
  cofactor : (b a : ℕ) → b * a ≡ q → 1 < a → a < q → s < a → ⊥
  cofactor zero a e low high l = omega (arith, zero-mul a)
  cofactor (suc zero) a e low high l = omega (arith, one-mul a)
  cofactor (suc (suc b)) a e low high l = go (dec_le (suc (suc b)) s)
    where
      go : Dec (suc (suc b) ≤ s) → ⊥
      go (yes k) = none (suc (suc b)) (omega arith) k (rw (← e) (mul-mod_right (suc (suc b)) a))
      go (no k) = omega (arith, mul-le-mul {n₁ = suc s} {m₁ = suc s} {n₂ = suc (suc b)} {m₂ = a} (omega arith) l)

  no_factor : (a : ℕ) → 1 < a → a < q → q % a ≢ 0
  no_factor a low high e = go (dec_le a s)
    where
      go : Dec (a ≤ s) → ⊥
      go (yes l) = none a low l e
      go (no l) = cofactor (q / a) a (omega (arith, div-add-mod' q a)) low high (omega arith)

pub prime_by_root : (q s : ℕ) → 2 ≤ q → q < suc s * suc s → T (trial s q 2) → Prime q
prime_by_root q s two root t = record { two = two; no_divisor = no_factor q s root (λ d low high. trial_right s q 2 t d low (omega arith)) }

pub prime_65521 : Prime 65521
prime_65521 = prime_by_root 65521 255 (lit≤ tt) (lit< tt) tt
