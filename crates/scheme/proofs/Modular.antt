-- The laws modulo a prime, and modulo 65521.
--   modular_sums, sixteen_sums   those that sums need: of no user and no column
--   sixteen_laws                 modulo 65521, for a good plan
-- Assumes nothing.
use mathlib.Core.Path.{◌≡◌}
use mathlib.Core.Bool.{true}
use Prim.Native.Nat.{ℕ}
use native.Mathlib.Omega.{arith}
use Rattle.algebra.specs.Residue.{Prime}
use Rattle.algebra.proofs.Residue.{prime_positive}
use Rattle.algebra.proofs.Primes.{prime_65521}
use Rattle.scheme.specs.Scheme.{modular, sixteen, Plan, plan_good}
use Rattle.scheme.specs.Laws.{Laws}
use Rattle.scheme.specs.Modular.{modular_laws, sixteen_field}
use Rattle.scheme.proofs.Good.{good}

unfoldable pub modular_sums : {q : ℕ} → Prime q → Laws (modular q) 0 0
modular_sums prime = modular_laws prime 0 0 (prime_positive prime)

unfoldable pub sixteen_sums : Laws sixteen 0 0
sixteen_sums = modular_sums prime_65521

unfoldable pub sixteen_laws : (p : Plan) → plan_good p ≡ true → Laws sixteen p.users p.threshold
sixteen_laws p h = let g = good p h in sixteen_field p.users p.threshold (omega arith)
