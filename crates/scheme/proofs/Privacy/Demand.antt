-- Demand 3 modulo a prime.
--   nothing_told_prime    for every prime above K + U, and tables of any kind
--   nothing_told_sixteen  modulo 65521, for every good plan
--   demand_3              THE THIRD DEMAND, modulo 65521: for admissible figures
-- Assumes nothing.
use mathlib.Core.Path.{◌≡◌}
use mathlib.Core.Bool.{true}
use Prim.Native.Nat.{ℕ, ◌+◌, ◌≤◌, ◌<◌}
use native.Mathlib.Omega.{arith}
use Rattle.algebra.specs.Residue.{Prime}
use Rattle.algebra.proofs.Primes.{prime_65521}
use Rattle.scheme.specs.Scheme.{modular, sixteen, Plan, plan_good}
use Rattle.scheme.specs.Promise.{Table, everyone, admissible, NothingTold, Demand3}
use Rattle.scheme.specs.Modular.{modular_laws}
use Rattle.scheme.proofs.Good.{good}
use Rattle.scheme.proofs.Privacy.Told.{nothing_told}

pub nothing_told_prime : {q : ℕ} → Prime q → (p : Plan) → p.collusion ≤ p.threshold → p.users + p.threshold < q → (kind : Table → Type 0)
    → NothingTold (modular q) p kind
nothing_told_prime {q} prime p more large = nothing_told (modular q) p (modular_laws prime p.users p.threshold large) more

pub nothing_told_sixteen : (p : Plan) → plan_good p ≡ true → (kind : Table → Type 0) → NothingTold sixteen p kind
nothing_told_sixteen p h = let g = good p h in nothing_told_prime prime_65521 p (omega arith) (omega arith)

pub demand_3 : Demand3
unfolding Demand3
demand_3 p uses h = nothing_told_sixteen p h (admissible sixteen p everyone uses)
