-- `keys::write_products_of` meets its contract: one user a turn (Making.Writing.products_more). Assumes nothing.
use Rattle.std.proofs.Common.{◌≡◌, ℕ, length}
use Rattle.scheme.specs.Limits.{cells}
use Rattle.scheme.specs.Scheme.{sixteen}
use Rattle.scheme.specs.KeyParts.{Coefficients, Products}
use Rattle.plan.specs.Plan.{plan_of}
use Rattle.keys.proofs.write_products_of.Given as goal

abbrev pub invariant-loop-k : goal.invariant-loop-k
invariant-loop-k l = (length l.products ≡ cells)
    × ((u : ℕ) → Coefficients sixteen u 1 l.n l.factors → Products sixteen (plan_of l.fn.plan) u l.list l.k l.products)
