-- The plan and the use of the code as those of the definitions.
--   plan_of, plan_from   the same four numbers, there and back
--   code_plan            the plan of the code from its numbers
--   use_of, code_use     the same use; the use of the code from its number
-- Assumes nothing: these are definitions.
use Rattle.std.specs.Prelude.{ℕ, zero, suc}
use Rattle.scheme.specs.Scheme as scheme
use Rattle.plan.specs.declared.Plan.{Plan}
use Rattle.plan.specs.declared.Use.{Use}
use Rattle.plan.specs.declared.Use.TheVariants.{Counts, Signed}

abbrev pub plan_of : Plan → scheme.Plan
plan_of p = record { users = p.users; threshold = p.threshold; collusion = p.collusion; blocks = p.blocks }

abbrev pub code_plan : (users threshold collusion blocks : ℕ) → Plan
code_plan n u t m = record { users = n; threshold = u; collusion = t; blocks = m }

abbrev pub plan_from : scheme.Plan → Plan
plan_from p = code_plan p.users p.threshold p.collusion p.blocks

abbrev pub use_of : Use → scheme.Use
use_of Counts = scheme.counts
use_of Signed = scheme.signed

-- 0 is counts, anything else signed
abbrev pub code_use : ℕ → Use
code_use zero = Counts
code_use (suc n) = Signed
