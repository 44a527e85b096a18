-- `plan::reach_of` meets its contract, variant by variant. Assumes nothing.
use Rattle.std.proofs.Common.{sym, ap, arith}
use Rattle.scheme.specs.Scheme.{sixteen, reach}
use Rattle.plan.specs.declared.Use.{Use}
use Rattle.plan.specs.Plan.{use_of}
use Rattle.plan.proofs.reach_of.Goals as goal

pub returns-in-Counts : goal.returns-in-Counts
unfolding reach
returns-in-Counts c = (ap (λ (u : Use). reach sixteen (use_of u)) (sym c.in-Counts.is), omega arith)

pub returns-in-Signed : goal.returns-in-Signed
unfolding reach
returns-in-Signed c = (ap (λ (u : Use). reach sixteen (use_of u)) (sym c.in-Signed.is), omega arith)
