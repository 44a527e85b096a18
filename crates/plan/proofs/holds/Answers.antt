-- `plan::holds` meets its contract: the shift is the definition's division.
-- Assumes nothing.
use Rattle.std.proofs.Common.{rules}
use Rattle.scheme.specs.Scheme.{in_set}
use Rattle.plan.proofs.holds.Goals as goal

pub returns : goal.returns
unfolding in_set
returns c = search rules
