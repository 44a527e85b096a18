-- `plan::count_usable` meets its contract: the count is that of the plan. Assumes nothing.
use Rattle.std.proofs.Common.{◌∙◌}
use Rattle.plan.proofs.Counts.{sets_same}
use Rattle.plan.proofs.count_usable.Goals as goal

pub returns : goal.returns
returns c = (c.count_of.ensures.0 ∙ sets_same _, c.count_of.ensures.1)
