-- `plan::count_holding` meets its contract: the other users of a set that holds one are a set of one user less. Assumes nothing.
use Rattle.std.proofs.Common.{◌∙◌}
use Rattle.plan.proofs.Counts.{with_same}
use Rattle.plan.proofs.count_holding.Goals as goal

pub returns : goal.returns
returns c =
    let g = c.requires in
    (c.count_of.ensures.0 ∙ with_same _ _ g.1 g.2, c.count_of.ensures.1)
