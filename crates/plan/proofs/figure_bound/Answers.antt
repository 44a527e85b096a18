-- `plan::figure_bound` meets its contract: `bound_of` of a plan that passed test 1. Assumes nothing.
use Rattle.std.proofs.Common.{sym, ◌∙◌}
use Rattle.scheme.specs.Scheme.{unless, after}
use Rattle.scheme.proofs.Good.{good}
use Rattle.plan.specs.Lengths.{largest_figure}
use Rattle.plan.proofs.figure_bound.Goals as goal

pub returns-then-not-is_good : goal.returns-then-not-is_good
unfolding largest_figure unless after
returns-then-not-is_good c = rw (sym c.is_good.ensures ∙ c.if-not-is_good.true)

pub bound_of-requires : goal.bound_of-requires
bound_of-requires c = good _ (sym c.is_good.ensures ∙ c.if-not-is_good.false)

pub returns : goal.returns
unfolding largest_figure unless after
returns c = rw (sym c.is_good.ensures ∙ c.if-not-is_good.false) c.bound_of.ensures.0
