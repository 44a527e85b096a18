-- `plan::list_length` meets its contract: `list_of` of a plan that passed test 1. Assumes nothing.
use Rattle.std.proofs.Common.{sym, ◌∙◌, arith}
use Rattle.scheme.specs.Scheme.{unless, after}
use Rattle.scheme.proofs.Good.{good}
use Rattle.plan.specs.Lengths.{list_len}
use Rattle.plan.proofs.list_length.Goals as goal

pub returns-then-not-is_good : goal.returns-then-not-is_good
unfolding list_len unless after
returns-then-not-is_good c = (rw (sym c.is_good.ensures ∙ c.if-not-is_good.true), omega arith)

pub list_of-requires : goal.list_of-requires
list_of-requires c = good _ (sym c.is_good.ensures ∙ c.if-not-is_good.false)

pub returns : goal.returns
unfolding list_len unless after
returns c = (rw (sym c.is_good.ensures ∙ c.if-not-is_good.false) c.list_of.ensures.0, c.list_of.ensures.1)
