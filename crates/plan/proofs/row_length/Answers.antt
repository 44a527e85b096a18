-- `plan::row_length` meets its contract: `places_of` of a plan that passed test 1. Assumes nothing.
use Rattle.std.proofs.Common.{sym, ◌∙◌, arith}
use Rattle.scheme.specs.Scheme.{unless, after}
use Rattle.scheme.proofs.Good.{good}
use Rattle.plan.specs.Lengths.{row_len}
use Rattle.plan.proofs.row_length.Goals as goal

pub returns-then-not-is_good : goal.returns-then-not-is_good
unfolding row_len unless after
returns-then-not-is_good c = (rw (sym c.is_good.ensures ∙ c.if-not-is_good.true), omega arith)

pub places_of-requires : goal.places_of-requires
places_of-requires c = good _ (sym c.is_good.ensures ∙ c.if-not-is_good.false)

pub returns : goal.returns
unfolding row_len unless after
returns c = (rw (sym c.is_good.ensures ∙ c.if-not-is_good.false) c.places_of.ensures.0, c.places_of.ensures.1)
