-- `finish::row_before` meets its contract. Assumes nothing.
use Rattle.std.proofs.Common.{refl, arith, lt-ltb, le-ltb}
use Rattle.finish.specs.Parts.{row_before}
use Rattle.finish.proofs.row_before.Goals as goal

pub returns-then-at-n : goal.returns-then-at-n
unfolding row_before
returns-then-at-n c = (rw (lt-ltb _ _ c.if-at-n.true) refl, omega arith)

pub returns : goal.returns
unfolding row_before
returns c = (rw (le-ltb _ _ c.if-at-n.false) refl, omega arith)
