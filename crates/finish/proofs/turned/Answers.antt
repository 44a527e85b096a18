-- `finish::turned` meets its contract. The loop's invariant: the first i rows are written. Assumes nothing.
use Rattle.std.proofs.Common.{ap, ℕ, get_or}
use Rattle.scheme.proofs.Padded.{filling_start, filling_more}
use Rattle.finish.proofs.turned.Goals as goal

pub loop-i-init : goal.loop-i-init
loop-i-init c = filling_start _ _ _

pub loop-i-preserved : goal.loop-i-preserved
loop-i-preserved c =
    let l = c.loop-i in
    filling_more _ _ _ l.i _ _ c.requires.1 c.loop-i-test.true
    (ap (λ (k : ℕ). get_or c.args.rows.now k 0) c.row_before.ensures.0) l.invariant
