-- `keys::rows::add_rows` meets its contract: one lane a turn (Padded.Filling). Assumes nothing.
use Rattle.std.proofs.Common.{arith}
use Rattle.scheme.specs.Limits.{most_blocks}
use Rattle.scheme.proofs.Padded.{filling_start, filling_more}
use Rattle.keys.proofs.rows.add_rows.Goals as goal

pub loop-b-init : goal.loop-b-init
loop-b-init c = rw c.zeros-row.ensures (filling_start most_blocks _ _)

pub loop-b-preserved : goal.loop-b-preserved
loop-b-preserved c =
    let l = c.loop-b in
    filling_more most_blocks _ c.args.n l.b _ l.row c.requires.room.0 (omega arith) c.add.ensures l.invariant
