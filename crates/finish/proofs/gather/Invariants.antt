-- `finish::gather` meets its contract. The loop's invariant: the replies of i rows are written. Assumes nothing.
use Rattle.std.proofs.Common.{◌*◌}
use Rattle.scheme.specs.Limits.{most_blocks}
use Rattle.scheme.proofs.Solving.Grids.{Rows}
use Rattle.finish.specs.Parts.{row_reply}
use Rattle.finish.proofs.gather.Given as goal

abbrev pub invariant-loop-i : goal.invariant-loop-i
invariant-loop-i l = Rows (row_reply l.reply l.rows l.blocks) l.count l.i (l.i * most_blocks) l.out
