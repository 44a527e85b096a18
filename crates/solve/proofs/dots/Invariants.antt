-- `solve::dots` meets its contract. The loop's invariant: i rows are added. Assumes nothing.
use Rattle.std.proofs.Common.{◌*◌}
use Rattle.scheme.specs.Limits.{most_blocks}
use Rattle.scheme.specs.Scheme.{sixteen}
use Rattle.scheme.proofs.Solving.Closed.{Dotting}
use Rattle.solve.proofs.dots.Given as goal

abbrev pub invariant-loop-i : goal.invariant-loop-i
invariant-loop-i l = Dotting sixteen l.x l.points l.grid l.n l.i (l.i * most_blocks) l.sums
