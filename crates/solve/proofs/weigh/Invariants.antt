-- `solve::weigh` meets its contract. The loop's invariant: i rows are written. Assumes nothing.
use Rattle.std.proofs.Common.{◌*◌}
use Rattle.scheme.specs.Limits.{most_blocks}
use Rattle.scheme.specs.Scheme.{sixteen}
use Rattle.scheme.specs.Solve.{cell, row_weight}
use Rattle.scheme.proofs.Solving.Grids.{Rows}
use Rattle.solve.specs.Solve.{laws16}
use Rattle.solve.proofs.weigh.Given as goal

abbrev pub invariant-loop-i : goal.invariant-loop-i
invariant-loop-i l = Rows (λ k b. sixteen.add 0 (sixteen.multiply (row_weight sixteen laws16 l.rows l.columns l.n k) (cell l.values k b))) l.n l.i (l.i * most_blocks) l.out
