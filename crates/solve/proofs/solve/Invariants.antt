-- `solve::solve` meets its contract. The loop's invariant: i rows of unknowns are written; `unknown_by` is one turn. Assumes nothing.
use Rattle.std.proofs.Common.{◌*◌}
use Rattle.scheme.specs.Limits.{most_blocks}
use Rattle.scheme.specs.Scheme.{sixteen}
use Rattle.scheme.specs.Solve.{block, unknown_at}
use Rattle.scheme.proofs.Solving.Grids.{Rows}
use Rattle.solve.specs.Solve.{laws16}
use Rattle.solve.proofs.solve.Given as goal

abbrev pub invariant-loop-i : goal.invariant-loop-i
invariant-loop-i l = Rows (λ k b. unknown_at sixteen laws16 l.rows l.columns (block l.values b) l.n k) l.needed l.i (l.i * most_blocks) l.out
