-- `finish::turned` meets its contract. The loop's invariant: the first i rows are written. Assumes nothing.
use Rattle.std.proofs.Common.{get_or}
use Rattle.scheme.specs.Limits.{most_users}
use Rattle.scheme.proofs.Padded.{Filling}
use Rattle.finish.specs.Parts.{row_before}
use Rattle.finish.proofs.turned.Given as goal

abbrev pub invariant-loop-i : goal.invariant-loop-i
invariant-loop-i l = Filling most_users (λ k. get_or l.rows (row_before l.n l.count k) 0) l.count l.i l.out
