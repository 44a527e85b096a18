-- `keys::rows::add_rows` meets its contract: one lane a turn (Padded.Filling). Assumes nothing.
use Rattle.std.proofs.Common.{◌+◌, get_or}
use Rattle.scheme.specs.Limits.{most_blocks}
use Rattle.scheme.specs.Scheme.{sixteen}
use Rattle.scheme.proofs.Padded.{Filling}
use Rattle.keys.proofs.rows.add_rows.Given as goal

abbrev pub invariant-loop-b : goal.invariant-loop-b
invariant-loop-b l = Filling most_blocks (λ b. sixteen.add (get_or l.a (l.i + b) 0) (get_or l.c (l.j + b) 0)) l.n l.b l.row
