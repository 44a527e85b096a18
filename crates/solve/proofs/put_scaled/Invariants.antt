-- `solve::put_scaled` meets its contract. The loop's invariant: the numbers of the first b blocks are written. Assumes nothing.
use Rattle.std.proofs.Common.{◌+◌, get_or}
use Rattle.scheme.specs.Limits.{most_blocks}
use Rattle.scheme.specs.Scheme.{sixteen}
use Rattle.scheme.proofs.Padded.{Setting}
use Rattle.solve.proofs.put_scaled.Given as goal

abbrev pub invariant-loop-b : goal.invariant-loop-b
invariant-loop-b l = Setting (λ b. sixteen.add 0 (sixteen.multiply l.factor (get_or l.list (l.from + b) 0))) most_blocks l.at l.initial.out l.b l.out
