-- `finish::put_held` meets its contract. The loop's invariant: the replies of the first b blocks are written. Assumes nothing.
use Rattle.std.proofs.Common.{◌+◌, ◌-◌, get_or}
use Rattle.scheme.proofs.Padded.{Setting}
use Rattle.finish.proofs.put_held.Given as goal

abbrev pub invariant-loop-b : goal.invariant-loop-b
invariant-loop-b l = Setting (λ i. get_or l.reply (l.from + i) 0 - 1) l.blocks l.at l.initial.out l.b l.out
