-- `stream::feed_records` meets its contract: at each turn what fed answers from here on is its answer, and the lines of the bytes used are written.
-- Assumes nothing.
use Rattle.std.proofs.Common.{◌-◌, length}
use Rattle.stream.proofs.Feeding.{Going}
use Rattle.stream.proofs.feed_records.Given as goal

abbrev pub invariant-loop-at : goal.invariant-loop-at
invariant-loop-at l = Going l.initial.service l.b l.offset l.initial.out l.service l.at l.wrote l.out

abbrev pub decreases-loop-at : goal.decreases-loop-at
decreases-loop-at l = length l.b - l.at
