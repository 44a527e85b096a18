-- `finish::first_sums` meets its contract. The loop's invariant: in the places of the first turns stands the sum over all rows, not reduced. Assumes nothing.
use Rattle.std.proofs.Common.{◌≡◌, length, ◌*◌}
use Rattle.scheme.specs.Limits.{most_blocks, most_places}
use Rattle.scheme.specs.Scheme.{q}
use Rattle.finish.specs.Parts.{FirstSums}
use Rattle.finish.proofs.first_sums.Given as goal

abbrev pub invariant-loop-turn : goal.invariant-loop-turn
invariant-loop-turn l = (length l.sums ≡ most_places) × FirstSums q l.first l.rows l.count 0 (l.turn * most_blocks) l.sums
