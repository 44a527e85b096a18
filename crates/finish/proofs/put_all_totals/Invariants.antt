-- `finish::put_all_totals` meets its contract. The loop's invariant: the totals of the first items are written. Assumes nothing.
use Rattle.std.proofs.Common.{◌≡◌, ◌*◌}
use Rattle.scheme.specs.Scheme.{sixteen}
use Rattle.finish.specs.Parts.{some_totals}
use Rattle.finish.proofs.put_all_totals.Given as goal

abbrev pub invariant-loop-item : goal.invariant-loop-item
invariant-loop-item l = l.out ≡ some_totals sixteen l.sums l.unknowns l.items l.blocks (l.item * l.blocks)
