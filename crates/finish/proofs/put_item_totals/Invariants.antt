-- `finish::put_item_totals` meets its contract. The loop's invariant: the totals of b blocks are written. Assumes nothing.
use Rattle.scheme.specs.Scheme.{sixteen}
use Rattle.finish.proofs.Totalling.{Totalling}
use Rattle.finish.proofs.put_item_totals.Given as goal

abbrev pub invariant-loop-b : goal.invariant-loop-b
invariant-loop-b l = Totalling sixteen l.sums l.unknowns l.items l.blocks l.item l.b l.out
