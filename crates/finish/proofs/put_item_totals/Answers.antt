-- `finish::put_item_totals` meets its contract. The loop's invariant: the totals of b blocks are written. Assumes nothing.
use Rattle.finish.proofs.Totalling.{totalling_more}
use Rattle.finish.proofs.put_item_totals.Goals as goal

pub loop-b-preserved : goal.loop-b-preserved
loop-b-preserved c =
    let p = c.requires.item_lt in
    totalling_more _ _ _ _ _ p.3 _ p.0 _ _ c.loop-b.invariant _ c.loop-b-test.true c.place_total.ensures
