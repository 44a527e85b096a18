-- `finish::put_held` meets its contract. The loop's invariant: the replies of the first b blocks are written. Assumes nothing.
use Rattle.scheme.proofs.Padded.{setting_more}
use Rattle.finish.proofs.put_held.Goals as goal

pub loop-b-preserved : goal.loop-b-preserved
loop-b-preserved c =
    let l = c.loop-b in setting_more _ _ _ _ l.b _ _ c.loop-b-test.true c.element_of.ensures l.invariant
