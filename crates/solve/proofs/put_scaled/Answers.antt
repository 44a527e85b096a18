-- `solve::put_scaled` meets its contract. The loop's invariant: the numbers of the first b blocks are written. Assumes nothing.
use Rattle.scheme.proofs.Padded.{setting_more, setting_end}
use Rattle.solve.proofs.put_scaled.Goals as goal

pub loop-b-preserved : goal.loop-b-preserved
loop-b-preserved c =
    let l = c.loop-b in
    setting_more _ _ _ _ l.b _ _ c.loop-b-test.true (c.add_scaled.ensures.right c.args.factor c.scale_of-scale.ensures) l.invariant

pub returns : goal.returns
returns c = setting_end _ _ _ _ _ _ c.loop-b-test.false c.loop-b.invariant
