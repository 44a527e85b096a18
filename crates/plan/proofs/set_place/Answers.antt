-- `plan::set_place` meets its contract. The loop's invariant: the place so far is the rank of the set that comes next.
-- The measure is how many sets are left. Assumes nothing.
use Rattle.std.proofs.Common.{sym, ◌∙◌}
use Rattle.plan.proofs.Laws.{counting_start, counting_more_in, counting_more_out}
use Rattle.plan.proofs.set_place.Goals as goal
use Rattle.plan.proofs.set_place.Goals.{else-is_usable_with, then-is_usable_with}

pub loop-v-init : goal.loop-v-init
loop-v-init c = counting_start _ _

pub loop-v-preserved : goal.loop-v-preserved
loop-v-preserved c =
    let l = c.loop-v in
    let h = c.if-v-set.false in
    let e = sym c.is_usable_with.ensures in
    elim c.if-is_usable_with.branch [ then-is_usable_with w ↦ rw w.place-is (counting_more_in _ _ l.v l.place l.invariant h (e ∙ w.if-is_usable_with.true)) | else-is_usable_with w ↦ rw w.place-is (counting_more_out _ _ l.v l.place l.invariant h (e ∙ w.if-is_usable_with.false)) ]
