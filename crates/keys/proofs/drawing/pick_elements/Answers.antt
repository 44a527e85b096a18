-- `keys::drawing::pick_elements` meets its contract: number by number the list is filled further, or the number is skipped.
use Rattle.std.proofs.Common.{◌≡◌, ◌+◌, ◌*◌, arith}
use Rattle.scheme.specs.Scheme.{sixteen}
use Rattle.scheme.proofs.Drawing.DrawnTo.{drawn_to_more_in, drawn_to_more_out}
use Rattle.keys.proofs.drawing.pick_elements.Goals.{else-x-lt-Q16, then-x-lt-Q16}
use Rattle.keys.proofs.drawing.pick_elements.Goals as goal

pub loop-i-preserved : goal.loop-i-preserved
loop-i-preserved c =
    let l = c.loop-i in
    let a = c.args in
    let d : a.from + 2 * l.i + 2 ≡ a.from + 2 * (l.i + 1) = omega arith in
    elim c.if-x-lt-Q16.branch [
      | then-x-lt-Q16 w ↦ rw (w.list-is, w.filled-is, ← d)
          (omega arith, drawn_to_more_in sixteen _ l.invariant.1 _ (omega arith) c.number_at-x.ensures (omega (arith, w.if-x-lt-Q16.true)))
      | else-x-lt-Q16 w ↦ rw (w.list-is, w.filled-is, ← d)
          (omega arith, drawn_to_more_out sixteen _ l.invariant.1 _ (omega arith) c.number_at-x.ensures (omega (arith, w.if-x-lt-Q16.false)))
    ]
