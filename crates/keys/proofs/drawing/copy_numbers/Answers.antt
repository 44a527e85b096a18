-- `keys::drawing::copy_numbers` meets its contract: as long as nothing is past the last element the list is filled further, and what is
-- written counts for nothing otherwise (Drawing.DrawnTo).
use Rattle.std.proofs.Common.{◌≡◌, ◌+◌, ◌*◌, sym, ap, ◌∙◌, arith, lit<}
use lib.Bits.{bit_or}
use Rattle.scheme.specs.Scheme.{sixteen}
use Rattle.scheme.proofs.Drawing.Reading.{none_past}
use Rattle.scheme.proofs.Drawing.DrawnTo.{drawn_to_over, drawn_to_more_in}
use Rattle.keys.proofs.drawing.copy_numbers.Goals as goal

pub loop-i-preserved : goal.loop-i-preserved
loop-i-preserved c =
    let l = c.loop-i in
    let a = c.args in
    let e : a.to + l.i + 1 ≡ a.to + (l.i + 1) = omega arith in
    let d : a.from + 2 * l.i + 2 ≡ a.from + 2 * (l.i + 1) = omega arith in
    let over = ap (bit_or l.past) (sym c.excess-past.ensures) in (
      drawn_to_over sixteen _ l.invariant.0 _ _ (omega arith),
      λ z. let o = none_past sixteen (lit< tt) _ _ (over ∙ z) in
          rw (← e, ← d) (drawn_to_more_in sixteen _ (l.invariant.1 o.0) _ (omega arith) c.number_at-x.ensures o.1),
    )
