-- `keys::drawing::count_skipped` meets its contract: of the first i numbers so many are skipped (Drawing.Reading).
use Rattle.std.proofs.Common.{refl, arith}
use Rattle.scheme.specs.Scheme.{sixteen}
use Rattle.scheme.proofs.Drawing.Reading.{skipped_more_in, skipped_more_out}
use Rattle.keys.proofs.drawing.count_skipped.Goals.{else-number_at-ge-Q16, then-number_at-ge-Q16}
use Rattle.keys.proofs.drawing.count_skipped.Goals as goal

pub loop-i-preserved : goal.loop-i-preserved
loop-i-preserved c =
    let l = c.loop-i in
    let x = c.number_at.ensures in
    elim c.if-number_at-ge-Q16.branch [
      | then-number_at-ge-Q16 w ↦ rw w.skipped-is (skipped_more_in sixteen _ l.invariant _ _ refl (omega arith) x w.if-number_at-ge-Q16.true)
      | else-number_at-ge-Q16 w ↦ rw w.skipped-is (skipped_more_out sixteen _ l.invariant _ _ refl (omega arith) x w.if-number_at-ge-Q16.false)
    ]
