-- `keys::drawing::count_skipped` meets its contract: of the first i numbers so many are skipped (Drawing.Reading).
use Rattle.scheme.specs.Scheme.{sixteen}
use Rattle.scheme.specs.DrawnParts.{Skipped}
use Rattle.keys.proofs.drawing.count_skipped.Given as goal

abbrev pub invariant-loop-i : goal.invariant-loop-i
invariant-loop-i l = Skipped sixteen l.bytes l.from l.i l.skipped
