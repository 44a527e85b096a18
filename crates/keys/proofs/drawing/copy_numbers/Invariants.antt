-- `keys::drawing::copy_numbers` meets its contract: as long as nothing is past the last element the list is filled further, and what is
-- written counts for nothing otherwise (Drawing.DrawnTo).
use Rattle.std.proofs.Common.{◌≡◌, ◌+◌, ◌*◌, length}
use Rattle.scheme.specs.Scheme.{sixteen}
use Rattle.scheme.specs.DrawnParts.{DrawnTo}
use Rattle.keys.proofs.drawing.copy_numbers.Given as goal

abbrev pub invariant-loop-i : goal.invariant-loop-i
invariant-loop-i l =
    DrawnTo sixteen l.bytes (length l.initial.list) l.list l.to l.from
    × (l.past ≡ 0 → DrawnTo sixteen l.bytes (length l.initial.list) l.list (l.to + l.i) (l.from + 2 * l.i))
