-- `keys::drawing::pick_elements` meets its contract: number by number the list is filled further, or the number is skipped.
use Rattle.std.proofs.Common.{◌+◌, ◌*◌, ◌≤◌, length}
use Rattle.scheme.specs.Scheme.{sixteen}
use Rattle.scheme.specs.DrawnParts.{DrawnTo}
use Rattle.keys.proofs.drawing.pick_elements.Given as goal

abbrev pub invariant-loop-i : goal.invariant-loop-i
invariant-loop-i l = (l.filled ≤ l.to + l.i) × DrawnTo sixteen l.bytes (length l.initial.list) l.list l.filled (l.from + 2 * l.i)
