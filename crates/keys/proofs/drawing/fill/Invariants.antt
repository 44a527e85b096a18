-- `keys::drawing::fill` meets its contract: row by row the list is filled further (Drawing.DrawnTo), and the bytes of a row are there since elements are.
use Rattle.std.proofs.Common.{◌-◌, length}
use Rattle.scheme.specs.Scheme.{sixteen}
use Rattle.scheme.specs.DrawnParts.{DrawnTo}
use Rattle.keys.proofs.drawing.fill.Given as goal

abbrev pub invariant-loop-filled : goal.invariant-loop-filled
invariant-loop-filled l = DrawnTo sixteen l.bytes (length l.initial.list) l.list l.filled l.at

abbrev pub decreases-loop-filled : goal.decreases-loop-filled
decreases-loop-filled l = length l.bytes - l.at
