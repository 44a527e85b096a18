-- `keys::drawing::fill` meets its contract: row by row the list is filled further (Drawing.DrawnTo), and the bytes of a row are there since elements are.
use Rattle.std.proofs.Common.{◌≡◌, ℕ, ◌+◌, ◌*◌, ◌-◌, ◌≤◌, ◌<◌, min, List, length, arith}
use Rattle.scheme.specs.Scheme.{sixteen}
use Rattle.scheme.specs.DrawnParts.{DrawnTo}
use Rattle.scheme.proofs.Drawing.DrawnTo.{drawn_to_start, drawn_to_inside}
use Rattle.keys.proofs.drawing.fill.Goals as goal

-- the next row
row : {s list : List ℕ} {len filled at n most : ℕ} → DrawnTo sixteen s len list filled at → filled < len → 0 < most → n ≡ min most (len - filled)
    → (0 < n) × (filled + n ≤ len) × (at + 2 * n ≤ length s)
row {len = len} {filled = filled} {n = n} f less some e =
    let few : filled + n ≤ len = omega arith in
    (omega arith, few, drawn_to_inside sixteen _ f n (omega arith) few)

pub loop-filled-init : goal.loop-filled-init
loop-filled-init c = drawn_to_start sixteen _ _ c.requires

pub fill_row-filled-requires-clause-n_in_bounds : goal.fill_row-filled-requires-clause-n_in_bounds
fill_row-filled-requires-clause-n_in_bounds c =
    let r = row c.loop-filled.invariant c.loop-filled-test.true (omega arith) c.min-n.ensures in
    (omega (arith, r.1), r.2)

pub overflow_add-at : goal.overflow_add-at
overflow_add-at c = omega (arith, (row c.loop-filled.invariant c.loop-filled-test.true (omega arith) c.min-n.ensures).2)

pub loop-filled-smaller : goal.loop-filled-smaller
loop-filled-smaller c =
    let r = row c.loop-filled.invariant c.loop-filled-test.true (omega arith) c.min-n.ensures in
    omega (arith, r.0, r.2)
