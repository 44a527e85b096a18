-- `solve::weigh` meets its contract. The loop's invariant: i rows are written. Assumes nothing.
use Rattle.std.proofs.Common.{ap₂, ℕ, ◌+◌, ◌≤◌, arith, get_or, rules, ◌≡◌, ◌*◌, refl}
use Rattle.scheme.specs.Limits.{most_blocks, cells}
use Rattle.scheme.specs.Scheme.{sixteen}
use Rattle.scheme.specs.Solve.{weighed_values}
use Rattle.scheme.proofs.Solving.Grids.{rows_long, rows_start, rows_more, rows_end}
use Rattle.solve.proofs.weigh.Goals as goal

pub loop-i-init : goal.loop-i-init
loop-i-init c = rows_start _ _

pub put_scaled-requires : goal.put_scaled-requires
put_scaled-requires c =
    let l = c.loop-i in
    let few = c.requires.few in
    let room : l.i * most_blocks + most_blocks ≤ cells = omega (arith, few, c.loop-i-test.true) in
    (room, rows_long _ _ _ _ _ few l.invariant, search rules)

pub loop-i-preserved : goal.loop-i-preserved
loop-i-preserved c =
    let l = c.loop-i in
    let a = c.args in
    let e : (l.i + 1) * most_blocks ≡ l.i * most_blocks + most_blocks = omega arith in
    rw e (rows_more _ _ l.i _ _ _ most_blocks _ c.requires.few (omega arith) c.loop-i-test.true
    (λ b k. ap₂ (λ (w i : ℕ). sixteen.add 0 (sixteen.multiply w (get_or a.values.now (i + b) 0))) c.weight_of.ensures refl)
    (λ b low high. absurd (omega arith)) c.put_scaled.ensures l.invariant)

pub returns : goal.returns
unfolding weighed_values
returns c = rows_end _ _ _ _ _ c.loop-i-test.false c.loop-i.invariant
