-- `solve::dots` meets its contract. The loop's invariant: i rows are added. Assumes nothing.
use Rattle.std.proofs.Common.{ap, ◌∙◌, List, ℕ, ◌+◌, arith, length, get_or, ◌≡◌, ◌*◌}
use Rattle.algebra.specs.Residue.{inverse}
use Rattle.scheme.specs.Limits.{most_blocks, points}
use Rattle.scheme.specs.Scheme.{q, sixteen}
use Rattle.scheme.specs.Solve.{value_of, block}
use Rattle.scheme.proofs.Lists.{map_span_length, map_below_at}
use Rattle.scheme.proofs.Solving.Closed.{dotting_start, dotting_small, dotting_more}
use Rattle.solve.specs.Solve.{laws16}
use Rattle.solve.proofs.dots.Goals as goal

pub loop-i-init : goal.loop-i-init
loop-i-init c = dotting_start sixteen _ _ _ _

pub add_row-requires : goal.add_row-requires
add_row-requires c =
    let l = c.loop-i in
    let a = c.args in (
      omega (arith, c.loop-i-test.true, c.requires.0),
      ap length l.invariant.done ∙ map_span_length (λ b. value_of sixteen a.x a.points.now (block a.grid.now b) l.i) most_blocks 0,
      dotting_small sixteen _ _ _ _ laws16 _ _ _ l.invariant,
    )

pub loop-i-preserved : goal.loop-i-preserved
loop-i-preserved c =
    let l = c.loop-i in
    let told = ap (λ (r : List ℕ). get_or r (c.args.x + get_or c.args.points.now l.i 0) 0) c.inverses-inverses.ensures
    ∙ map_below_at (inverse q) points _ (c.requires.1.low l.i c.loop-i-test.true) in
    let e : (l.i + 1) * most_blocks ≡ l.i * most_blocks + most_blocks = omega arith in
    rw e (dotting_more sixteen _ _ _ _ laws16 l.i _ _ l.invariant _ _ c.requires.0 c.loop-i-test.true told c.add_row.ensures)
