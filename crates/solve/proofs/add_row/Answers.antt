-- `solve::add_row` meets its contract. The loop's invariant: the sums of the first b blocks are new, and the others old. Assumes nothing.
use Rattle.std.proofs.Common.{◌≡◌, sym, ap, ◌∙◌, map, ℕ, ◌+◌, arith, lit<, get_or}
use lib.Seq.{sets}
use Rattle.scheme.specs.Limits.{most_blocks}
use Rattle.scheme.specs.Lists.{span}
use Rattle.scheme.specs.Scheme.{sixteen}
use Rattle.scheme.specs.Solve.{scaled_on}
use Rattle.scheme.proofs.Lists.{map_span_length, sets_whole}
use Rattle.scheme.proofs.Keys.{elements_at}
use Rattle.scheme.proofs.Making.Rows.{row_more, row_other}
use Rattle.solve.proofs.add_row.Goals as goal

pub add_scaled-requires : goal.add_scaled-requires
add_scaled-requires c =
    let l = c.loop-b in
    let old : get_or l.sums l.b 0 ≡ get_or c.args.sums.now l.b 0 = row_other _ 0 _ l.b l.invariant l.b (λ b h e. omega arith) in
    (omega (arith, old, elements_at sixteen (lit< tt) c.args.sums.now l.b c.requires.2), c.scale_of-scale.ensures.by_low)

pub loop-b-preserved : goal.loop-b-preserved
loop-b-preserved c =
    let l = c.loop-b in
    let a = c.args in
    let old : get_or l.sums l.b 0 ≡ get_or a.sums.now l.b 0 = row_other _ 0 _ l.b l.invariant l.b (λ b h e. omega arith) in
    row_more _ 0 _ l.b l.invariant (omega arith)
    (c.add_scaled.ensures.right a.factor c.scale_of-scale.ensures
    ∙ ap (λ (x : ℕ). sixteen.add x (sixteen.multiply a.factor (get_or a.grid.now (a.at + l.b) 0))) old)

pub returns : goal.returns
returns c =
    let l = c.loop-b in
    let a = c.args in
    let new : ℕ → ℕ = scaled_on sixteen a.sums.now a.factor a.grid.now a.at in
    let e : l.b ≡ most_blocks = omega arith in
    l.invariant ∙ ap (λ (n : ℕ). sets a.sums.now 0 (map new (span n 0))) e
    ∙ sets_whole a.sums.now (map new (span most_blocks 0)) (map_span_length new most_blocks 0 ∙ sym c.requires.1)
