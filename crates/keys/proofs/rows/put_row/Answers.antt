-- `keys::rows::put_row` meets its contract: one lane a turn (Making.Rows.row_more). Assumes nothing.
use Rattle.std.proofs.Common.{◌≡◌, ℕ, map, get_or, refl, ap, ◌∙◌, arith}
use Rattle.std.proofs.lemmas.List.Edits.{sets}
use Rattle.scheme.specs.Limits.{most_blocks}
use Rattle.scheme.specs.Lists.{span}
use Rattle.scheme.proofs.Making.Rows.{row_more}
use Rattle.keys.proofs.rows.put_row.Goals as goal

pub loop-b-preserved : goal.loop-b-preserved
loop-b-preserved c = row_more c.args.out.now c.args.at (λ b. get_or c.args.row.now b 0) c.loop-b.b c.loop-b.invariant refl refl

pub returns : goal.returns
returns c =
    let l = c.loop-b in
    let a = c.args in
    let e : l.b ≡ most_blocks = omega arith in
    l.invariant ∙ ap (λ (n : ℕ). sets a.out.now a.at (map (λ b. get_or a.row.now b 0) (span n 0))) e
