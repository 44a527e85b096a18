-- `keys::write_shares` meets its contract: with one noise element for each of all blocks by Making.Sums.scaled_end, else block by block.
use Rattle.std.proofs.Common.{ℕ, ◌*◌, ◌/◌, ◌%◌, List, sym, ap, ap₂, ◌∙◌}
use Rattle.std.proofs.lemmas.List.Edits.{sets}
use Rattle.scheme.specs.Limits.{most_blocks}
use Rattle.scheme.specs.Scheme.{sixteen}
use Rattle.scheme.specs.KeyParts.{block_values, half_sets, added_row}
use Rattle.scheme.proofs.Modular.{sixteen_sums}
use Rattle.scheme.proofs.Making.Sums.{added_values, scaled_end}
use Rattle.keys.proofs.write_shares.Goals as goal

pub returns-then-plan-eq-MOST_BLOCKS : goal.returns-then-plan-eq-MOST_BLOCKS
returns-then-plan-eq-MOST_BLOCKS c =
    let a = c.args in
    let s = a.source in
    let one = c.if-plan-eq1.true in
    let all = c.if-plan-eq-MOST_BLOCKS.true in
    let value : (n blocks : ℕ) → List ℕ = λ n blocks.
    block_values sixteen (added_row sixteen s.low.now (a.set % half_sets * most_blocks) s.high.now (a.set / half_sets * most_blocks))
    s.factors.now n s.list.now a.noise blocks in
    c.put_row.ensures
    ∙ ap (sets a.out.now a.at)
    (scaled_end sixteen_sums s.factors.now (c.share_row.ensures _ c.requires.scales) ∙ ap₂ value (sym one) (sym all))

pub returns : goal.returns
returns c =
    let a = c.args in
    let s = a.source in
    c.write_blocks.ensures
    ∙ ap (λ (r : List ℕ). sets a.out.now a.at
    (block_values sixteen r s.factors.now a.plan.collusion s.list.now a.noise a.plan.blocks)) c.add_rows-sums.ensures
    ∙ ap (sets a.out.now a.at)
    (added_values sixteen s.low.now _ s.high.now _ s.factors.now a.plan.collusion s.list.now a.noise a.plan.blocks
    c.requires.limits.1)
