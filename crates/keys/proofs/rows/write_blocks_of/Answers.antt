-- `keys::rows::write_blocks_of` meets its contract: one block a turn; what is written so far is the values so far (Making.Rows.row_more).
use Rattle.std.proofs.Common.{refl, ◌∙◌}
use Rattle.scheme.specs.Scheme.{sixteen}
use Rattle.scheme.specs.KeyParts.{block_value, block_values}
use Rattle.scheme.proofs.Making.Rows.{row_more}
use Rattle.scheme.proofs.Making.Sums.{weight_end}
use Rattle.keys.proofs.rows.write_blocks_of.Goals as goal

pub loop-b-init : goal.loop-b-init
unfolding block_values
loop-b-init c = refl

pub loop-b-preserved : goal.loop-b-preserved
unfolding block_values
loop-b-preserved c =
    let l = c.loop-b in
    let a = c.args in
    let w = c.weigh in
    row_more a.out.now a.at (block_value sixteen a.sums.now a.row.now a.n a.list.now a.start) l.b l.invariant refl
    (c.reduced.ensures ∙ weight_end a.sums.now a.row.now a.n a.list.now a.start _ l.b w.result refl w.ensures)
