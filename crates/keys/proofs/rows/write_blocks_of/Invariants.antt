-- `keys::rows::write_blocks_of` meets its contract: one block a turn; what is written so far is the values so far (Making.Rows.row_more).
use Rattle.std.proofs.Common.{◌≡◌}
use Rattle.std.proofs.lemmas.List.Edits.{sets}
use Rattle.scheme.specs.Scheme.{sixteen}
use Rattle.scheme.specs.KeyParts.{block_values}
use Rattle.keys.proofs.rows.write_blocks_of.Given as goal

abbrev pub invariant-loop-b : goal.invariant-loop-b
invariant-loop-b l = l.out ≡ sets l.initial.out l.at (block_values sixteen l.sums l.row l.n l.list l.start l.b)
