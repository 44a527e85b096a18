-- `keys::rows::put_row` meets its contract: one lane a turn (Making.Rows.row_more). Assumes nothing.
use Rattle.std.proofs.Common.{◌≡◌, map, get_or}
use Rattle.std.proofs.lemmas.List.Edits.{sets}
use Rattle.scheme.specs.Lists.{span}
use Rattle.keys.proofs.rows.put_row.Given as goal

abbrev pub invariant-loop-b : goal.invariant-loop-b
invariant-loop-b l = l.out ≡ sets l.initial.out l.at (map (λ b. get_or l.row b 0) (span l.b 0))
