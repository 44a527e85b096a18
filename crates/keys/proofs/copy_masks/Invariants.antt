-- `keys::copy_masks` meets its contract: what is written so far is the masks so far (Making.Rows.row_more).
use Rattle.std.proofs.Common.{◌≡◌, ◌+◌, map, get_or}
use Rattle.std.proofs.lemmas.List.Edits.{sets}
use Rattle.scheme.specs.Lists.{span}
use Rattle.keys.proofs.copy_masks.Given as goal

abbrev pub invariant-loop-i : goal.invariant-loop-i
invariant-loop-i l = l.out ≡ sets l.initial.out 0 (map (λ j. get_or l.list (l.from + j) 0) (span l.i 0))
