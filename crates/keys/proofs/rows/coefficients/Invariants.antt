-- `keys::rows::coefficients` meets its contract: one column a turn (Making.Rows.row_more).
use Rattle.std.proofs.Common.{◌≡◌, ◌+◌, map}
use Rattle.std.proofs.lemmas.List.Edits.{sets}
use Rattle.scheme.specs.Lists.{span}
use Rattle.scheme.specs.Scheme.{sixteen}
use Rattle.keys.proofs.rows.coefficients.Given as goal

abbrev pub invariant-loop-i : goal.invariant-loop-i
invariant-loop-i l = l.row ≡ sets l.initial.row 0 (map (λ i. sixteen.coefficient l.user (l.first + i)) (span l.i 0))
