-- `element::coefficient` meets its contract: it is read from the table. Assumes nothing.
use Rattle.std.proofs.Common.{ℕ, ◌+◌, List, get_or, ap, ◌∙◌}
use Rattle.algebra.specs.Residue.{inverse}
use Rattle.scheme.specs.Limits.{points}
use Rattle.scheme.specs.Scheme.{q}
use Rattle.scheme.proofs.Lists.{map_below_at}
use Rattle.element.proofs.coefficient.Goals as goal

pub returns : goal.returns
returns c =
    let n = c.args.user + c.args.column in
    ap (λ (l : List ℕ). get_or l n 0) c.inverses-table.ensures ∙ map_below_at (inverse q) points n c.requires
