-- `solve::gap_between` meets its contract: antt computes the rule for the table, and `gap_shift` carries it from most_threshold + x - y to x and y.
-- Assumes nothing.
use Rattle.std.proofs.Common.{◌≡◌, ℕ, ◌+◌, ◌-◌, List, map, get_or, refl, ap, ◌∙◌, lit<, rules, arith}
use Rattle.algebra.specs.Residue.{inverse, inverse_from}
use Rattle.algebra.proofs.Primes.{prime_65521}
use Rattle.scheme.specs.Limits.{most_threshold}
use Rattle.scheme.specs.Lists.{span}
use Rattle.scheme.specs.Scheme.{q}
use Rattle.scheme.specs.Solve.{gap_entry}
use Rattle.scheme.proofs.Lists.{map_below_at}
use Rattle.scheme.proofs.Solving.Modular.{gap_shift}
use Rattle.solve.specs.declared.TheConstants.{GAPS}
use Rattle.solve.proofs.gap_between.Goals as goal

gaps_right : GAPS ≡ map (gap_entry q) (span 15 0)
unfolding gap_entry inverse inverse_from
gaps_right = refl

pub returns : goal.returns
returns c =
    let a = c.args in
    let d : ℕ = most_threshold + a.x - a.y in
    ap (λ (l : List ℕ). get_or l d 0) gaps_right ∙ map_below_at (gap_entry q) 15 d (omega arith)
    ∙ gap_shift prime_65521 (lit< tt) a.x a.y (search rules) (search rules) (search rules)
