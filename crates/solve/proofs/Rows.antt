-- Rows of a grid that are lent to be compared.
--   row_compared   the first blocks of a row, compared
-- Assumes nothing.
use Rattle.std.proofs.Common.{◌≡◌, ℕ, ◌+◌, ◌≤◌, List, eqb, length, get_or, take, ap, ap₂, ◌∙◌, length-take-le, get_or-take, arith}
use Rattle.std.specs.List.{between}
use Rattle.std.proofs.lemmas.List.Edits.{get_or-between}
use Rattle.scheme.specs.Lists.{span, all_of}
use Rattle.scheme.proofs.Lists.{all_of_same, span_in}

pub row_compared : (row values : List ℕ) (n at : ℕ) → n ≤ length row
    → all_of (λ b. eqb (get_or (take n row) b 0) (get_or (between at (at + n) values) b 0)) (span (length (take n row)) 0)
    ≡ all_of (λ b. eqb (get_or row b 0) (get_or values (at + b) 0)) (span n 0)
row_compared row values n at long =
    ap (λ (k : ℕ). all_of (λ b. eqb (get_or (take n row) b 0) (get_or (between at (at + n) values) b 0)) (span k 0)) (length-take-le n row long)
    ∙ all_of_same _ _ (span n 0) (λ b m.
    let h = span_in n 0 b m in
    ap₂ eqb (get_or-take n row b 0 (omega arith)) (get_or-between values at (at + n) b 0 (omega arith)))
