-- The solver in the words of demand 2: rows are users, columns are 1 to U, values are replies.
--   Block                           the arrays of a block: users, columns, values
--   explains_first                  the unknowns explain the first U values
--   row_told                        what they give for a row
-- Assumes nothing.
use mathlib.Core.Path.{◌≡◌, sym, ap, ap₂, ◌∙◌}
use mathlib.Core.List.{List, map}
use Prim.Native.Nat.{ℕ, ◌+◌, ◌-◌, ◌≤◌, ◌<◌}
use native.Mathlib.Omega.{arith}
use lib.ListN.{length, get_or, take}
use lib.Seq.{take_at, get_or-take}
use Rattle.scheme.specs.Limits.{most_users, most_threshold}
use Rattle.scheme.specs.Lists.{span, padded, filled}
use Rattle.scheme.specs.Scheme.{Arithmetic, Plan, row_value}
use Rattle.scheme.specs.Laws.{Laws}
use Rattle.scheme.specs.Solve.{Square, unknown_at, solution_of, value_of}
use Rattle.scheme.proofs.Lists.{span_in, map_span_length}
use Rattle.scheme.proofs.Sums.{sum_same}
use Rattle.scheme.proofs.Keys.{elements_map}
use Rattle.scheme.proofs.Pooling.Totals.{unknown, Explained}
use Rattle.scheme.proofs.Solving.Closed.{value_row, solve_right}

-- the values of m users, in order; U of them are solved for
pub record Block (A : Arithmetic) (p : Plan) (users : List ℕ) (m : ℕ) (y : (k : ℕ) → ℕ) (rs cs vs : List ℕ) : Type 0 where
  pub many : p.threshold ≤ m
  pub columns : (i : ℕ) → i < p.threshold → get_or cs i 0 ≡ i + 1
  pub rows : (a : ℕ) → a < m → get_or rs a 0 ≡ get_or users a 0
  pub values : (a : ℕ) → a < m → get_or vs a 0 ≡ y (get_or users a 0)
  pub small : (a : ℕ) → a < m → get_or vs a 0 < A.size

module _ (A : Arithmetic) (L : Laws A most_users most_threshold) (p : Plan) (users : List ℕ) (m : ℕ) (y : (k : ℕ) → ℕ) (rs cs vs : List ℕ) where
  module _ (block : Block A p users m y rs cs vs) (square : Square rs cs p.threshold) where
    abbrev n : ℕ
    n = p.threshold

    abbrev W : List ℕ
    W = solution_of A L rs cs vs n

    first : take n W ≡ map (unknown_at A L rs cs vs n) (span n 0)
    unfolding solution_of filled padded
    first = take_at _ _ n (map_span_length _ n 0)

    pub row_told : (a : ℕ) → a < m
        → row_value A p.threshold (get_or users a 0) (unknown (take p.threshold (solution_of A L rs cs vs p.threshold)))
        ≡ value_of A (get_or rs a 0) cs (solution_of A L rs cs vs p.threshold) p.threshold
    unfolding row_value
    row_told a h = sum_same A (span n 1) _ _ (λ j i.
        let s = span_in n 1 j i in
        ap₂ (λ (k x : ℕ). A.multiply (A.coefficient k j) x) (sym (block.rows a h)) (get_or-take n W (j - 1) 0 (omega arith)))
        ∙ sym (value_row A (get_or rs a 0) cs W n block.columns)

    explained_by : (k : ℕ) → k ≤ m → ((a : ℕ) → a < k → value_of A (get_or rs a 0) cs W n ≡ get_or vs a 0) → Explained A p users k y (take n W)
    unfolding unknown_at
    explained_by k h f = record {
      long = ap length first ∙ map_span_length _ n 0;
      small = rw first (elements_map A (unknown_at A L rs cs vs n) (span n 0) (λ i l. L.val_small _));
      fits = λ a l. row_told a (omega arith) ∙ f a l ∙ block.values a (omega arith);
    }

    solved : (a : ℕ) → a < n → value_of A (get_or rs a 0) cs W n ≡ get_or vs a 0
    solved a h = solve_right A L rs cs n vs square a h (block.small a (omega arith))

    pub explains_first : Explained A p users p.threshold y (take p.threshold (solution_of A L rs cs vs p.threshold))
    explains_first = explained_by n block.many solved
