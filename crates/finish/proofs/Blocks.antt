-- One block: the closed solution of the first U complete replies, over an arithmetic with its laws.
--   column_at, columns_points, users_few, enough_rows, rows_square, listed_few, listed_points      the points of columns and rows
--   value_at                       the reply of a row
--   explained_small                replies that something explains are elements
--   choice_first                   where they are elements the closed solution explains the first U of them
-- Assumes nothing.
use Rattle.std.proofs.Common.{◌≡◌, refl, sym, ◌∙◌, subst, true, List, map, ℕ, ◌+◌, ◌≤◌, ◌<◌, arith, eqb, length, get_or, take, take_at, eqb-true}
use lib.ListN.{length-map}
use Rattle.scheme.specs.Limits.{most_users, most_threshold}
use Rattle.scheme.specs.Lists.{span, all_of, padded, filled}
use Rattle.scheme.specs.Scheme.{Arithmetic, Plan, ones, users_in, in_set}
use Rattle.scheme.specs.Laws.{Laws}
use Rattle.scheme.specs.Good.{Good}
use Rattle.scheme.specs.Solve.{Points, Square, solution_of}
use Rattle.scheme.specs.Totals.{explains_all}
use Rattle.scheme.proofs.Lists.{map_span_length, in_span, members_once, members_le, all_of_in, in_at}
use Rattle.scheme.proofs.Sums.{row_value_small}
use Rattle.scheme.proofs.Sets.{users_in_in, users_in_size}
use Rattle.scheme.proofs.Pooling.Totals.{at_apart, unknown, Explained, explained}
use Rattle.scheme.proofs.Padded.{padded_at, map_at}
use Rattle.scheme.proofs.Solving.Closed.{points_some}
use Rattle.scheme.proofs.Solving.Explains.{Block, explains_first}
use Rattle.finish.specs.Finish.{rows_of, values_of, columns, choice_of}

-- ---- the points
pub column_at : (i : ℕ) → i < most_threshold → get_or columns i 0 ≡ i + 1
unfolding all_of padded
column_at i h =
    let n : ℕ = most_threshold in
    eqb-true _ _ (all_of_in (λ k. eqb (get_or columns k 0) (k + 1)) (span n 0) refl i (in_span n 0 i (omega arith) (omega arith)))

pub columns_points : (n : ℕ) → n ≤ most_threshold → Points most_threshold n columns
columns_points n h = record {
  inside = λ i l. let e = column_at i (omega arith) in (omega arith, omega arith);
  apart = λ i k a b ne e. ne (omega (arith, column_at i (omega arith), column_at k (omega arith)));
}

pub users_few : (p : Plan) (v : ℕ) → length (users_in p v) ≤ p.users
unfolding users_in
users_few p v = members_le (in_set v) p.users 1

row_at : (p : Plan) (v a : ℕ) → a < length (users_in p v) → get_or (rows_of p v) a 0 ≡ get_or (users_in p v) a 0
unfolding rows_of
row_at p v = padded_at most_users (users_in p v)

-- what a list of users gives
module _ (p : Plan) (v : ℕ) (h : p.users ≤ most_users) where
  rows_points : Points most_users (length (users_in p v)) (rows_of p v)
  unfolding users_in
  rows_points = record {
    inside = λ i l. let x = users_in_in p v _ (in_at (users_in p v) i l) in rw (row_at p v i l) (x.0, omega (arith, x.1));
    apart = λ i k a b ne e. at_apart (users_in p v) (members_once (in_set v) p.users 1) i k a b ne (sym (row_at p v i a) ∙ e ∙ row_at p v k b);
  }

  module _ (rs : List ℕ) (m : ℕ) (e : rs ≡ rows_of p v) (d : m ≡ length (users_in p v)) where
    pub listed_few : m ≤ most_users
    listed_few = omega (arith, users_few p v)

    pub listed_points : Points most_users m rs
    listed_points = rw (e, d) rows_points

    pub listed_at : (a : ℕ) → a < m → get_or rs a 0 ≡ get_or (users_in p v) a 0
    listed_at a l = rw e (row_at p v a (omega arith))

module _ (p : Plan) (r : ℕ) (good : Good p) (many : p.threshold ≤ ones p.users r) where
  pub enough_rows : p.threshold ≤ length (users_in p r)
  enough_rows = omega (arith, users_in_size p r)

  pub rows_square : Square (rows_of p r) columns p.threshold
  rows_square = record {
    few = omega (arith, good.threshold_high, good.users_high);
    rows_good = points_some (rows_points p r good.users_high) (omega arith) enough_rows;
    columns_good = columns_points p.threshold (omega (arith, good.threshold_high, good.users_high));
  }

-- ---- the replies of a block
module _ (p : Plan) (r : ℕ) (y : (k block : ℕ) → ℕ) where
  pub value_at : (b a : ℕ) → a < length (users_in p r) → get_or (values_of p r y b) a 0 ≡ y (get_or (users_in p r) a 0) b
  unfolding values_of
  value_at b a h =
      padded_at most_users (map (λ k. y k b) (users_in p r)) a (omega (arith, length-map (users_in p r) (λ k. y k b)))
      ∙ map_at (λ k. y k b) (users_in p r) a h

-- ---- what explains them
module _ (A : Arithmetic) (L : Laws A most_users most_threshold) (p : Plan) (r : ℕ) where
  pub explained_small : (y : (k block : ℕ) → ℕ) (f : (block : ℕ) → List ℕ) → explains_all A p r y f ≡ true
      → (a b : ℕ) → a < length (users_in p r) → b < p.blocks → y (get_or (users_in p r) a 0) b < A.size
  explained_small y f h a b l k =
      subst (λ (x : ℕ). x < A.size) ((explained A p r y f h b k).fits a l)
      (row_value_small A most_users most_threshold L p.threshold (get_or (users_in p r) a 0) (unknown (f b)))

  module _ (good : Good p) (many : p.threshold ≤ ones p.users r) (y : (k block : ℕ) → ℕ) (b : ℕ) where
    choice_take : take p.threshold (solution_of A L (rows_of p r) columns (values_of p r y b) p.threshold) ≡ choice_of A L p r y b
    unfolding solution_of filled choice_of padded
    choice_take = take_at _ _ p.threshold (map_span_length _ p.threshold 0)

    abbrev pub Explains : (n : ℕ) (unknowns : List ℕ) → Type 0
    Explains n = Explained A p (users_in p r) n (λ k. y k b)

    module _ (small : (a : ℕ) → a < length (users_in p r) → get_or (values_of p r y b) a 0 < A.size) where
      block : Block A p (users_in p r) (length (users_in p r)) (λ k. y k b) (rows_of p r) columns (values_of p r y b)
      block = record {
        many = enough_rows p r good many;
        columns = λ i h. column_at i (omega (arith, good.threshold_high, good.users_high));
        rows = row_at p r;
        values = value_at p r y b;
        small = small;
      }

      pub choice_first : Explains p.threshold (choice_of A L p r y b)
      choice_first = subst (Explains p.threshold) choice_take (explains_first A L _ _ _ _ _ _ _ block (rows_square p r good many))
