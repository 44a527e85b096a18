-- Square Cauchy systems on lists of numbers, over an arithmetic with its laws, everything by position: row a has the point of the
-- number rows[a], column i that of columns[i], and the coefficient is 1 / (row + column).
--   Points, Square             the first n numbers are in range and different; such rows and columns
--   value_of, scaled_on        the value of a row; a sum and one product more
--   cell, grid, block          a grid: the number of a row and a block; n rows by a rule; the numbers of a block
--   row_fits, FirstMisfit     whether a row of several blocks has the values that follow; the first row of some that fails a test
--   row_points, column_points, right_side       the points of rows and columns, and values, as elements of the field
--   row_weight, column_weight                   the weights of algebra's closed solution
--   weighed_values             values, each row times its weight
--   unknown_at, solution_of    algebra's closed solution
--   unknowns_of                the first k unknowns of every block
-- Modulo q, as code computes it:
--   gap_between, gap_entry     1 / (x - y), and 1 where they are the same; by most_threshold + x - y
--   SumsLow                   sums with the first n points are below the bound of all
-- Assumes nothing: these are definitions.
use Rattle.std.specs.Prelude.{◌≡◌, ◌≢◌, Bool, true, false, cond, List, map, ℕ, ◌+◌, ◌*◌, ◌-◌, ◌/◌, ◌%◌, ◌≤◌, ◌<◌, eqb, get_or}
use Rattle.algebra.specs.Residue.{inverse}
use Rattle.algebra.specs.Cauchy.{weight, solution}
use Rattle.scheme.specs.Limits.{most_users, most_threshold, most_blocks, cells, points}
use Rattle.scheme.specs.Lists.{span, all_of, filled}
use Rattle.scheme.specs.Scheme.{Arithmetic, modular}
use Rattle.scheme.specs.Laws.{Laws}
use Rattle.scheme.specs.Weighed.{weighed_by}

-- ---- WHAT IS ASKED OF THE POINTS
pub record Points (most n : ℕ) (xs : List ℕ) : Type 0 where
  pub inside : (i : ℕ) → i < n → (1 ≤ get_or xs i 0) × (get_or xs i 0 ≤ most)
  pub apart : (i k : ℕ) → i < n → k < n → i ≢ k → get_or xs i 0 ≢ get_or xs k 0

pub record Square (rows columns : List ℕ) (n : ℕ) : Type 0 where
  pub few : n ≤ most_users
  pub rows_good : Points most_users n rows
  pub columns_good : Points most_threshold n columns

-- ---- THE VALUE OF A ROW
abbrev pub value_of : Arithmetic → (x : ℕ) → (points values : List ℕ) → (n : ℕ) → ℕ
value_of A x ps vs n = weighed_by A (λ i. A.coefficient x (get_or ps i 0)) n (λ i. get_or vs i 0)

-- a sum of a block, with what stands in a row of a grid from `at` on, times a factor
abbrev pub scaled_on : Arithmetic → (sums : List ℕ) → (factor : ℕ) → (grid : List ℕ) → (at b : ℕ) → ℕ
scaled_on A xs c g at b = A.add (get_or xs b 0) (A.multiply c (get_or g (at + b) 0))

-- ---- GRIDS: a row for each user, in it a number for each block
abbrev pub cell : (grid : List ℕ) → (a b : ℕ) → ℕ
cell g a b = get_or g (a * most_blocks + b) 0

-- n rows by a rule, and 0 behind them
unfoldable pub grid : (n : ℕ) → (rule : (a b : ℕ) → ℕ) → List ℕ
grid n f = filled cells (n * most_blocks) (λ k. f (k / most_blocks) (k % most_blocks))

unfoldable pub block : (grid : List ℕ) → (b : ℕ) → List ℕ
block g b = map (λ a. cell g a b) (span most_users 0)

unfoldable pub row_fits : Arithmetic → (rows columns values unknowns : List ℕ) → (n blocks a : ℕ) → Bool
row_fits A rs cs vs ws n m a = all_of (λ b. eqb (value_of A (get_or rs a 0) cs (block ws b) n) (cell vs a b)) (span m 0)

-- of the rows from `from` to m - 1, and m where all pass
pub record FirstMisfit (test : ℕ → Bool) (from m at : ℕ) : Type 0 where
  pub low : from ≤ at
  pub high : at ≤ m
  pub before : (a : ℕ) → from ≤ a → a < at → test a ≡ true
  pub fails : at < m → test at ≡ false

-- ---- THE CLOSED SOLUTION
module _ (A : Arithmetic) (L : Laws A most_users most_threshold) where
  open L use {K, el, val, row, col}

  abbrev pub row_points : (rows : List ℕ) → (at : ℕ) → K.F
  row_points rs a = row (get_or rs a 0)

  abbrev pub column_points : (columns : List ℕ) → (at : ℕ) → K.F
  column_points cs i = col (get_or cs i 0)

  abbrev pub right_side : (values : List ℕ) → (at : ℕ) → K.F
  right_side vs a = el (get_or vs a 0)

  unfoldable pub row_weight : (rows columns : List ℕ) → (n at : ℕ) → ℕ
  row_weight rs cs n a = val (weight K (row_points rs) (column_points cs) (span n 0) (span n 0) a)

  unfoldable pub column_weight : (rows columns : List ℕ) → (n at : ℕ) → ℕ
  column_weight rs cs n i = val (weight K (column_points cs) (row_points rs) (span n 0) (span n 0) i)

  unfoldable pub weighed_values : (rows columns values : List ℕ) → (n : ℕ) → List ℕ
  weighed_values rs cs vs n = grid n (λ a b. A.add 0 (A.multiply (row_weight rs cs n a) (cell vs a b)))

  unfoldable pub unknown_at : (rows columns values : List ℕ) → (n at : ℕ) → ℕ
  unknown_at rs cs vs n i = val (solution K (row_points rs) (column_points cs) (span n 0) (span n 0) (right_side vs) i)

  unfoldable pub solution_of : (rows columns values : List ℕ) → (n : ℕ) → List ℕ
  solution_of rs cs vs n = filled most_users n (unknown_at rs cs vs n)

  unfoldable pub unknowns_of : (rows columns values : List ℕ) → (n k : ℕ) → List ℕ
  unknowns_of rs cs vs n k = grid k (λ i b. unknown_at rs cs (block vs b) n i)

-- ---- MODULO q, AS CODE COMPUTES IT
unfoldable pub gap_between : (q x y : ℕ) → ℕ
gap_between q x y = cond (eqb x y) 1 (inverse q ((modular q).subtract x y))

-- 1 / (d - most_threshold), and 1 at most_threshold
unfoldable pub gap_entry : (q d : ℕ) → ℕ
gap_entry q d = cond (eqb d most_threshold) 1 (inverse q ((d + (q - most_threshold)) % q))

pub record SumsLow (x n : ℕ) (ps : List ℕ) : Type 0 where
  pub low : (i : ℕ) → i < n → x + get_or ps i 0 < points
