-- Cauchy systems: row k has the point row k, column i the point col i, and the coefficient is 1 / (row k + col i).
--   coefficient   of a row and a column
--   value         of a row: the sum of the unknowns times its coefficients
--   System        what makes a system one: as many rows as columns, distinct points, no sum of points that is zero
--   gap, weight   the products of the closed solution
--   solution      the closed solution: for a right-hand side f, the unknown of each column
-- Assumes nothing: these are definitions.
use Rattle.std.specs.Prelude.{◌≡◌, ◌≢◌, List, cond, ℕ, eqb, length}
use Rattle.algebra.specs.Field.{Field, sub}
use Rattle.algebra.specs.Sums.{In, Distinct, sum, product}

module _ (K : Field) (row col : ℕ → Field.F K) where
  open K use {F, 𝟘, 𝟙, add, mul, inv}

  abbrev pub coefficient : (k i : ℕ) → F
  coefficient k i = inv (add (row k) (col i))

  abbrev pub value : (columns : List ℕ) → (k : ℕ) → (unknowns : ℕ → F) → F
  value cs k w = sum K cs (λ i. mul (coefficient k i) (w i))

  pub record System (rows columns : List ℕ) : Type 0 where
    pub square : length rows ≡ length columns
    pub rows_once : Distinct rows
    pub columns_once : Distinct columns
    pub rows_apart : (i k : ℕ) → In i rows → In k rows → i ≢ k → row i ≢ row k
    pub columns_apart : (i k : ℕ) → In i columns → In k columns → i ≢ k → col i ≢ col k
    pub meet : (k i : ℕ) → In k rows → In i columns → add (row k) (col i) ≢ 𝟘

  -- 1 / (row k - row l), and 1 at k itself
  abbrev pub gap : (k l : ℕ) → F
  gap k l = cond (eqb k l) 𝟙 (inv (sub K (row k) (row l)))

  -- of a row: the sums with all columns' points over the differences from the other rows' points
  abbrev pub weight : (rows columns : List ℕ) → (k : ℕ) → F
  weight rs cs k = mul (product K cs (λ i. add (row k) (col i))) (product K rs (gap k))

-- a column's weight is that of a row of the system with rows and columns exchanged
abbrev pub solution : (K : Field) (row col : ℕ → K.F) (rows columns : List ℕ) (f : ℕ → K.F) → (i : ℕ) → K.F
solution K row col rs cs f i =
    K.mul (weight K col row cs rs i) (sum K rs (λ k. K.mul (coefficient K row col k i) (K.mul (weight K row col rs cs k) (f k))))
