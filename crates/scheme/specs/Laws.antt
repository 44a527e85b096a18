-- What ties an arithmetic to a field.
--   Laws         it is a field's, on numbers, and its coefficients are a Cauchy matrix of the rows 1 to n and the columns 1 to m
--   AddsWhole   and what whole-number totals need besides: residues add as whole numbers do
-- Assumes nothing: these are definitions.
use Rattle.std.specs.Prelude.{◌≡◌, ◌≢◌, ℕ, ◌≤◌, ◌<◌, ℤ, ◌+ℤ◌}
use Rattle.algebra.specs.Field.{Field, sub}
use Rattle.scheme.specs.Scheme.{Arithmetic}
use Rattle.scheme.specs.Signed.{residue}

pub record Laws (A : Arithmetic) (n m : ℕ) : Type 1 where
  pub K : Field
  pub el : ℕ → K.F
  pub val : K.F → ℕ
  pub val_small : (x : K.F) → val x < A.size
  pub el_val : (x : K.F) → el (val x) ≡ x
  pub val_el : (a : ℕ) → a < A.size → val (el a) ≡ a
  pub add_small : (a b : ℕ) → A.add a b < A.size
  pub subtract_small : (a b : ℕ) → A.subtract a b < A.size
  pub el_zero : el 0 ≡ K.𝟘
  pub el_add : (a b : ℕ) → el (A.add a b) ≡ K.add (el a) (el b)
  pub el_subtract : (a b : ℕ) → el (A.subtract a b) ≡ sub K (el a) (el b)
  pub el_multiply : (a b : ℕ) → el (A.multiply a b) ≡ K.mul (el a) (el b)
  pub row : (k : ℕ) → K.F
  pub col : (j : ℕ) → K.F
  pub coefficient_right : (k j : ℕ) → (1 ≤ k) × (k ≤ n) → (1 ≤ j) × (j ≤ m) → K.mul (K.add (row k) (col j)) (el (A.coefficient k j)) ≡ K.𝟙
  pub rows_apart : (i k : ℕ) → (1 ≤ i) × (i ≤ n) → (1 ≤ k) × (k ≤ n) → i ≢ k → row i ≢ row k
  pub columns_apart : (i j : ℕ) → (1 ≤ i) × (i ≤ m) → (1 ≤ j) × (j ≤ m) → i ≢ j → col i ≢ col j
  pub meet : (k j : ℕ) → (1 ≤ k) × (k ≤ n) → (1 ≤ j) × (j ≤ m) → K.add (row k) (col j) ≢ K.𝟘

unfoldable pub AddsWhole : Arithmetic → Type 0
AddsWhole A = (a b : ℤ) → A.add (residue A a) (residue A b) ≡ residue A (a +ℤ b)
