-- Sums and products over a list of indices.
--   In, Distinct   something stands in a list; no number stands there twice
--   sum, product   over the indices of a list
-- Assumes nothing: these are definitions.
use Rattle.std.specs.Prelude.{◌≡◌, ◌⊎◌, List, [], ◌∷◌, ℕ}
use Rattle.algebra.specs.Field.{Field}

abbrev pub In : {X : Type 0} → X → List X → Type 0
In k [] = ⊥
In k (l ∷ ls) = (k ≡ l) ⊎ In k ls

abbrev pub Distinct : List ℕ → Type 0
Distinct [] = Unit {0}
Distinct (k ∷ ks) = (In k ks → ⊥) × Distinct ks

module _ (K : Field) where
  open K use {F, 𝟘, 𝟙, add, mul}

  abbrev pub sum : List ℕ → (ℕ → F) → F
  sum [] f = 𝟘
  sum (k ∷ ks) f = add (f k) (sum ks f)

  abbrev pub product : List ℕ → (ℕ → F) → F
  product [] f = 𝟙
  product (k ∷ ks) f = mul (f k) (product ks f)
