-- The sums of an arithmetic are those of its field.
--   el_same                     elements with the same residue are the same
--   zero_small, add_none        0 is an element, and adds nothing
--   sum_el, sum_small           a sum
--   sum_same                    the same terms
--   sum_append, sum_more, sum_shift     over two lists; over one index more; over numbers that start further on
--   coefficient_el              a coefficient
--   row_value_el, row_value_small    a row times its columns
-- Assumes nothing.
use mathlib.Core.Path.{◌≡◌, refl, sym, ap, ap₂, ◌∙◌}
use mathlib.Core.Logic.{inl, inr}
use mathlib.Core.List.{List, [], ◌∷◌, ◌++◌}
use Prim.Native.Nat.{ℕ, zero, suc, ◌+◌, ◌≤◌, ◌<◌}
use native.Mathlib.Nat.{add-suc}
use native.Mathlib.Omega.{arith}
use Rattle.algebra.specs.Sums.{In, sum as field-sum}
use Rattle.algebra.specs.Cauchy.{value}
use Rattle.algebra.proofs.Field.{mul_cancel}
use Rattle.algebra.proofs.Sums.{sum_same as field-sum-same, sum_append as field-sum-append}
use Rattle.scheme.specs.Lists.{span}
use Rattle.scheme.specs.Scheme.{Arithmetic, sum, row_value}
use Rattle.scheme.specs.Laws.{Laws}
use Rattle.scheme.proofs.Lists.{span_in}

pub sum_same : (A : Arithmetic) (l : List ℕ) (f g : ℕ → ℕ) → ((k : ℕ) → In k l → f k ≡ g k) → sum A l f ≡ sum A l g
unfolding sum
sum_same A [] f g h = refl
sum_same A (k ∷ l) f g h = ap₂ A.add (h k (inl refl)) (sum_same A l f g (λ i m. h i (inr m)))

pub sum_shift : (A : Arithmetic) (n s k : ℕ) (f : ℕ → ℕ) → sum A (span n (s + k)) f ≡ sum A (span n k) (λ i. f (s + i))
unfolding sum
sum_shift A zero s k f = refl
sum_shift A (suc n) s k f = ap (A.add (f (s + k))) (ap (λ (j : ℕ). sum A (span n j) f) (sym (add-suc s k)) ∙ sum_shift A n s (suc k) f)

module _ (A : Arithmetic) (n m : ℕ) (L : Laws A n m) where
  open L use {K, el, val, row, col}
  open K use {F, 𝟘, add as ◌⊕◌, mul as ◌⊗◌, inv}

  infixl 65 ◌⊕◌
  infixl 70 ◌⊗◌
  pub el_same : {a b : ℕ} → a < A.size → b < A.size → el a ≡ el b → a ≡ b
  el_same {a} {b} h l e = sym (L.val_el a h) ∙ ap val e ∙ L.val_el b l

  pub zero_small : 0 < A.size
  zero_small = omega (arith, L.add_small 0 0)

  pub add_none : (a b : ℕ) → a < A.size → el b ≡ 𝟘 → A.add a b ≡ a
  add_none a b h e = el_same (L.add_small a b) h (L.el_add a b ∙ ap (λ x. el a ⊕ x) e ∙ K.add-zero (el a))

  pub sum_el : (l : List ℕ) (f : ℕ → ℕ) → el (sum A l f) ≡ field-sum K l (λ k. el (f k))
  unfolding sum
  sum_el [] f = L.el_zero
  sum_el (k ∷ l) f = L.el_add (f k) (sum A l f) ∙ ap (λ s. el (f k) ⊕ s) (sum_el l f)

  pub sum_small : (l : List ℕ) (f : ℕ → ℕ) → sum A l f < A.size
  unfolding sum
  sum_small [] f = zero_small
  sum_small (k ∷ l) f = L.add_small (f k) (sum A l f)

  pub sum_append : (l r : List ℕ) (f : ℕ → ℕ) → sum A (l ++ r) f ≡ A.add (sum A l f) (sum A r f)
  sum_append l r f = el_same (sum_small (l ++ r) f) (L.add_small (sum A l f) (sum A r f))
      (sum_el (l ++ r) f ∙ field-sum-append K l r (λ k. el (f k)) ∙ sym (L.el_add (sum A l f) (sum A r f) ∙ ap₂ ◌⊕◌ (sum_el l f) (sum_el r f)))

  -- one index more: its number is taken as it is, and reduced
  pub sum_more : (l : List ℕ) (k : ℕ) (f : ℕ → ℕ) → sum A (l ++ (k ∷ [])) f ≡ A.add (sum A l f) (f k)
  sum_more l k f = el_same (sum_small (l ++ (k ∷ [])) f) (L.add_small (sum A l f) (f k))
      (sum_el (l ++ (k ∷ [])) f ∙ field-sum-append K l (k ∷ []) (λ i. el (f i))
      ∙ ap₂ ◌⊕◌ (sym (sum_el l f)) (K.add-zero (el (f k))) ∙ sym (L.el_add (sum A l f) (f k)))

  pub coefficient_el : (k j : ℕ) → (1 ≤ k) × (k ≤ n) → (1 ≤ j) × (j ≤ m) → el (A.coefficient k j) ≡ inv (row k ⊕ col j)
  coefficient_el k j h l =
      mul_cancel K (row k ⊕ col j) (L.meet k j h l) (L.coefficient_right k j h l ∙ sym (K.mul_inv (row k ⊕ col j) (L.meet k j h l)))

  pub row_value_el : (u k : ℕ) (f : ℕ → ℕ) → (1 ≤ k) × (k ≤ n) → u ≤ m → el (row_value A u k f) ≡ value K row col (span u 1) k (λ j. el (f j))
  unfolding row_value
  row_value_el u k f h l = sum_el (span u 1) (λ j. A.multiply (A.coefficient k j) (f j)) ∙ field-sum-same K (span u 1) _ _ (λ j i.
      let s = span_in u 1 j i in
      L.el_multiply (A.coefficient k j) (f j) ∙ ap (λ c. c ⊗ el (f j)) (coefficient_el k j h (s.0, omega arith)))

  pub row_value_small : (u k : ℕ) (f : ℕ → ℕ) → row_value A u k f < A.size
  unfolding row_value
  row_value_small u k f = sum_small (span u 1) (λ j. A.multiply (A.coefficient k j) (f j))
