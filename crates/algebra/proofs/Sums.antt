-- Laws of sums and products over a list of indices.
--   sum_same, sum_zero, sum_add, sum_sub, sum_scale   term by term
--   sum_append            over two lists after each other
--   sum_swap, sum_pair    two sums exchanged; the same with a coefficient for each pair of indices
--   sum_pick              only one term is not zero
--   product_same, product_zero
use mathlib.Core.Path.{◌≡◌, refl, sym, ap, ap₂, ◌∙◌, subst}
use mathlib.Core.Logic.{◌≢◌, inl, inr}
use mathlib.Core.List.{List, [], ◌∷◌, ◌++◌}
use Prim.Native.Nat.{ℕ}
use Rattle.algebra.specs.Field.{Field, sub}
use Rattle.algebra.specs.Sums.{In, Distinct, sum, product}
use Rattle.algebra.proofs.Field.{sums, expand, zero-add, mul-zero, zero-mul, add_sub, sub_is}

module _ (K : Field) where
  open K use {F, 𝟘, 𝟙, add as ◌⊕◌, mul as ◌⊗◌}

  infixl 65 ◌⊕◌
  infixl 70 ◌⊗◌
  pub sum_same : (ks : List ℕ) (f g : ℕ → F) → ((k : ℕ) → In k ks → f k ≡ g k) → sum K ks f ≡ sum K ks g
  sum_same [] f g h = refl
  sum_same (k ∷ ks) f g h = ap₂ ◌⊕◌ (h k (inl refl)) (sum_same ks f g (λ l m. h l (inr m)))

  pub sum_zero : (ks : List ℕ) (f : ℕ → F) → ((k : ℕ) → In k ks → f k ≡ 𝟘) → sum K ks f ≡ 𝟘
  sum_zero [] f h = refl
  sum_zero (k ∷ ks) f h = ap₂ ◌⊕◌ (h k (inl refl)) (sum_zero ks f (λ l m. h l (inr m))) ∙ K.add-zero 𝟘

  pub sum_add : (ks : List ℕ) (f g : ℕ → F) → sum K ks (λ k. f k ⊕ g k) ≡ sum K ks f ⊕ sum K ks g
  sum_add [] f g = sym (K.add-zero 𝟘)
  sum_add (k ∷ ks) f g = ap (λ s. f k ⊕ g k ⊕ s) (sum_add ks f g) ∙ simp sums

  pub sum_sub : (ks : List ℕ) (f g : ℕ → F) → sum K ks (λ k. sub K (f k) (g k)) ≡ sub K (sum K ks f) (sum K ks g)
  sum_sub ks f g =
      sym (sub_is K (sym (sum_add ks g (λ k. sub K (f k) (g k))) ∙ sum_same ks _ f (λ k m. add_sub K (f k) (g k))))

  pub sum_scale : (a : F) (ks : List ℕ) (f : ℕ → F) → sum K ks (λ k. a ⊗ f k) ≡ a ⊗ sum K ks f
  sum_scale a [] f = sym (mul-zero K a)
  sum_scale a (k ∷ ks) f = ap (λ s. a ⊗ f k ⊕ s) (sum_scale a ks f) ∙ sym (K.mul-add a _ _)

  pub sum_append : (ks ls : List ℕ) (f : ℕ → F) → sum K (ks ++ ls) f ≡ sum K ks f ⊕ sum K ls f
  sum_append [] ls f = sym (zero-add K _)
  sum_append (k ∷ ks) ls f = ap (λ s. f k ⊕ s) (sum_append ks ls f) ∙ sym (K.add_assoc _ _ _)

  pub sum_swap : (is ks : List ℕ) (g : ℕ → ℕ → F) → sum K is (λ i. sum K ks (g i)) ≡ sum K ks (λ k. sum K is (λ i. g i k))
  sum_swap [] ks g = sym (sum_zero ks _ (λ k m. refl))
  sum_swap (i ∷ is) ks g = ap (λ s. sum K ks (g i) ⊕ s) (sum_swap is ks g) ∙ sym (sum_add ks (g i) _)

  -- Σ_i w_i Σ_k a_ik u_k = Σ_k u_k Σ_i a_ik w_i
  pub sum_pair : (is ks : List ℕ) (a : ℕ → ℕ → F) (w u : ℕ → F)
      → sum K is (λ i. w i ⊗ sum K ks (λ k. a i k ⊗ u k)) ≡ sum K ks (λ k. u k ⊗ sum K is (λ i. a i k ⊗ w i))
  sum_pair is ks a w u =
      sum_same is _ (λ i. sum K ks (λ k. u k ⊗ (a i k ⊗ w i))) (λ i m.
      sym (sum_scale (w i) ks _) ∙ sum_same ks _ _ (λ k n. turn (w i) (a i k) (u k)))
      ∙ sum_swap is ks _ ∙ sum_same ks _ _ (λ k m. sum_scale (u k) is (λ i. a i k ⊗ w i))
    where
      turn : (x y z : F) → x ⊗ (y ⊗ z) ≡ z ⊗ (y ⊗ x)
      turn x y z = simp expand

  pub sum_pick : (ks : List ℕ) (f : ℕ → F) (i : ℕ) → Distinct ks → In i ks → ((k : ℕ) → In k ks → k ≢ i → f k ≡ 𝟘) → sum K ks f ≡ f i
  sum_pick [] f i once m h = absurd m
  sum_pick (k ∷ ks) f i once (inl e) h =
      ap₂ ◌⊕◌ (ap f (sym e)) (sum_zero ks f (λ l m. h l (inr m) (λ d. once.0 (subst (λ n. In n ks) (d ∙ e) m)))) ∙ K.add-zero (f i)
  sum_pick (k ∷ ks) f i once (inr m) h =
      ap₂ ◌⊕◌ (h k (inl refl) (λ d. once.0 (subst (λ n. In n ks) (sym d) m))) (sum_pick ks f i once.1 m (λ l n. h l (inr n)))
      ∙ zero-add K (f i)

  pub product_same : (ks : List ℕ) (f g : ℕ → F) → ((k : ℕ) → In k ks → f k ≡ g k) → product K ks f ≡ product K ks g
  product_same [] f g h = refl
  product_same (k ∷ ks) f g h = ap₂ ◌⊗◌ (h k (inl refl)) (product_same ks f g (λ l m. h l (inr m)))

  pub product_zero : (ks : List ℕ) (f : ℕ → F) (i : ℕ) → In i ks → f i ≡ 𝟘 → product K ks f ≡ 𝟘
  product_zero [] f i m e = absurd m
  product_zero (k ∷ ks) f i (inl d) e = ap (λ x. x ⊗ product K ks f) (ap f (sym d) ∙ e) ∙ zero-mul K _
  product_zero (k ∷ ks) f i (inr m) e = ap (λ x. f k ⊗ x) (product_zero ks f i m e) ∙ mul-zero K (f k)
