-- The weights of a Cauchy system, by partial fractions.
--   two_points, three_points   identities of fractions
--   partial                    Π (z + col) / Π (z - row) + Σ weight k / (row k - z) = 1 at every z that is no row's point
--   weights_one                so the rows' weights solve the transposed system with right-hand sides 1: take z = - col i
use mathlib.Core.Path.{◌≡◌, refl, sym, ap, ap₂, ◌∙◌, ◌≡⟨◌⟩◌, ◌∎, subst}
use mathlib.Core.Logic.{◌≢◌, Ne-symm, inl, inr}
use mathlib.Core.List.{List, [], ◌∷◌}
use Prim.Native.Nat.{ℕ}
use native.Mathlib.Omega.{arith}
use borrow.Author.Tests.{eq-eqb, ne_eqb}
use lib.ListN.{length}
use Rattle.algebra.specs.Field.{Field, sub}
use Rattle.algebra.specs.Sums.{In, Distinct, sum, product}
use Rattle.algebra.specs.Cauchy.{System, value, gap, weight}
use Rattle.algebra.proofs.Field.{add_swap, add_last, expand, zero-add, one-mul, mul-zero, zero-mul, neg_add, add_sub, sub_is, sub_ne}
use Rattle.algebra.proofs.Sums.{sum_same, sum_add, sum_scale, product_same, product_zero}

module _ (K : Field) where
  open K use {F, 𝟘, 𝟙, add as ◌⊕◌, mul as ◌⊗◌, neg, inv}

  infixl 65 ◌⊕◌
  infixl 70 ◌⊗◌
  infixl 65 ◌⊝◌
  abbrev ◌⊝◌ : F → F → F
  a ⊝ b = sub K a b

  unit : {a b : F} → a ≢ b → (a ⊝ b) ⊗ inv (a ⊝ b) ≡ 𝟙
  unit h = K.mul_inv _ (sub_ne K h)

  sub_chain : (a b c : F) → (a ⊝ b) ⊕ (b ⊝ c) ≡ a ⊝ c
  sub_chain a b c = sym (sub_is K (cc (add_swap K c (a ⊝ b) (b ⊝ c), add_sub K b c, K.add_comm (a ⊝ b) b, add_sub K a b)))

  opposite : (d e x y : F) → d ⊗ x ≡ 𝟙 → e ⊗ y ≡ 𝟙 → d ⊕ e ≡ 𝟘 → x ⊕ y ≡ 𝟘
  opposite d e x y dx ey de =
      x ⊕ y ≡⟨ ap₂ ◌⊕◌ (sym (K.mul-one x) ∙ ap (λ u. x ⊗ u) (sym ey)) (sym (K.mul-one y) ∙ ap (λ u. y ⊗ u) (sym dx)) ⟩
      x ⊗ (e ⊗ y) ⊕ y ⊗ (d ⊗ x) ≡⟨ (simp expand) ⟩
      (d ⊕ e) ⊗ (x ⊗ y) ≡⟨ (rw (de, zero-mul)) ⟩
      𝟘 ∎

  -- (z + c) / (z - r) + (r + c) / (r - z) = 1
  two_points : (r z c : F) → z ≢ r → (z ⊕ c) ⊗ inv (z ⊝ r) ⊕ (r ⊕ c) ⊗ inv (r ⊝ z) ≡ 𝟙
  two_points r z c h =
      ap (λ u. (u ⊕ c) ⊗ x ⊕ (r ⊕ c) ⊗ y) (sym (add_sub K z r))
      ∙ split (z ⊝ r) x y (unit h) (opposite (z ⊝ r) (r ⊝ z) x y (unit h) (unit (Ne-symm h)) (sub_chain z r z ∙ sub_is K (K.add-zero z)))
    where
      x : F
      x = inv (z ⊝ r)

      y : F
      y = inv (r ⊝ z)

      split : (d x y : F) → d ⊗ x ≡ 𝟙 → x ⊕ y ≡ 𝟘 → (r ⊕ d ⊕ c) ⊗ x ⊕ (r ⊕ c) ⊗ y ≡ 𝟙
      split d x y dx xy =
          (r ⊕ d ⊕ c) ⊗ x ⊕ (r ⊕ c) ⊗ y ≡⟨ (simp expand) ⟩
          d ⊗ x ⊕ (r ⊕ c) ⊗ (x ⊕ y) ≡⟨ (rw (dx, xy, mul-zero, K.add-zero)) ⟩
          𝟙 ∎

  -- (k + c) / (k - r) / (k - z) = (z + c) / (z - r) / (k - z) + (r + c) / (r - z) / (k - r)
  three_points : (r z k c : F) → z ≢ r → k ≢ r → k ≢ z
      → (k ⊕ c) ⊗ inv (k ⊝ r) ⊗ inv (k ⊝ z) ≡ (z ⊕ c) ⊗ inv (z ⊝ r) ⊗ inv (k ⊝ z) ⊕ (r ⊕ c) ⊗ inv (r ⊝ z) ⊗ inv (k ⊝ r)
  three_points r z k c zr kr kz =
      ap (λ u. u ⊗ inv (k ⊝ r) ⊗ inv (k ⊝ z)) (ap (λ u. u ⊕ c) (sym (add_sub K k z)) ∙ add_last K z (k ⊝ z) c)
      ∙ split (z ⊕ c) (z ⊝ r) (k ⊝ z) _ _ _ _ (K.mul_assoc _ _ _ ∙ ap (λ u. (z ⊕ c) ⊗ u) (K.mul_comm _ _ ∙ unit zr) ∙ K.mul-one (z ⊕ c))
      (two_points r z c zr) (ap (λ u. u ⊗ inv (k ⊝ r)) (sub_chain k z r) ∙ unit kr) (unit kz)
    where
      split : (a d v p q x y : F) → p ⊗ d ≡ a → p ⊕ q ≡ 𝟙 → (v ⊕ d) ⊗ x ≡ 𝟙 → v ⊗ y ≡ 𝟙 → (a ⊕ v) ⊗ x ⊗ y ≡ p ⊗ y ⊕ q ⊗ x
      split a d v p q x y pd one wx vy =
          (a ⊕ v) ⊗ x ⊗ y ≡⟨ ap₂ (λ u w. (u ⊕ w) ⊗ x ⊗ y) (sym pd) (sym (one-mul K v) ∙ ap (λ u. u ⊗ v) (sym one)) ⟩
          (p ⊗ d ⊕ (p ⊕ q) ⊗ v) ⊗ x ⊗ y ≡⟨ (simp expand) ⟩
          p ⊗ y ⊗ ((v ⊕ d) ⊗ x) ⊕ q ⊗ x ⊗ (v ⊗ y) ≡⟨ (simp (wx, vy, K.mul-one)) ⟩
          p ⊗ y ⊕ q ⊗ x ∎

  module _ (row col : ℕ → F) where
    gap_same : (k : ℕ) → gap K row col k k ≡ 𝟙
    gap_same k = rw (eq-eqb k k refl)

    gap_other : (k l : ℕ) → k ≢ l → gap K row col k l ≡ inv (row k ⊝ row l)
    gap_other k l h = rw (ne_eqb k l h)

    abbrev Away : F → (rows : List ℕ) → Type 0
    Away z rs = (k : ℕ) → In k rs → z ≢ row k

    top : (rows columns : List ℕ) → F → F
    top rs cs z = product K cs (λ i. z ⊕ col i) ⊗ product K rs (λ l. inv (z ⊝ row l))

    whole : (rows columns : List ℕ) → F → F
    whole rs cs z = top rs cs z ⊕ sum K rs (λ k. weight K row col rs cs k ⊗ inv (row k ⊝ z))

    -- one row and one column more
    module _ (r c : ℕ) (rs cs : List ℕ) (z : F) (fresh : (k : ℕ) → In k rs → r ≢ k)
        (apart : Away (row r) rs) (new : z ≢ row r) (away : Away z rs) where
      p : F
      p = (z ⊕ col c) ⊗ inv (z ⊝ row r)

      q : F
      q = (row r ⊕ col c) ⊗ inv (row r ⊝ z)

      top_more : top (r ∷ rs) (c ∷ cs) z ≡ p ⊗ top rs cs z
      unfolding top p
      top_more = simp expand

      own_term : weight K row col (r ∷ rs) (c ∷ cs) r ⊗ inv (row r ⊝ z) ≡ q ⊗ top rs cs (row r)
      unfolding top q
      own_term =
          ap₂ (λ u v. (row r ⊕ col c) ⊗ product K cs (λ i. row r ⊕ col i) ⊗ (u ⊗ v) ⊗ inv (row r ⊝ z))
          (gap_same r) (product_same K rs (gap K row col r) _ (λ l m. gap_other r l (fresh l m)))
          ∙ simp expand

      other_term : (k : ℕ) → In k rs → weight K row col (r ∷ rs) (c ∷ cs) k ⊗ inv (row k ⊝ z)
          ≡ p ⊗ (weight K row col rs cs k ⊗ inv (row k ⊝ z)) ⊕ q ⊗ (weight K row col rs cs k ⊗ inv (row k ⊝ row r))
      unfolding p q
      other_term k m =
          ap (λ u. (row k ⊕ col c) ⊗ product K cs (λ i. row k ⊕ col i) ⊗ (u ⊗ product K rs (gap K row col k)) ⊗ inv (row k ⊝ z))
          (gap_other k r (Ne-symm (fresh k m)))
          ∙ spread _ _ _ _ _ _ _ (three_points (row r) z (row k) (col c) new (Ne-symm (apart k m)) (Ne-symm (away k m)))
        where
          spread : (a s t x y p q : F) → a ⊗ x ⊗ y ≡ p ⊗ y ⊕ q ⊗ x → a ⊗ s ⊗ (x ⊗ t) ⊗ y ≡ p ⊗ (s ⊗ t ⊗ y) ⊕ q ⊗ (s ⊗ t ⊗ x)
          spread a s t x y p q e =
              a ⊗ s ⊗ (x ⊗ t) ⊗ y ≡⟨ (simp expand) ⟩
              s ⊗ t ⊗ (a ⊗ x ⊗ y) ≡⟨ ap (λ u. s ⊗ t ⊗ u) e ⟩
              s ⊗ t ⊗ (p ⊗ y ⊕ q ⊗ x) ≡⟨ (simp expand) ⟩
              p ⊗ (s ⊗ t ⊗ y) ⊕ q ⊗ (s ⊗ t ⊗ x) ∎

      whole_more : whole rs cs z ≡ 𝟙 → whole rs cs (row r) ≡ 𝟙 → whole (r ∷ rs) (c ∷ cs) z ≡ 𝟙
      unfolding whole p q
      whole_more at-z at-r =
          ap₂ ◌⊕◌ top_more
          (ap₂ ◌⊕◌ own_term
          (sum_same K rs _ _ other_term ∙ sum_add K rs _ _ ∙ ap₂ ◌⊕◌ (sum_scale K p rs _) (sum_scale K q rs _)))
          ∙ gather p q _ _ _ _ at-z at-r ∙ two_points (row r) z (col c) new
        where
          gather : (p q a b s t : F) → a ⊕ s ≡ 𝟙 → b ⊕ t ≡ 𝟙 → p ⊗ a ⊕ (q ⊗ b ⊕ (p ⊗ s ⊕ q ⊗ t)) ≡ p ⊕ q
          gather p q a b s t e f =
              p ⊗ a ⊕ (q ⊗ b ⊕ (p ⊗ s ⊕ q ⊗ t)) ≡⟨ (simp expand) ⟩
              p ⊗ (a ⊕ s) ⊕ q ⊗ (b ⊕ t) ≡⟨ (simp (e, f, K.mul-one)) ⟩
              p ⊕ q ∎

    partial : (rows columns : List ℕ) → length rows ≡ length columns → Distinct rows
        → ((i k : ℕ) → In i rows → In k rows → i ≢ k → row i ≢ row k) → (z : F) → Away z rows → whole rows columns z ≡ 𝟙
    unfolding top whole
    partial [] [] e once apart z away = K.add-zero _ ∙ K.mul-one 𝟙
    partial [] (c ∷ cs) e once apart z away = absurd (omega arith)
    partial (r ∷ rs) [] e once apart z away = absurd (omega arith)
    partial (r ∷ rs) (c ∷ cs) e once apart z away =
        let rest : (z : F) → Away z rs → whole rs cs z ≡ 𝟙 = partial rs cs (omega arith) once.1 (λ i k m n. apart i k (inr m) (inr n)) in
        let later : Away z rs = λ k m. away k (inr m) in
        whole_more r c rs cs z fresh from_r (away r (inl refl)) later (rest z later) (rest (row r) from_r)
      where
        fresh : (k : ℕ) → In k rs → r ≢ k
        fresh k m d = once.0 (subst (λ n. In n rs) (sym d) m)

        from_r : Away (row r) rs
        from_r k m = apart r k (inl refl) (inr m) (fresh k m)

    pub weights_one : {rs cs : List ℕ} → System K row col rs cs → (i : ℕ) → In i cs → value K col row rs i (weight K row col rs cs) ≡ 𝟙
    unfolding top whole
    weights_one {rs} {cs} system i m =
        sum_same K rs _ _ (λ k n. K.mul_comm _ _ ∙ ap (λ u. weight K row col rs cs k ⊗ inv u) (minus k))
        ∙ sym (zero-add K _) ∙ ap (λ u. u ⊕ sum K rs (λ k. weight K row col rs cs k ⊗ inv (row k ⊝ z))) (sym none)
        ∙ partial rs cs system.square system.rows_once system.rows_apart z away
      where
        z : F
        z = neg (col i)

        minus : (k : ℕ) → col i ⊕ row k ≡ row k ⊝ z
        minus k = sym (sub_is K (neg_add K (col i) (row k)))

        opposite_col : z ⊕ col i ≡ 𝟘
        opposite_col = K.add_comm z (col i) ∙ K.add_neg (col i)

        away : Away z rs
        away k n e = system.meet k i n m (ap (λ u. u ⊕ col i) (sym e) ∙ opposite_col)

        none : top rs cs z ≡ 𝟘
        none = ap (λ u. u ⊗ product K rs (λ l. inv (z ⊝ row l))) (product_zero K cs _ i m opposite_col) ∙ zero-mul K _
