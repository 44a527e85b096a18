-- Cauchy systems have exactly one solution, and it is the closed one.
--   transposed   rows and columns exchanged: a Cauchy system again
--   solves       the closed solution has the right-hand side as its values
--   unique       unknowns with the same values are the same
-- With E k l = Σ_i β_i a_ki a_li, β the weights of the columns: E k l is 0 for k ≢ l, as (row l - row k) a_ki a_li = a_ki - a_li,
-- and the rows' weight k is 1 / E k k. Uniqueness: an unknown is a sum of the values, with the solution of the transposed system at
-- its unit vector as coefficients.
use mathlib.Core.Path.{◌≡◌, refl, sym, ap, ◌∙◌, ◌≡⟨◌⟩◌, ◌∎}
use mathlib.Core.Logic.{◌≢◌, Ne-symm}
use mathlib.Core.List.{List}
use mathlib.Core.Bool.{cond}
use Prim.Native.Nat.{ℕ}
use borrow.Author.Tests.{eq-eqb, ne_eqb}
use lib.Dec.{eqb}
use Rattle.algebra.specs.Field.{Field, sub}
use Rattle.algebra.specs.Sums.{In, sum}
use Rattle.algebra.specs.Cauchy.{System, coefficient, value, weight, solution}
use Rattle.algebra.proofs.Field.{add_last, expand, one-mul, mul-zero, add_cancel, mul_cancel, add_sub, sub_ne}
use Rattle.algebra.proofs.Sums.{sum_same, sum_add, sum_scale, sum_pair, sum_pick}
use Rattle.algebra.proofs.Weights.{weights_one}

pub transposed : {K : Field} {row col : ℕ → K.F} {rs cs : List ℕ} → System K row col rs cs → System K col row cs rs
transposed {K} system = record {
  square = sym system.square;
  rows_once = system.columns_once;
  columns_once = system.rows_once;
  rows_apart = system.columns_apart;
  columns_apart = system.rows_apart;
  meet = λ i k m n e. system.meet k i n m (K.add_comm _ _ ∙ e);
}

module _ {K : Field} {row col : ℕ → K.F} {rs cs : List ℕ} (system : System K row col rs cs) where
  open K use {F, 𝟘, 𝟙, add as ◌⊕◌, mul as ◌⊗◌, inv}

  infixl 65 ◌⊕◌
  infixl 70 ◌⊗◌
  abbrev a : (k i : ℕ) → F
  a k i = coefficient K row col k i

  abbrev α : (k : ℕ) → F
  α = weight K row col rs cs

  abbrev β : (i : ℕ) → F
  β = weight K col row cs rs

  columns_one : (k : ℕ) → In k rs → value K row col cs k β ≡ 𝟙
  columns_one = weights_one K col row (transposed system)

  transposed_value : (i : ℕ) (w : ℕ → F) → sum K rs (λ k. a k i ⊗ w k) ≡ value K col row rs i w
  transposed_value i w = sum_same K rs _ _ (λ k m. ap (λ u. inv u ⊗ w k) (K.add_comm (row k) (col i)))

  E : (k l : ℕ) → F
  E k l = value K row col cs l (λ i. a k i ⊗ β i)

  cross : (k l : ℕ) → In k rs → In l rs → k ≢ l → E k l ≡ 𝟘
  unfolding E
  cross k l m n h =
      mul_cancel K d (sub_ne K (system.rows_apart l k n m (Ne-symm h)))
      (add_cancel K 𝟙 (ap (λ u. u ⊕ d ⊗ E k l) (sym (columns_one l n))
      ∙ sym (sum_same K cs _ _ each ∙ sum_add K cs _ _ ∙ ap (λ u. value K row col cs l β ⊕ u) (sum_scale K d cs _))
      ∙ columns_one k m ∙ sym (K.add-zero 𝟙) ∙ ap (λ u. 𝟙 ⊕ u) (sym (mul-zero K d))))
    where
      d : F
      d = sub K (row l) (row k)

      -- x = 1 / p, y = 1 / (p + d): x b = y b + d y x b
      apart : (p x y b : F) → p ⊗ x ≡ 𝟙 → (p ⊕ d) ⊗ y ≡ 𝟙 → x ⊗ b ≡ y ⊗ b ⊕ d ⊗ (y ⊗ (x ⊗ b))
      apart p x y b px qy =
          x ⊗ b ≡⟨ sym (one-mul K _) ∙ ap (λ u. u ⊗ (x ⊗ b)) (sym qy) ⟩
          (p ⊕ d) ⊗ y ⊗ (x ⊗ b) ≡⟨ (simp expand) ⟩
          p ⊗ x ⊗ (y ⊗ b) ⊕ d ⊗ (y ⊗ (x ⊗ b)) ≡⟨ (rw (px, one-mul)) ⟩
          y ⊗ b ⊕ d ⊗ (y ⊗ (x ⊗ b)) ∎

      each : (i : ℕ) → In i cs → a k i ⊗ β i ≡ a l i ⊗ β i ⊕ d ⊗ (a l i ⊗ (a k i ⊗ β i))
      each i o =
          apart (row k ⊕ col i) (a k i) (a l i) (β i) (K.mul_inv _ (system.meet k i m o))
          (ap (λ u. u ⊗ a l i) (add_last K (row k) (col i) d ∙ ap (λ u. u ⊕ col i) (add_sub K (row l) (row k)))
          ∙ K.mul_inv _ (system.meet l i n o))

  -- the closed solution, before its weights of the rows
  spread : (g : ℕ → F) (k : ℕ) → In k rs → value K row col cs k (λ i. β i ⊗ sum K rs (λ l. a l i ⊗ g l)) ≡ g k ⊗ E k k
  unfolding E
  spread g k m =
      sum_same K cs _ _ (λ i n. sym (K.mul_assoc (a k i) (β i) _)) ∙ sum_pair K cs rs (λ i l. a l i) (λ i. a k i ⊗ β i) g
      ∙ sum_pick K rs _ k system.rows_once m (λ l n h. ap (λ u. g l ⊗ u) (cross k l m n (Ne-symm h)) ∙ mul-zero K (g l))

  own : (k : ℕ) → In k rs → α k ⊗ E k k ≡ 𝟙
  own k m =
      sym (spread α k m)
      ∙ sum_same K cs _ _ (λ i n.
      ap (λ u. a k i ⊗ u) (ap (λ u. β i ⊗ u) (transposed_value i α ∙ weights_one K row col system i n) ∙ K.mul-one (β i)))
      ∙ columns_one k m

  pub solves : (f : ℕ → F) (k : ℕ) → In k rs → value K row col cs k (solution K row col rs cs f) ≡ f k
  solves f k m =
      spread (λ l. α l ⊗ f l) k m ∙ ap (λ u. u ⊗ E k k) (K.mul_comm (α k) (f k)) ∙ K.mul_assoc _ _ _
      ∙ ap (λ u. f k ⊗ u) (own k m) ∙ K.mul-one (f k)

module _ {K : Field} {row col : ℕ → K.F} {rs cs : List ℕ} (system : System K row col rs cs) where
  open K use {F, 𝟘, 𝟙, mul as ◌⊗◌}

  infixl 70 ◌⊗◌
  abbrev unit : (i j : ℕ) → F
  unit i j = cond (eqb j i) 𝟙 𝟘

  -- how the unknown i is read off the values
  abbrev reading : (i : ℕ) → ℕ → F
  reading i = solution K col row cs rs (unit i)

  read : (w : ℕ → F) (i : ℕ) → In i cs → sum K rs (λ k. reading i k ⊗ value K row col cs k w) ≡ w i
  read w i m =
      sym (sum_pair K cs rs (λ j k. coefficient K row col k j) w (reading i))
      ∙ sum_same K cs _ (λ j. w j ⊗ unit i j) (λ j n.
      ap (λ u. w j ⊗ u) (transposed_value system j (reading i) ∙ solves (transposed system) (unit i) j n))
      ∙ sum_pick K cs _ i system.columns_once m (λ j n h. rw (ne_eqb j i h, mul-zero))
      ∙ rw (eq-eqb i i refl, K.mul-one)

  pub unique : (w v : ℕ → F) → ((k : ℕ) → In k rs → value K row col cs k w ≡ value K row col cs k v) → (i : ℕ) → In i cs → w i ≡ v i
  unique w v h i m = sym (read w i m) ∙ sum_same K rs _ _ (λ k n. ap (λ u. reading i k ⊗ u) (h k n)) ∙ read v i m
