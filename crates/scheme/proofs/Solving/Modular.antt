-- The solver's numbers modulo a prime, as code computes them.
--   weight_exchanged                weights of rows are weights of columns with both exchanged: their points are the same residues
--   gap_shift                       1 / (x - y) by most_threshold + x - y
--   Factoring, factoring_start, factoring_more, factoring_two, factoring_end     a loop that makes a weight: one factor more, or two
--   unknown_by                      an unknown from values that are weighed already
-- Assumes nothing.
use mathlib.Core.Path.{◌≡◌, refl, sym, ap, ap₂, ◌∙◌, subst}
use mathlib.Core.Bool.{Bool, true, false, cond}
use mathlib.Core.List.{List}
use Prim.Native.Nat.{ℕ, ◌+◌, ◌*◌, ◌-◌, ◌%◌, ◌≤◌, ◌<◌}
use native.Mathlib.Nat.{add_comm, zero-add, mul_assoc, mod-lt, mod-eq_of_lt}
use native.Mathlib.Decide.{ℕ_discrete}
use native.Mathlib.Omega.{arith}
use lib.Dec.{eqb}
use lib.ListN.{get_or}
use borrow.Author.Tests.{eq-eqb, ne_eqb}
use Rattle.algebra.specs.Field.{sub}
use Rattle.algebra.specs.Residue.{Prime, inverse}
use Rattle.algebra.specs.Cauchy.{gap}
use Rattle.algebra.proofs.Sums.{sum_same as field-sum-same}
use Rattle.algebra.proofs.Residue.{mod-mul, mods, el_path, prime_positive, residue}
use Rattle.scheme.specs.Limits.{most_users, most_threshold, most_blocks}
use Rattle.scheme.specs.Lists.{span}
use Rattle.scheme.specs.Scheme.{Arithmetic, modular}
use Rattle.scheme.specs.Laws.{Laws}
use Rattle.scheme.specs.Modular.{modular_laws}
use Rattle.scheme.specs.Weighed.{weighed_by}
use Rattle.scheme.specs.Solve.{Points, Square, value_of, cell, block, row_points, column_points, row_weight, column_weight, weighed_values, unknown_at, gap_between, gap_entry}
use Rattle.scheme.proofs.Sums.{sum_el, coefficient_el}
use Rattle.scheme.proofs.Solving.Grids.{block_at, grid_at}
use Rattle.scheme.proofs.Solving.Closed.{below, α, val_of, Weighing, weighing_start, weighing_more, weighing_end}

module _ {q : ℕ} (prime : Prime q) (large : most_users + most_threshold < q) where
  abbrev A : Arithmetic
  A = modular q

  abbrev L : Laws (modular q) most_users most_threshold
  L = modular_laws prime most_users most_threshold large

  open L use {K, el, val, row, col}
  open K use {F, 𝟙, add as ◌⊕◌, mul as ◌⊗◌, inv}

  infixl 65 ◌⊕◌
  infixl 70 ◌⊗◌
  -- ---- numbers in the field: a row and a column have their number's residue as point
  el_one : el 1 ≡ 𝟙
  unfolding modular_laws
  el_one = refl

  el_times : (a b : ℕ) → el (a * b % q) ≡ el a ⊗ el b
  unfolding modular_laws
  el_times a b = el_path (simp mods)

  el_inverse : (a : ℕ) → a < q → el (inverse q a) ≡ inv (el a)
  unfolding modular_laws
  el_inverse a h = ap (λ (n : ℕ). residue prime (inverse q n)) (sym (mod-eq_of_lt h))

  points_sum : (x y : ℕ) → el (x + y) ≡ row x ⊕ col y
  unfolding modular_laws
  points_sum x y = el_path (simp mods)

  -- ---- weights
  pub weight_exchanged : (own other : List ℕ) (n i : ℕ) → row_weight (modular q) L own other n i ≡ column_weight (modular q) L other own n i
  unfolding modular_laws row_weight column_weight
  weight_exchanged own other n i = refl

  gap_el : (x y : ℕ) → el (gap_between q x y) ≡ cond (eqb x y) 𝟙 (inv (sub K (row x) (row y)))
  unfolding gap_between modular_laws
  gap_el x y = elim (eqb x y) as (λ b. el (cond b 1 (inverse q ((modular q).subtract x y))) ≡ cond b 𝟙 (inv (sub K (row x) (row y))))
      [ true ↦ el_one | false ↦ el_inverse _ (mod-lt _ (prime_positive prime)) ∙ ap inv (L.el_subtract x y) ]

  pub gap_shift : (x y : ℕ) → 1 ≤ x → 1 ≤ y → y ≤ most_users → gap_entry q (most_threshold + x - y) ≡ gap_between q x y
  unfolding gap_entry gap_between
  gap_shift x y h l k =
      let small : y < q = omega arith in
      let same : eqb (most_threshold + x - y) most_threshold ≡ eqb x y = elim (ℕ_discrete x y) [
        | yes e ↦ eq-eqb (most_threshold + x - y) most_threshold (omega arith) ∙ sym (eq-eqb x y e)
        | no e ↦ ne_eqb (most_threshold + x - y) most_threshold (λ d. e (omega arith)) ∙ sym (ne_eqb x y e)
      ] in
      ap₂ (λ (b : Bool) (m : ℕ). cond b 1 (inverse q (m % q))) same (omega (arith, mod-eq_of_lt small))

  module _ (own other : List ℕ) (n a : ℕ) where
    -- different positions have different points
    same_test : Points most_users n own → (i : ℕ) → a < n → i < n → eqb (get_or own a 0) (get_or own i 0) ≡ eqb a i
    same_test p i h l = elim (ℕ_discrete a i) [
      | yes e ↦ eq-eqb _ _ (ap (λ (k : ℕ). get_or own k 0) e) ∙ sym (eq-eqb a i e)
      | no e ↦ ne_eqb _ _ (p.apart a i h l e) ∙ sym (ne_eqb a i e)
    ]

    factor_el : (w i : ℕ) → Points most_users n own → a < n → i < n
        → el (w * ((get_or own a 0 + get_or other i 0) * gap_between q (get_or own a 0) (get_or own i 0)) % q)
        ≡ el w ⊗ ((row_points A L own a ⊕ column_points A L other i) ⊗ gap K (row_points A L own) (column_points A L other) a i)
    factor_el w i p h l = el_times w _
        ∙ ap (λ u. el w ⊗ u)
        (L.el_multiply _ _
        ∙ ap₂ ◌⊗◌ (points_sum (get_or own a 0) (get_or other i 0))
        (gap_el (get_or own a 0) (get_or own i 0) ∙ ap (λ b. cond b 𝟙 (inv (sub K (row_points A L own a) (row_points A L own i)))) (same_test p i h l)))

    -- the weight of a row, factor by factor
    unfoldable pub Factoring : (i w : ℕ) → Type 0
    Factoring = Weighing A L (row_points A L own) (column_points A L other) n a

    pub factoring_start : Factoring 0 1
    unfolding Factoring
    factoring_start = weighing_start A L _ _ n a prime.two el_one

    pub factoring_more : (i w r : ℕ) → Points most_users n own → a < n → i < n
        → r ≡ w * ((get_or own a 0 + get_or other i 0) * gap_between q (get_or own a 0) (get_or own i 0)) % q → Factoring i w → Factoring (i + 1) r
    unfolding Factoring
    factoring_more i w r p h l e s = weighing_more A L _ _ n a i w r l (rw e (mod-lt _ (prime_positive prime))) (ap el e ∙ factor_el w i p h l) s

    -- two factors at a time
    pub factoring_two : (i w r : ℕ) → Points most_users n own → a < n → i + 1 < n
        → r ≡ w * ((get_or own a 0 + get_or other i 0) * gap_between q (get_or own a 0) (get_or own i 0)
        * ((get_or own a 0 + get_or other (i + 1) 0) * gap_between q (get_or own a 0) (get_or own (i + 1) 0))) % q → Factoring i w → Factoring (i + 2) r
    factoring_two i w r p h l e s =
        let d : i + 1 + 1 ≡ i + 2 = omega arith in
        subst (λ (k : ℕ). Factoring k r) d (factoring_more (i + 1) _ r p h l (e ∙ twice w _ _) (factoring_more i w _ p h (omega arith) refl s))
      where
        twice : (w f g : ℕ) → w * (f * g) % q ≡ w * f % q * g % q
        twice w f g = ap (λ (k : ℕ). k % q) (sym (mul_assoc w f g)) ∙ sym (mod-mul (w * f) g q)

    pub factoring_end : (i w : ℕ) → n ≤ i → Factoring i w → w ≡ row_weight A L own other n a
    unfolding Factoring row_weight
    factoring_end i w h s = weighing_end A L _ _ n a i w h s

  -- ---- an unknown from weighed values, by the points of the rows
  module _ (rs cs vs : List ℕ) (n i : ℕ) (square : Square rs cs n) (h : i < n) where
    -- a product, reduced
    el_scaled : (a b : ℕ) → el (A.add 0 (a * b)) ≡ el a ⊗ el b
    el_scaled a b = ap (λ (k : ℕ). el (k % q)) (zero-add (a * b)) ∙ el_times a b

    weighed_el : (a b : ℕ) → a < n → b < most_blocks → el (cell (weighed_values A L rs cs vs n) a b) ≡ α A L rs cs n a ⊗ el (cell vs a b)
    unfolding weighed_values row_weight
    weighed_el a b l k = ap el (grid_at _ n a b l k) ∙ el_scaled _ _ ∙ ap (λ u. u ⊗ el (cell vs a b)) (L.el_val _)

    term_el : (a b : ℕ) → a < n → b < most_blocks
        → el (A.multiply (A.coefficient (get_or cs i 0) (get_or rs a 0)) (get_or (block (weighed_values A L rs cs vs n) b) a 0))
        ≡ inv (row_points A L rs a ⊕ column_points A L cs i) ⊗ (α A L rs cs n a ⊗ el (get_or (block vs b) a 0))
    term_el a b l k =
        let few : a < most_users = omega (arith, square.few) in
        L.el_multiply _ _
        ∙ ap₂ ◌⊗◌ (ap (λ (s : ℕ). el (inverse q s)) (add_comm (get_or cs i 0) (get_or rs a 0))
        ∙ coefficient_el A _ _ L _ _ (square.rows_good.inside a l) (square.columns_good.inside i h))
        (ap el (block_at _ b a few) ∙ weighed_el a b l k ∙ ap (λ (v : ℕ). α A L rs cs n a ⊗ el v) (sym (block_at vs b a few)))

    pub unknown_by : (w b : ℕ) → b < most_blocks → w ≡ column_weight (modular q) L rs cs n i
        → (modular q).add 0 ((modular q).multiply w (value_of (modular q) (get_or cs i 0) rs (block (weighed_values (modular q) L rs cs vs n) b) n))
        ≡ unknown_at (modular q) L rs cs (block vs b) n i
    unfolding unknown_at column_weight weighed_by
    unknown_by w b k e = val_of A L _ _ (mod-lt _ (prime_positive prime))
        (el_scaled w _ ∙ ap₂ ◌⊗◌ (ap el e ∙ L.el_val _) (sum_el A _ _ L (span n 0) _
        ∙ field-sum-same K (span n 0) _ _ (λ a m. term_el a b (below n a m) k)))
