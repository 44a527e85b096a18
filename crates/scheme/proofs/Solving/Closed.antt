-- The closed solution on lists of numbers, over an arithmetic with its laws.
--   below, points_some                  the positions of n entries; fewer points, in a wider range
--   sums_low                            points in range have small sums
--   value_row                           the value of a row in the words of the scheme, where the columns are 1 to n
--   row_same                            a row of values, compared as code does it
--   Dotting, dotting_start, dotting_small, dotting_more, dotting_end     a loop that makes the values of a row for all blocks
--   α, val_of                           the weight of a row in the field; an element by its residue
--   solve_right                         the unknowns solve the system
--   unknowns_at                         an unknown of a block, in the grid of all
--   Weighing, weighing_start, weighing_more, weighing_end     a loop that makes a weight, factor by factor
-- Assumes nothing.
use mathlib.Core.Path.{◌≡◌, refl, sym, ap, ap₂, ◌∙◌}
use mathlib.Core.Bool.{true}
use mathlib.Core.List.{List, [], ◌∷◌, ◌++◌, map}
use Prim.Native.Nat.{ℕ, ◌+◌, ◌*◌, ◌-◌, ◌≤◌, ◌<◌}
use native.Mathlib.Nat.{zero-add}
use native.Mathlib.Omega.{arith}
use lib.Dec.{eqb}
use lib.ListN.{get_or, replicate}
use Rattle.algebra.specs.Sums.{In, sum as field-sum}
use Rattle.algebra.specs.Cauchy.{System, gap, weight, solution}
use Rattle.algebra.proofs.Field.{expand, one-mul}
use Rattle.algebra.proofs.Sums.{sum_same as field-sum-same}
use Rattle.algebra.proofs.Cauchy.{solves}
use Rattle.scheme.specs.Limits.{most_users, most_threshold, most_blocks, points}
use Rattle.scheme.specs.Lists.{span, all_of}
use Rattle.scheme.specs.Scheme.{Arithmetic, elements, sum, row_value}
use Rattle.scheme.specs.Laws.{Laws}
use Rattle.scheme.specs.Weighed.{weighed_by}
use Rattle.scheme.specs.Solve.{Points, Square, SumsLow, value_of, scaled_on, cell, block, row_fits, row_points, column_points, right_side, unknown_at, solution_of, unknowns_of}
use Rattle.scheme.proofs.Lists.{span_append, span_in, in_span, span_once, span_start, span_more, span_end, map_same, map_below_at, all_of_same}
use Rattle.scheme.proofs.Sums.{sum_same, sum_more, sum_shift, el_same, sum_el, sum_small, coefficient_el}
use Rattle.scheme.proofs.Keys.{elements_map}
use Rattle.scheme.proofs.Weighed.{weighed_small}
use Rattle.scheme.proofs.Padded.{filled_at}
use Rattle.scheme.proofs.Solving.Grids.{block_at, grid_at}

pub below : (n i : ℕ) → In i (span n 0) → i < n
below n i m = omega (arith, span_in n 0 i m)

pub points_some : {most more n m : ℕ} {xs : List ℕ} → Points most m xs → most ≤ more → n ≤ m → Points more n xs
points_some p h l = record {
  inside = λ i a. let x = p.inside i (omega arith) in (x.0, omega arith);
  apart = λ i k a b. p.apart i k (omega arith) (omega arith);
}

-- points in range have small sums
pub sums_low : {x most n : ℕ} {ps : List ℕ} → Points most n ps → x + most < points → SumsLow x n ps
sums_low p h = record { low = λ i l. omega (arith, p.inside i l) }

-- ---- THE VALUE OF A ROW
module _ (A : Arithmetic) where
  pub value_row : (x : ℕ) (cs vs : List ℕ) (n : ℕ) → ((i : ℕ) → i < n → get_or cs i 0 ≡ i + 1)
      → value_of A x cs vs n ≡ row_value A n x (λ j. get_or vs (j - 1) 0)
  unfolding weighed_by row_value
  value_row x cs vs n columns = sum_same A (span n 0) _ _ (λ i m.
      let e : get_or cs i 0 ≡ 1 + i = omega (arith, columns i (below n i m)) in
      let f : i ≡ 1 + i - 1 = omega arith in
      ap₂ (λ (c k : ℕ). A.multiply (A.coefficient x c) (get_or vs k 0)) e f)
      ∙ sym (sum_shift A n 1 0 (λ j. A.multiply (A.coefficient x j) (get_or vs (j - 1) 0)))

  -- the values of a row for all blocks
  abbrev values_for : (x : ℕ) → (ps g : List ℕ) → (n : ℕ) → List ℕ
  values_for x ps g n = map (λ b. value_of A x ps (block g b) n) (span most_blocks 0)

  pub row_same : (rs cs vs ws row : List ℕ) (n m a at : ℕ) → m ≤ most_blocks → row ≡ map (λ b. value_of A (get_or rs a 0) cs (block ws b) n) (span most_blocks 0)
      → at ≡ a * most_blocks → all_of (λ b. eqb (get_or row b 0) (get_or vs (at + b) 0)) (span m 0) ≡ row_fits A rs cs vs ws n m a
  unfolding row_fits
  row_same rs cs vs ws row n m a at h e d = all_of_same _ _ (span m 0) (λ b k.
      let l : b < most_blocks = omega (arith, below m b k) in
      ap₂ eqb (ap (λ (r : List ℕ). get_or r b 0) e ∙ map_below_at (λ c. value_of A (get_or rs a 0) cs (block ws c) n) most_blocks b l)
      (ap (λ (i : ℕ). get_or vs (i + b) 0) d))

  -- ---- i of n rows of a grid are added; the next starts at `at`
  pub record Dotting (x : ℕ) (ps g : List ℕ) (n i at : ℕ) (sums : List ℕ) : Type 0 where
    pub inside : i ≤ n
    pub place : at ≡ i * most_blocks
    pub done : sums ≡ map (λ b. value_of A x ps (block g b) i) (span most_blocks 0)

  module _ (x : ℕ) (ps g : List ℕ) (n : ℕ) where
    pub dotting_start : Dotting x ps g n 0 0 (replicate most_blocks 0)
    unfolding weighed_by sum
    dotting_start = record { inside = omega arith; place = refl; done = refl }

    pub dotting_end : (i at : ℕ) (sums : List ℕ) → n ≤ i → Dotting x ps g n i at sums
        → sums ≡ map (λ b. value_of A x ps (block g b) n) (span most_blocks 0)
    dotting_end i at sums h s = let e : i ≡ n = omega (arith, s.inside) in s.done ∙ ap (values_for x ps g) e

    module _ (L : Laws A most_users most_threshold) (i at : ℕ) (sums : List ℕ) (s : Dotting x ps g n i at sums) where
      pub dotting_small : elements A sums ≡ true
      dotting_small = ap (elements A) s.done ∙ elements_map A (λ b. value_of A x ps (block g b) i) (span most_blocks 0) (λ b k. weighed_small L _ i _)

      value_more : (b : ℕ) → i < most_users → value_of A x ps (block g b) (i + 1)
          ≡ A.add (value_of A x ps (block g b) i) (A.multiply (A.coefficient x (get_or ps i 0)) (cell g i b))
      unfolding weighed_by
      value_more b l = ap (λ (k : List ℕ). sum A k (λ a. A.multiply (A.coefficient x (get_or ps a 0)) (get_or (block g b) a 0)))
          (span_append i 1 0 ∙ ap (λ (k : ℕ). span i 0 ++ (k ∷ [])) (zero-add i))
          ∙ sum_more A _ _ L (span i 0) i _
          ∙ ap (λ (v : ℕ). A.add (value_of A x ps (block g b) i) (A.multiply (A.coefficient x (get_or ps i 0)) v)) (block_at g b i l)

      pub dotting_more : (new : List ℕ) (c : ℕ) → n ≤ most_users → i < n → c ≡ A.coefficient x (get_or ps i 0)
          → new ≡ map (scaled_on A sums c g at) (span most_blocks 0)
          → Dotting x ps g n (i + 1) (at + most_blocks) new
      dotting_more new c few l d e = record {
        inside = omega arith;
        place = omega (arith, s.place);
        done = e ∙ map_same _ _ (span most_blocks 0) (λ b k.
            let h = below most_blocks b k in
            ap₂ A.add (ap (λ (r : List ℕ). get_or r b 0) s.done ∙ map_below_at (λ c. value_of A x ps (block g c) i) most_blocks b h)
            (ap₂ (λ (f j : ℕ). A.multiply f (get_or g (j + b) 0)) d s.place) ∙ sym (value_more b (omega arith)));
      }

-- ---- IN THE FIELD
module _ (A : Arithmetic) (L : Laws A most_users most_threshold) where
  open L use {K, el, val, row, col}
  open K use {F, 𝟙, add as ◌⊕◌, mul as ◌⊗◌, inv}

  infixl 65 ◌⊕◌
  infixl 70 ◌⊗◌
  pub val_of : (a : ℕ) (x : F) → a < A.size → el a ≡ x → a ≡ val x
  val_of a x h e = sym (L.val_el a h) ∙ ap val e

  value_el : (x : ℕ) (ps vs : List ℕ) (n : ℕ) → (1 ≤ x) × (x ≤ most_users) → Points most_threshold n ps
      → el (value_of A x ps vs n) ≡ field-sum K (span n 0) (λ i. inv (row x ⊕ column_points A L ps i) ⊗ right_side A L vs i)
  unfolding weighed_by
  value_el x ps vs n h p = sum_el A _ _ L (span n 0) _ ∙ field-sum-same K (span n 0) _ _ (λ i m.
      L.el_multiply _ _ ∙ ap (λ u. u ⊗ el (get_or vs i 0)) (coefficient_el A _ _ L x (get_or ps i 0) h (p.inside i (below n i m))))

  module _ (rs cs : List ℕ) (n : ℕ) where
    -- a row's weight of algebra's closed solution
    abbrev pub α : (a : ℕ) → F
    α a = weight K (row_points A L rs) (column_points A L cs) (span n 0) (span n 0) a

    -- good points are a Cauchy system
    system : Square rs cs n → System K (row_points A L rs) (column_points A L cs) (span n 0) (span n 0)
    system square = record {
      square = refl;
      rows_once = span_once n 0;
      columns_once = span_once n 0;
      rows_apart = λ a k l m ne. L.rows_apart _ _ (row_in a l) (row_in k m) (square.rows_good.apart a k (below n a l) (below n k m) ne);
      columns_apart = λ i k l m ne. L.columns_apart _ _ (column_in i l) (column_in k m) (square.columns_good.apart i k (below n i l) (below n k m) ne);
      meet = λ a i l m. L.meet _ _ (row_in a l) (column_in i m);
    }
      where
        row_in : (a : ℕ) → In a (span n 0) → (1 ≤ get_or rs a 0) × (get_or rs a 0 ≤ most_users)
        row_in a m = square.rows_good.inside a (below n a m)

        column_in : (i : ℕ) → In i (span n 0) → (1 ≤ get_or cs i 0) × (get_or cs i 0 ≤ most_threshold)
        column_in i m = square.columns_good.inside i (below n i m)

    module _ (vs : List ℕ) where
      solution_el : (i : ℕ) → i < n
          → right_side A L (solution_of A L rs cs vs n) i ≡ solution K (row_points A L rs) (column_points A L cs) (span n 0) (span n 0) (right_side A L vs) i
      unfolding solution_of unknown_at
      solution_el i h = ap el (filled_at most_users (unknown_at A L rs cs vs n) n i h) ∙ L.el_val _

      pub solve_right : Square rs cs n → (a : ℕ) → a < n → get_or vs a 0 < A.size
          → value_of A (get_or rs a 0) cs (solution_of A L rs cs vs n) n ≡ get_or vs a 0
      unfolding weighed_by
      solve_right square a h small = el_same A _ _ L (sum_small A _ _ L (span n 0) _) small
          (value_el (get_or rs a 0) cs (solution_of A L rs cs vs n) n (square.rows_good.inside a h) square.columns_good
          ∙ field-sum-same K (span n 0) _ _ (λ i m. ap (λ u. inv (row_points A L rs a ⊕ column_points A L cs i) ⊗ u) (solution_el i (below n i m)))
          ∙ solves (system square) (right_side A L vs) a (in_span n 0 a (omega arith) (omega arith)))

      pub unknowns_at : (k i b : ℕ) → i < k → b < most_blocks → cell (unknowns_of A L rs cs vs n k) i b ≡ unknown_at A L rs cs (block vs b) n i
      unfolding unknowns_of
      unknowns_at k i b h l = grid_at (λ a b. unknown_at A L rs cs (block vs b) n a) k i b h l

  -- ---- A WEIGHT, FACTOR BY FACTOR
  module _ (x y : ℕ → F) (n a : ℕ) where
    -- the weight over the positions of a list
    abbrev over : List ℕ → F
    over l = weight K x y l l a

    pub record Weighing (i w : ℕ) : Type 0 where
      pub inside : i ≤ n
      pub small : w < A.size
      pub rest : el w ⊗ over (span (n - i) i) ≡ over (span n 0)

    pub weighing_start : 1 < A.size → el 1 ≡ 𝟙 → Weighing 0 1
    weighing_start h e = record { inside = omega arith; small = h; rest = rw (e, one-mul, span_start n) }

    pub weighing_more : (i w r : ℕ) → i < n → r < A.size → el r ≡ el w ⊗ ((x a ⊕ y i) ⊗ gap K x y a i) → Weighing i w → Weighing (i + 1) r
    weighing_more i w r l h e s = record {
      inside = omega arith;
      small = h;
      rest = ap (λ u. u ⊗ over (span (n - (i + 1)) (i + 1))) e ∙ regroup _ _ _ _ _ ∙ ap (λ l. el w ⊗ over l) (sym (span_more n i l)) ∙ s.rest;
    }
      where
        regroup : (x s g u v : F) → x ⊗ (s ⊗ g) ⊗ (u ⊗ v) ≡ x ⊗ (s ⊗ u ⊗ (g ⊗ v))
        regroup x s g u v = simp expand

    pub weighing_end : (i w : ℕ) → n ≤ i → Weighing i w → w ≡ val (weight K x y (span n 0) (span n 0) a)
    weighing_end i w h s = val_of w _ s.small
        (sym (K.mul-one _ ∙ K.mul-one _) ∙ K.mul_assoc _ _ _ ∙ ap (λ l. el w ⊗ over l) (sym (span_end n i h)) ∙ s.rest)
