-- Shares from the sums of products and from the noise.
--   columns_sum, columns_join        columns whose numbers are sums; the first columns and the others
--   shares_right                     what shares_from gives are the shares of the definition
-- Assumes nothing.
use mathlib.Core.Path.{◌≡◌, sym, ap, ap₂, ◌∙◌}
use mathlib.Core.List.{List}
use Prim.Native.Nat.{ℕ, suc, ◌+◌, ◌*◌, ◌-◌, ◌≤◌, ◌<◌}
use native.Mathlib.Nat.{add-zero, zero-add}
use native.Mathlib.Omega.{arith}
use lib.ListN.{get_or}
use borrow.Author.Tests.{le-leb, lt-leb}
use Rattle.algebra.specs.Sums.{sum as field-sum}
use Rattle.algebra.proofs.Sums.{sum_same as field-sum-same, sum_scale as field-sum-scale, sum_swap as field-sum-swap}
use Rattle.scheme.specs.Limits.{most_blocks}
use Rattle.scheme.specs.Lists.{span, members}
use Rattle.scheme.specs.Scheme.{Arithmetic, sum, Plan, items, places, in_set, users_in, mask, noise, noise_start, column, row_value, share, shares}
use Rattle.scheme.specs.Laws.{Laws}
use Rattle.scheme.specs.Weighed.{weighed_by, weighed}
use Rattle.scheme.specs.KeyParts.{columns_value, Coefficients, block_item, Products, sum_from, set_sum, share_from, shares_from}
use Rattle.scheme.proofs.Lists.{span_append, map_below_same, members_in}
use Rattle.scheme.proofs.Sums.{el_same, sum_el, sum_small, sum_same, sum_append, sum_shift}
use Rattle.scheme.proofs.Weighed.{weighed_as, weighed_same}
use Rattle.scheme.proofs.Making.Places.{noise_block}

module _ {A : Arithmetic} {n m : ℕ} (L : Laws A n m) where
  open L use {K, el}
  open K use {mul as ◌⊗◌}

  infixl 70 ◌⊗◌
  columns_el : (k s c : ℕ) (f : ℕ → ℕ) → el (columns_value A k s c f) ≡ field-sum K (span c 0) (λ i. el (A.coefficient k (s + i)) ⊗ el (f i))
  unfolding weighed_by
  columns_el k s c f = sum_el A n m L (span c 0) _ ∙ field-sum-same K (span c 0) _ _ (λ i h. L.el_multiply (A.coefficient k (s + i)) (f i))

  pub columns_sum : (k s c : ℕ) (l : List ℕ) (g : ℕ → ℕ → ℕ)
      → columns_value A k s c (λ i. sum A l (λ j. g j i)) ≡ sum A l (λ j. columns_value A k s c (g j))
  unfolding weighed_by
  columns_sum k s c l g = el_same A n m L (sum_small A n m L (span c 0) _) (sum_small A n m L l _)
      (columns_el k s c _ ∙ field-sum-same K (span c 0) _ _ (λ i h.
      ap (λ x. el (A.coefficient k (s + i)) ⊗ x) (sum_el A n m L l (λ j. g j i))
      ∙ sym (field-sum-scale K (el (A.coefficient k (s + i))) l (λ j. el (g j i))))
      ∙ field-sum-swap K (span c 0) l (λ i j. el (A.coefficient k (s + i)) ⊗ el (g j i))
      ∙ sym (sum_el A n m L l _ ∙ field-sum-same K l _ _ (λ j h. columns_el k s c (g j))))

  pub columns_join : (k c d : ℕ) (f : ℕ → ℕ)
      → row_value A (c + d) k f ≡ A.add (columns_value A k 1 c (λ i. f (1 + i))) (columns_value A k (1 + c) d (λ i. f (1 + c + i)))
  unfolding weighed_by row_value
  columns_join k c d f =
      let g : ℕ → ℕ = λ j. A.multiply (A.coefficient k j) (f j) in
      ap (λ (l : List ℕ). sum A l g) (span_append c d 1) ∙ sum_append A n m L (span c 1) (span d (1 + c)) g
      ∙ ap₂ A.add (sum_shift A c 1 0 g) (ap (λ (s : ℕ). sum A (span d s) g) (sym (add-zero (1 + c))) ∙ sum_shift A d (1 + c) 0 g)

-- ---- the columns of a share
module _ (A : Arithmetic) (p : Plan) (xs : List ℕ) (v b : ℕ) where
  column_sum : (i : ℕ) → i < items p → column A p xs v b (1 + i) ≡ sum A (users_in p v) (λ k. mask p xs k (b * items p + i))
  unfolding column
  column_sum i h = let d : 1 + i - 1 ≡ i = omega arith in rw (le-leb (1 + i) (items p) (omega arith), d)

  column_noise : (i : ℕ) → column A p xs v b (1 + items p + i) ≡ noise p xs v b i
  unfolding column
  column_noise i = let d : 1 + items p + i - suc (items p) ≡ i = omega arith in rw (lt-leb (1 + items p + i) (items p) (omega arith), d)

  -- columns U - T + 1 to U: the noise
  last_columns : (k : ℕ) (cs : List ℕ) → Coefficients A k (1 + items p) p.collusion cs →
      weighed A cs p.collusion (block_item xs (noise_start p v 0) p.collusion b)
      ≡ columns_value A k (1 + items p) p.collusion (λ i. column A p xs v b (1 + items p + i))
  unfolding noise
  last_columns k cs c =
      let t : ℕ = p.collusion in
      weighed_as A t c.each (λ i l.
      let e : noise_start p v 0 + (b * t + i) ≡ noise_start p v b + i = omega (arith, noise_block p v b) in
      ap (λ (n : ℕ). get_or xs n 0) e ∙ sym (column_noise i))

module _ {A : Arithmetic} {n m : ℕ} (L : Laws A n m) (p : Plan) (xs : List ℕ) (k : ℕ) (zs cs : List ℕ) (z : Products A p k xs p.users zs) where
  -- columns 1 to U - T: the sums over the set of the products of its users
  first_columns : (v b : ℕ) → b < p.blocks → set_sum A zs p.users v b ≡ columns_value A k 1 (items p) (λ i. column A p xs v b (1 + i))
  unfolding mask users_in set_sum sum_from
  first_columns v b h =
      let w : ℕ = items p in
      let f : ℕ → ℕ → ℕ = λ j. block_item xs ((j - 1) * places p) w b in
      let l : List ℕ = members (in_set v) p.users 1 in
      sum_same A l (λ j. get_or zs ((0 + (j - 1)) * most_blocks + b) 0) (λ j. columns_value A k 1 w (f j)) (λ j i.
      let s = members_in (in_set v) p.users 1 j i in
      ap (λ (x : ℕ). get_or zs (x * most_blocks + b) 0) (zero-add (j - 1)) ∙ z.each (j - 1) (omega arith) b h) ∙ sym (columns_sum L k 1 w l f)
      ∙ weighed_same A _ w (λ i s. sym (column_sum A p xs v b i s))

  module _ (more : p.collusion ≤ p.threshold) (c : Coefficients A k (1 + items p) p.collusion cs) where
    share_right : (v b : ℕ) → b < p.blocks → share_from A p zs cs xs v (noise_start p v 0) b ≡ share A p xs k v b
    unfolding share share_from items
    share_right v b h =
        let f : ℕ → ℕ = column A p xs v b in
        let w : ℕ = items p in
        let e : p.threshold ≡ w + p.collusion = omega arith in
        ap₂ A.add (first_columns v b h) (last_columns A p xs v b k cs c)
        ∙ sym (ap (λ (u : ℕ). row_value A u k f) e ∙ columns_join L k w p.collusion f)

    pub shares_right : (v from : ℕ) → from ≡ noise_start p v 0 → shares_from A p zs cs xs v from ≡ shares A p xs k v
    unfolding shares shares_from
    shares_right v from e = map_below_same (share_from A p zs cs xs v from) (share A p xs k v) p.blocks (λ b h. rw e (share_right v b h))
