-- What the translation does: the masks move as said, the columns of a set's block by `shift`, and no colluder's share moves.
--   kept_whole, kept_items       how many columns are solved
--   shift_unsolved, shift_hidden, shift_zero     the columns
--   delta_mask, delta_column     the masks and the columns of the translation
--   delta_share                  a share that a row does not see is 0
-- Assumes nothing.
use mathlib.Core.Path.{◌≡◌, refl, sym, ap, ap₂, ◌∙◌}
use mathlib.Core.Bool.{true, ◌&&◌}
use mathlib.Core.List.{List}
use Prim.Native.Nat.{ℕ, suc, ◌+◌, ◌*◌, ◌-◌, ◌^◌, ◌≤◌, ◌<◌}
use native.Mathlib.Decide.{dec_le}
use native.Mathlib.Omega.{arith}
use lib.ListN.{length, get_or}
use borrow.Author.Tests.{le-leb, lt-leb, lt-ltb, le-ltb}
use Rattle.algebra.specs.Field.{Field}
use Rattle.algebra.specs.Sums.{In, sum as field-sum}
use Rattle.algebra.specs.Cauchy.{coefficient, value, System, weight, solution}
use Rattle.algebra.proofs.Field.{zero-add, mul-zero}
use Rattle.algebra.proofs.Sums.{sum_same, sum_append, sum_zero}
use Rattle.algebra.proofs.Cauchy.{solves}
use Rattle.scheme.specs.Lists.{span, rank}
use Rattle.scheme.specs.Scheme.{Arithmetic, Plan, items, places, in_set, ones, usable, users_in, usable_sets, list_length, mask, noise, noise_start, column, share}
use Rattle.scheme.specs.Laws.{Laws}
use Rattle.scheme.specs.Delta.{colluders_in, kept, unsolved, shift, delta, translation}
use Rattle.scheme.proofs.Lists.{span_append, span_in, map_below_at, members_once, rank_at, high, low}
use Rattle.scheme.proofs.Sums.{el_same, zero_small, sum_el, row_value_el, row_value_small}
use Rattle.scheme.proofs.Sets.{users_in_in, usable_below, colluders_few, colluders_in_in, place_lt, mask_lt, noise_lt}
use Rattle.scheme.proofs.Laws.{system_of}
use Rattle.scheme.proofs.Privacy.Add.{value_zero}

module _ (p : Plan) (c : ℕ) (more : p.collusion ≤ p.threshold) (few : ones p.users c ≤ p.collusion) (w : ℕ) where
  pub kept_whole : kept p c w + length (colluders_in p c w) ≡ p.threshold
  unfolding kept
  kept_whole = omega (arith, colluders_few p c w few)

  pub kept_items : items p ≤ kept p c w
  unfolding kept items
  kept_items = omega (arith, colluders_few p c w few)

-- the solution of a system whose right-hand sides are all zero
solution_zero : (K : Field) (row col : ℕ → K.F) (rs cs : List ℕ) (f : ℕ → K.F) → ((k : ℕ) → In k rs → f k ≡ K.𝟘) → (i : ℕ) →
    solution K row col rs cs f i ≡ K.𝟘
solution_zero K row col rs cs f h i = ap (K.mul (weight K col row cs rs i))
    (sum_zero K rs _ (λ k m. ap (λ x. K.mul (coefficient K row col k i) (K.mul (weight K row col rs cs k) x)) (h k m)
    ∙ ap (K.mul (coefficient K row col k i)) (mul-zero K _) ∙ mul-zero K _)) ∙ mul-zero K _

module _ (A : Arithmetic) (p : Plan) (L : Laws A p.users p.threshold) (c : ℕ) (d : (k place : ℕ) → L.K.F) (e : (set block item : ℕ) → L.K.F)
    (more : p.collusion ≤ p.threshold) (few : ones p.users c ≤ p.collusion) where
  open L use {K, el, val, row, col}
  open K use {F, 𝟘, add as ◌⊕◌, neg}

  infixl 65 ◌⊕◌
  -- ---- the columns of a set's block
  module _ (w b : ℕ) where
    abbrev n : ℕ
    n = kept p c w

    abbrev cs : List ℕ
    cs = colluders_in p c w

    abbrev solved : List ℕ
    solved = span (length cs) (suc n)

    abbrev rest : ℕ → F
    rest k = neg (value K row col (span n 1) k (unsolved A p L c d e w b))

    system : System K row col cs solved
    unfolding colluders_in
    system = system_of L (λ k. k) cs (length cs) (suc n) refl (members_once (λ k. in_set c k && in_set w k) p.users 1)
        (colluders_in_in p c w) (λ i k h l ne. ne) (omega arith) (omega (arith, kept_whole p c more few w))

    pub shift_unsolved : (j : ℕ) → j ≤ kept p c w → shift A p L c d e w b j ≡ unsolved A p L c d e w b j
    unfolding shift
    shift_unsolved j h = rw (le-leb j (kept p c w) h)

    shift_solved : (j : ℕ) → kept p c w < j → shift A p L c d e w b j ≡ solution K row col cs solved rest j
    unfolding shift
    shift_solved j h = rw (lt-leb j (kept p c w) h)

    -- a colluder in the set sees nothing of the columns' move
    pub shift_hidden : (k : ℕ) → In k (colluders_in p c w) → value K row col (span p.threshold 1) k (shift A p L c d e w b) ≡ 𝟘
    shift_hidden k m =
        let one : 1 + kept p c w ≡ suc (kept p c w) = omega arith in
        ap (λ (l : List ℕ). value K row col l k (shift A p L c d e w b))
        (ap (λ (i : ℕ). span i 1) (sym (kept_whole p c more few w)) ∙ span_append n (length cs) 1)
        ∙ sum_append K (span n 1) (span (length cs) (1 + n)) _
        ∙ ap₂ (λ x y. x ⊕ y)
        (sum_same K (span n 1) _ _ (λ j h. ap (K.mul (coefficient K row col k j)) (shift_unsolved j (omega (arith, (span_in n 1 j h).1)))))
        (ap (λ (i : ℕ). value K row col (span (length cs) i) k (shift A p L c d e w b)) one
        ∙ sum_same K solved _ _ (λ j h. ap (K.mul (coefficient K row col k j)) (shift_solved j (omega (arith, (span_in (length cs) (suc n) j h).0))))
        ∙ solves system rest k m) ∙ K.add_neg _

    -- where no column that is not solved moves, none does
    pub shift_zero : ((j : ℕ) → 1 ≤ j → unsolved A p L c d e w b j ≡ 𝟘) → (j : ℕ) → 1 ≤ j → shift A p L c d e w b j ≡ 𝟘
    shift_zero z j lo = elim (dec_le j (kept p c w)) [
      | yes h ↦ shift_unsolved j h ∙ z j lo
      | no h ↦ shift_solved j (omega arith) ∙ solution_zero K row col cs solved rest (λ k m.
          ap neg (value_zero K row col (span n 1) k (unsolved A p L c d e w b) (λ i l. z i (span_in n 1 i l).0)) ∙ sym (zero-add K (neg 𝟘)) ∙ K.add_neg 𝟘) j
    ]

  -- ---- the translation at a mask, at a noise element and in a column
  abbrev Δ : List ℕ
  Δ = translation A p L c d e

  at : (i : ℕ) → i < list_length p → el (get_or Δ i 0) ≡ delta A p L c d e i
  unfolding translation
  at i h = ap el (map_below_at (λ n. val (delta A p L c d e n)) (list_length p) i h) ∙ L.el_val _

  delta_low : (k i : ℕ) → 1 ≤ k → k ≤ p.users → i < places p → delta A p L c d e ((k - 1) * places p + i) ≡ d k i
  unfolding delta
  delta_low k i lo hi h =
      let s : suc (k - 1) ≡ k = omega arith in
      rw (lt-ltb _ _ (mask_lt p k i lo hi h), high (k - 1) i (places p) h, low (k - 1) i (places p) h, s)

  delta_high : (v b i : ℕ) → usable p v ≡ true → b < p.blocks → i < p.collusion →
      delta A p L c d e (noise_start p v b + i) ≡ shift A p L c d e v b (suc (items p) + i)
  unfolding delta noise_start usable_sets
  delta_high v b i u h l =
      let r : ℕ = rank (usable p) v in
      let t : p.users * places p + (r * p.blocks + b) * p.collusion + i - p.users * places p ≡ (r * p.blocks + b) * p.collusion + i = omega arith in
      let f : p.users * places p ≤ p.users * places p + (r * p.blocks + b) * p.collusion + i = omega arith in
      rw (
        le-ltb _ _ f,
        t,
        high (r * p.blocks + b) i p.collusion l,
        low (r * p.blocks + b) i p.collusion l,
        high r b p.blocks h,
        low r b p.blocks h,
        rank_at (usable p) (2 ^ p.users) v (usable_below p v u) u,
      )

  pub delta_mask : (k i : ℕ) → 1 ≤ k → k ≤ p.users → i < places p → el (mask p Δ k i) ≡ d k i
  unfolding mask list_length
  delta_mask k i lo hi h = at ((k - 1) * places p + i) (omega (arith, mask_lt p k i lo hi h)) ∙ delta_low k i lo hi h

  pub delta_column : (v b j : ℕ) → usable p v ≡ true → b < p.blocks → 1 ≤ j → j ≤ p.threshold → el (column A p Δ v b j) ≡ shift A p L c d e v b j
  unfolding column items unsolved noise
  delta_column v b j u h lo hi =
      let place : ℕ = b * items p + (j - 1) in
      elim (dec_le j (items p)) [
        | yes l ↦
            let g : unsolved A p L c d e v b j ≡ field-sum K (users_in p v) (λ k. d k place) = rw (le-leb j (items p) l) in
            rw (le-leb j (items p) l)
            (sum_el A _ _ L (users_in p v) (λ k. mask p Δ k place)
            ∙ sum_same K (users_in p v) _ _ (λ k m. let s = users_in_in p v k m in delta_mask k place s.0 s.1 (place_lt p b j h lo l))
            ∙ sym (shift_unsolved v b j (omega (arith, kept_items p c more few v)) ∙ g))
        | no l ↦
            let s : items p < j = omega arith in
            let r : j - suc (items p) < p.collusion = omega arith in
            let f : suc (items p) + (j - suc (items p)) ≡ j = omega arith in
            rw (lt-leb j (items p) s) (at _ (noise_lt p v b _ u h r) ∙ delta_high v b (j - suc (items p)) u h r ∙ ap (shift A p L c d e v b) f)
      ]

  -- a share whose row sees nothing of the columns' move
  pub delta_share : (k v b : ℕ) → 1 ≤ k → k ≤ p.users → usable p v ≡ true → b < p.blocks
      → value K row col (span p.threshold 1) k (shift A p L c d e v b) ≡ 𝟘 → share A p Δ k v b ≡ 0
  unfolding share
  delta_share k v b lo hi u h z =
      let m = p.threshold in
      el_same A _ _ L (row_value_small A _ _ L m k (column A p Δ v b)) (zero_small A _ _ L)
      (row_value_el A _ _ L m k (column A p Δ v b) (lo, hi) (omega arith)
      ∙ sum_same K (span m 1) _ _
      (λ j i. let s = span_in m 1 j i in ap (K.mul (coefficient K row col k j)) (delta_column v b j u h s.0 (omega arith)))
      ∙ z ∙ sym L.el_zero)
