-- Everything that is made of the random list is additive in it.
--   value_add, value_zero            a row of a Cauchy system
--   mask_add, noise_add, column_add, share_add      of a sum of two lists
--   key_add                          the key of a sum is the sum of the keys
-- Assumes nothing.
use mathlib.Core.Path.{◌≡◌, sym, ap, ap₂, ◌∙◌}
use mathlib.Core.Bool.{true}
use mathlib.Core.List.{List, [], ◌∷◌, ◌++◌, map}
use Prim.Native.Nat.{ℕ, suc, ◌+◌, ◌*◌, ◌-◌, ◌^◌, ◌≤◌, ◌<◌}
use native.Mathlib.Nat.{zero-mul, suc-mul}
use native.Mathlib.Decide.{dec_le}
use native.Mathlib.Omega.{arith}
use lib.ListN.{length}
use borrow.Author.Tests.{le-leb, lt-leb}
use Rattle.algebra.specs.Field.{Field}
use Rattle.algebra.specs.Sums.{In}
use Rattle.algebra.specs.Cauchy.{coefficient, value}
use Rattle.algebra.proofs.Field.{mul-zero}
use Rattle.algebra.proofs.Sums.{sum_same, sum_add, sum_zero}
use Rattle.scheme.specs.Lists.{span, rows, each}
use Rattle.scheme.specs.Scheme.{Arithmetic, Plan, items, places, usable, usable_with, users_in, sets_with, list_length, mask, noise, noise_start, column, row_value, share, shares, key, key_length}
use Rattle.scheme.specs.Promise.{KeyAdd}
use Rattle.scheme.specs.Laws.{Laws}
use Rattle.scheme.proofs.Tests.{and_both}
use Rattle.scheme.proofs.Lists.{map_below_same, map_span_length, map_below_at, members_in, rows_same, span_in}
use Rattle.scheme.proofs.Sums.{el_same, sum_el, row_value_el, row_value_small}
use Rattle.scheme.proofs.Sets.{users_in_in, place_lt, mask_lt, noise_lt}
use Rattle.scheme.proofs.Keys.{each_at, each_append, shares_length}

module _ (K : Field) (row col : ℕ → Field.F K) (cs : List ℕ) (k : ℕ) where
  open K use {F, 𝟘, add as ◌⊕◌}

  infixl 65 ◌⊕◌
  pub value_add : (w v : ℕ → F) → value K row col cs k (λ i. w i ⊕ v i) ≡ value K row col cs k w ⊕ value K row col cs k v
  value_add w v = sum_same K cs _ _ (λ i h. K.mul-add _ (w i) (v i)) ∙ sum_add K cs _ _

  pub value_zero : (w : ℕ → F) → ((i : ℕ) → In i cs → w i ≡ 𝟘) → value K row col cs k w ≡ 𝟘
  value_zero w h = sum_zero K cs _ (λ i m. ap (K.mul (coefficient K row col k i)) (h i m) ∙ mul-zero K _)

-- each f of two parts
each_parts : (f : ℕ → ℕ → ℕ) (l n : ℕ) (a c b d : List ℕ) → length a ≡ l → length c ≡ l
    → each f (l + n) (a ++ b) (c ++ d) ≡ each f l a c ++ each f n b d
each_parts f l n a c b d e g = rw (← e) (each_append f n a c b d (e ∙ sym g))

-- each f of rows, list by list
rows_each : (f : ℕ → ℕ → ℕ) (m : ℕ) (s t : ℕ → List ℕ) → ((v : ℕ) → length (s v) ≡ m) → ((v : ℕ) → length (t v) ≡ m) → (l : List ℕ)
    → rows (λ v. each f m (s v) (t v)) l ≡ each f (length l * m) (rows s l) (rows t l)
rows_each f m s t hs ht [] = rw zero-mul
rows_each f m s t hs ht (v ∷ l) =
    let e : m + length l * m ≡ suc (length l) * m = omega (arith, suc-mul (length l) m) in
    ap (λ (r : List ℕ). each f m (s v) (t v) ++ r) (rows_each f m s t hs ht l)
    ∙ sym (each_parts f m (length l * m) (s v) (t v) (rows s l) (rows t l) (hs v) (ht v)) ∙ ap (λ (n : ℕ). each f n (s v ++ rows s l) (t v ++ rows t l)) e

module _ (A : Arithmetic) (p : Plan) (L : Laws A p.users p.threshold) (xs ys : List ℕ) where
  open L use {K, el, row, col}
  open K use {F, 𝟘, add as ◌⊕◌}

  infixl 65 ◌⊕◌
  abbrev pub plus : List ℕ
  plus = each A.add (list_length p) xs ys

  pub mask_add : (k i : ℕ) → 1 ≤ k → k ≤ p.users → i < places p → mask p plus k i ≡ A.add (mask p xs k i) (mask p ys k i)
  unfolding mask list_length
  mask_add k i lo hi h = each_at A.add (list_length p) xs ys ((k - 1) * places p + i) (omega (arith, mask_lt p k i lo hi h))

  pub noise_add : (v b i : ℕ) → usable p v ≡ true → b < p.blocks → i < p.collusion → noise p plus v b i ≡ A.add (noise p xs v b i) (noise p ys v b i)
  unfolding noise
  noise_add v b i u h l = each_at A.add (list_length p) xs ys (noise_start p v b + i) (noise_lt p v b i u h l)

  pub column_add : (v b j : ℕ) → usable p v ≡ true → b < p.blocks → 1 ≤ j → j ≤ p.threshold
      → el (column A p plus v b j) ≡ el (column A p xs v b j) ⊕ el (column A p ys v b j)
  unfolding column items
  column_add v b j u h lo hi =
      let at : ℕ = b * items p + (j - 1) in
      elim (dec_le j (items p)) [
        | yes l ↦ rw (le-leb j (items p) l) (sum_el A _ _ L (users_in p v) (λ k. mask p plus k at) ∙ sum_same K (users_in p v) _ _ (λ k i.
            let s = users_in_in p v k i in
            ap el (mask_add k at s.0 s.1 (place_lt p b j h lo l)) ∙ L.el_add (mask p xs k at) (mask p ys k at)) ∙ sum_add K (users_in p v) _ _
            ∙ ap₂ (λ a b. a ⊕ b) (sym (sum_el A _ _ L (users_in p v) (λ k. mask p xs k at))) (sym (sum_el A _ _ L (users_in p v) (λ k. mask p ys k at))))
        | no l ↦
            let i : ℕ = j - suc (items p) in
            let s : items p < j = omega arith in
            let r : j - suc (items p) < p.collusion = omega arith in
            rw (lt-leb j (items p) s) (ap el (noise_add v b (j - suc (items p)) u h r) ∙ L.el_add (noise p xs v b i) (noise p ys v b i))
      ]

  pub share_add : (k v b : ℕ) → 1 ≤ k → k ≤ p.users → usable p v ≡ true → b < p.blocks →
      share A p plus k v b ≡ A.add (share A p xs k v b) (share A p ys k v b)
  unfolding share
  share_add k v b lo hi u h =
      let n = p.threshold in
      let r : p.threshold ≤ p.threshold = omega arith in
      el_same A _ _ L (row_value_small A _ _ L n k (column A p plus v b)) (L.add_small _ _)
      (row_value_el A _ _ L n k (column A p plus v b) (lo, hi) r
      ∙ sum_same K (span n 1) _ _
      (λ j i. let s = span_in n 1 j i in ap (K.mul (coefficient K row col k j)) (column_add v b j u h s.0 (omega arith)))
      ∙ value_add K row col (span n 1) k (λ j. el (column A p xs v b j)) (λ j. el (column A p ys v b j))
      ∙ ap₂ (λ a b. a ⊕ b) (sym (row_value_el A _ _ L n k (column A p xs v b) (lo, hi) r)) (sym (row_value_el A _ _ L n k (column A p ys v b) (lo, hi) r))
      ∙ sym (L.el_add (row_value A n k (column A p xs v b)) (row_value A n k (column A p ys v b))))

  map_each : (g h : ℕ → ℕ) (n : ℕ) → map (λ i. A.add (g i) (h i)) (span n 0) ≡ each A.add n (map g (span n 0)) (map h (span n 0))
  map_each g h n = map_below_same _ _ n (λ i l. sym (ap₂ A.add (map_below_at g n i l) (map_below_at h n i l)))

  key_plus : (k : ℕ) → 1 ≤ k → k ≤ p.users → key A p plus k ≡ each A.add (key_length p k) (key A p xs k) (key A p ys k)
  unfolding key key_length sets_with usable_with shares
  key_plus k lo hi = ap₂ ◌++◌
      (map_below_same _ _ (places p) (λ i h. mask_add k i lo hi h) ∙ map_each (mask p xs k) (mask p ys k) (places p))
      (rows_same (shares A p plus k) (λ v. each A.add p.blocks (shares A p xs k v) (shares A p ys k v)) (sets_with p k) (λ v m.
      let u = (and_both _ _ (members_in (usable_with p k) (2 ^ p.users) 0 v m).2).0 in
      map_below_same _ _ p.blocks (λ b h. share_add k v b lo hi u h) ∙ map_each (share A p xs k v) (share A p ys k v) p.blocks)
      ∙ rows_each A.add p.blocks (shares A p xs k) (shares A p ys k) (shares_length A p xs k) (shares_length A p ys k) (sets_with p k))
      ∙ sym (each_parts A.add (places p) (length (sets_with p k) * p.blocks) (map (mask p xs k) (span (places p) 0))
      (map (mask p ys k) (span (places p) 0)) (rows (shares A p xs k) (sets_with p k)) (rows (shares A p ys k) (sets_with p k))
      (map_span_length (mask p xs k) (places p) 0) (map_span_length (mask p ys k) (places p) 0))

pub key_add : (A : Arithmetic) (p : Plan) → Laws A p.users p.threshold → KeyAdd A p
unfolding KeyAdd
key_add = key_plus
