-- A list in the first of `size` places and 0 behind it, and lists taken place by place.
--   padded_at, padded_take, padded_length, padded_behind    an entry; the list again; the length; behind the list
--   padded_more                                             one entry more
--   filled_at, filled_take, filled_behind, filled_length    n entries by a rule: one of them; all of them; behind them; the length
--   filled_more, filled_sets, filled_zeros, filled_set      one more; several from another rule; several that are 0; one by another rule
--   Filling, filling_start, filling_more, filling_end       a loop that writes n entries in order
--   Setting, setting_start, setting_more, setting_end       a loop that writes n numbers into a list, from a place on
--   map_at, sum_by_place                                    a map over a list, and a sum, by the places of its padded form
-- Assumes nothing.
use mathlib.Core.Path.{◌≡◌, refl, sym, ap, ap₂, ◌∙◌}
use mathlib.Core.Logic.{◌≢◌}
use mathlib.Core.List.{List, [], ◌∷◌, ◌++◌, map, map-append, append_assoc}
use Prim.Native.Nat.{ℕ, zero, suc, ◌+◌, ◌-◌, ◌≤◌, ◌<◌}
use native.Mathlib.Nat.{add-zero, zero-add}
use native.Mathlib.Numerals.{add-one}
use native.Mathlib.Decide.{dec_lt, ℕ_discrete}
use native.Mathlib.Omega.{arith}
use lib.ListN.{length, get_or, take, set, replicate, length-set, length-append, length-replicate, get_or-append}
use lib.Seq.{sets, get_or-set_same, get_or-set_other, get_or-append-add, set-append_seam, take-append_seam, ext_get_or}
use Rattle.scheme.specs.Lists.{span, padded, filled}
use Rattle.scheme.specs.Scheme.{Arithmetic, sum}
use Rattle.scheme.proofs.Lists.{span_append, span_in, map_span_length, map_below_at, sets_more, zeros_at}
use Rattle.scheme.proofs.Sums.{sum_same}
use Rattle.scheme.proofs.Keys.{whole_list}

module _ (size : ℕ) (l : List ℕ) where
  pub padded_at : (i : ℕ) → i < length l → get_or (padded size l) i 0 ≡ get_or l i 0
  unfolding padded
  padded_at i h = get_or-append l _ 0 i h

  pub padded_take : take (length l) (padded size l) ≡ l
  unfolding padded
  padded_take = take-append_seam l _

  pub padded_length : length l ≤ size → length (padded size l) ≡ size
  unfolding padded
  padded_length h = omega (arith, length-append l (replicate (size - length l) 0), length-replicate {A = ℕ} (size - length l) 0)

  pub padded_behind : (i : ℕ) → length l ≤ i → get_or (padded size l) i 0 ≡ 0
  unfolding padded
  padded_behind i h =
      let e : i ≡ length l + (i - length l) = omega arith in
      ap (λ (k : ℕ). get_or (l ++ replicate (size - length l) 0) k 0) e
      ∙ get_or-append-add l (replicate (size - length l) 0) (i - length l) 0 ∙ zeros_at (size - length l) (i - length l)

  pub padded_more : (x i : ℕ) → length l ≡ i → i < size → set (padded size l) i x ≡ padded size (l ++ (x ∷ []))
  unfolding padded
  padded_more x i e h =
      let d : size - length l ≡ suc (size - suc i) = omega arith in
      let r : size - length (l ++ (x ∷ [])) ≡ size - suc i = omega (arith, length-append l (x ∷ [])) in
      let z : List ℕ = replicate (size - suc (length l)) 0 in
      rw (d, r, ← e) (set-append_seam l 0 z x ∙ sym (append_assoc l (x ∷ []) z))

-- ---- the first n entries by a rule
map_span_more : (f : ℕ → ℕ) (n : ℕ) → map f (span (n + 1) 0) ≡ map f (span n 0) ++ (f n ∷ [])
map_span_more f n = ap (map f) (span_append n 1 0) ∙ map-append f (span n 0) (span 1 (0 + n))
    ∙ ap (λ (i : ℕ). map f (span n 0) ++ (f i ∷ [])) (zero-add n)

module _ (size : ℕ) (f : ℕ → ℕ) where
  pub filled_at : (n i : ℕ) → i < n → get_or (filled size n f) i 0 ≡ f i
  unfolding filled
  filled_at n i h = padded_at size (map f (span n 0)) i (omega (arith, map_span_length f n 0)) ∙ map_below_at f n i h

  pub filled_take : (n : ℕ) → take n (filled size n f) ≡ map f (span n 0)
  unfolding filled
  filled_take n = ap (λ (m : ℕ). take m (filled size n f)) (sym (map_span_length f n 0)) ∙ padded_take size (map f (span n 0))

  pub filled_behind : (n i : ℕ) → n ≤ i → get_or (filled size n f) i 0 ≡ 0
  unfolding filled
  filled_behind n i h = padded_behind size (map f (span n 0)) i (omega (arith, map_span_length f n 0))

  pub filled_length : (n : ℕ) → n ≤ size → length (filled size n f) ≡ size
  unfolding filled
  filled_length n h = padded_length size (map f (span n 0)) (omega (arith, map_span_length f n 0))

  pub filled_more : (n : ℕ) → n < size → set (filled size n f) n (f n) ≡ filled size (n + 1) f
  unfolding filled
  filled_more n h = padded_more size (map f (span n 0)) (f n) n (map_span_length f n 0) h ∙ ap (padded size) (sym (map_span_more f n))

  -- several more behind the first `at`, from another rule
  pub filled_sets : (n at j : ℕ) (h : ℕ → ℕ) → at + n ≤ size → ((i : ℕ) → i < n → h (j + i) ≡ f (at + i))
      → sets (filled size at f) at (map h (span n j)) ≡ filled size (at + n) f
  filled_sets zero at j h l e = rw (add-zero at)
  filled_sets (suc n) at j h l e =
      let first : h j ≡ f at = ap h (sym (add-zero j)) ∙ e 0 (omega arith) ∙ ap f (add-zero at) in
      let d : suc at + n ≡ at + suc n = omega arith in
      ap (λ (o : List ℕ). sets o (suc at) (map h (span n (suc j))))
      (ap (λ (x : ℕ). set (filled size at f) at x) first ∙ filled_more at (omega arith) ∙ ap (λ (k : ℕ). filled size k f) (add-one at))
      ∙ filled_sets n (suc at) (suc j) h (omega arith) (λ i m.
      let a : suc j + i ≡ j + suc i = omega arith in
      let b : at + suc i ≡ suc at + i = omega arith in
      ap h a ∙ e (suc i) (omega arith) ∙ ap f b) ∙ ap (λ (k : ℕ). filled size k f) d

  -- several more that are 0
  pub filled_zeros : (n m : ℕ) → n ≤ m → m ≤ size → ((i : ℕ) → n ≤ i → i < m → f i ≡ 0) → filled size n f ≡ filled size m f
  filled_zeros n m h l z = ext_get_or 0 _ _ (filled_length n (omega arith) ∙ sym (filled_length m l)) (λ i k.
      elim (dec_lt i n) [
        | yes a ↦ filled_at n i a ∙ sym (filled_at m i (omega arith))
        | no a ↦ filled_behind n i (omega arith)
            ∙ elim (dec_lt i m) [ yes b ↦ sym (filled_at m i b ∙ z i (omega arith) b) | no b ↦ sym (filled_behind m i (omega arith)) ]
      ])

-- one of n entries by another rule
pub filled_set : (size n : ℕ) (f g : ℕ → ℕ) (at : ℕ) → n ≤ size → at < n → ((i : ℕ) → i < n → i ≢ at → f i ≡ g i)
    → set (filled size n f) at (g at) ≡ filled size n g
filled_set size n f g at few h e =
    let old : List ℕ = filled size n f in
    let long : length old ≡ size = filled_length size f n few in
    ext_get_or 0 _ _ (length-set old at (g at) ∙ long ∙ sym (filled_length size g n few)) (λ i l.
    elim (ℕ_discrete i at) [
      | yes d ↦ ap (λ (k : ℕ). get_or (set old at (g at)) k 0) d ∙ get_or-set_same old at (g at) 0 (omega (arith, long))
          ∙ sym (ap (λ (k : ℕ). get_or (filled size n g) k 0) d ∙ filled_at size g n at h)
      | no d ↦ get_or-set_other old at i (g at) 0 d ∙ elim (dec_lt i n) [
        | yes k ↦ filled_at size f n i k ∙ e i k d ∙ sym (filled_at size g n i k)
        | no k ↦ filled_behind size f n i (omega arith) ∙ sym (filled_behind size g n i (omega arith))
      ]
    ])

-- ---- i of n entries are written
pub record Filling (size : ℕ) (f : ℕ → ℕ) (n i : ℕ) (out : List ℕ) : Type 0 where
  pub inside : i ≤ n
  pub done : out ≡ filled size i f

module _ (size : ℕ) (f : ℕ → ℕ) (n : ℕ) where
  pub filling_start : Filling size f n 0 (replicate size 0)
  unfolding filled padded
  filling_start = let e : size ≡ size - 0 = omega arith in record { inside = omega arith; done = ap (λ (k : ℕ). replicate k 0) e }

  pub filling_more : (i x : ℕ) (out : List ℕ) → n ≤ size → i < n → x ≡ f i → Filling size f n i out → Filling size f n (i + 1) (set out i x)
  filling_more i x out h l e s =
      record { inside = omega arith; done = ap₂ (λ (o : List ℕ) (y : ℕ). set o i y) s.done e ∙ filled_more size f i (omega arith) }

  pub filling_end : (i : ℕ) (out : List ℕ) → n ≤ i → Filling size f n i out → out ≡ filled size n f
  filling_end i out h s = let e : i ≡ n = omega arith in s.done ∙ ap (λ (k : ℕ). filled size k f) e

-- ---- b of n numbers are written from `at` on
pub record Setting (f : ℕ → ℕ) (n at : ℕ) (old : List ℕ) (b : ℕ) (new : List ℕ) : Type 0 where
  pub inside : b ≤ n
  pub done : new ≡ sets old at (map f (span b 0))

module _ (f : ℕ → ℕ) (n at : ℕ) (old : List ℕ) where
  pub setting_start : Setting f n at old 0 old
  setting_start = record { inside = omega arith; done = refl }

  pub setting_more : (b x : ℕ) (new : List ℕ) → b < n → x ≡ f b → Setting f n at old b new → Setting f n at old (b + 1) (set new (at + b) x)
  setting_more b x new h e s =
      record { inside = omega arith; done = ap₂ (λ (o : List ℕ) (y : ℕ). set o (at + b) y) s.done e ∙ sets_more old at b f }

  pub setting_end : (b : ℕ) (new : List ℕ) → n ≤ b → Setting f n at old b new → new ≡ sets old at (map f (span n 0))
  setting_end b new h s = let e : b ≡ n = omega arith in s.done ∙ ap (λ (k : ℕ). sets old at (map f (span k 0))) e

-- ---- lists by their places
pub map_at : (f : ℕ → ℕ) (l : List ℕ) (a : ℕ) → a < length l → get_or (map f l) a 0 ≡ f (get_or l a 0)
map_at f [] a h = absurd (omega arith)
map_at f (x ∷ l) zero h = refl
map_at f (x ∷ l) (suc a) h = map_at f l a (omega arith)

module _ (A : Arithmetic) (f : ℕ → ℕ) where
  sum_map : (g : ℕ → ℕ) (l : List ℕ) → sum A (map g l) f ≡ sum A l (λ a. f (g a))
  unfolding sum
  sum_map g [] = refl
  sum_map g (x ∷ l) = ap (A.add (f (g x))) (sum_map g l)

  pub sum_by_place : (size : ℕ) (l : List ℕ) → sum A l f ≡ sum A (span (length l) 0) (λ a. f (get_or (padded size l) a 0))
  sum_by_place size l = ap (λ (r : List ℕ). sum A r f) (sym (whole_list l)) ∙ sum_map (λ a. get_or l a 0) (span (length l) 0)
      ∙ sum_same A (span (length l) 0) _ _ (λ a m. ap f (sym (padded_at size l a (omega (arith, span_in (length l) 0 a m)))))
