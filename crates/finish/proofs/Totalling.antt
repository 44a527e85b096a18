-- The totals of all items, one turn at a time.
--   some_start, some_end   the totals of no turn are zeros; of all turns, those of all places
--   Totalling              of an item the totals of b blocks are written
--   totalling_start, totalling_room, totalling_more, totalling_end     the loop
--   totals_same            what is written then are the totals of the survivors
-- Assumes nothing.
use Rattle.std.proofs.Common.{◌≡◌, sym, ap, ap₂, ◌∙◌, ◌≢◌, Bool, cond, List, ℕ, ◌+◌, ◌*◌, ◌%◌, ◌≤◌, ◌<◌, ◌/◌, mul-zero, mul-le-mul_right, div-lt_iff_lt-mul, mod-lt, zero-add, arith, ltb, length, get_or, set, replicate, lt-ltb, le-ltb}
use native.Mathlib.Nat.{lt_of_mul-lt-mul_left, mod-add-mod, mod-add-div'}
use native.Mathlib.Decide.{dec_lt}
use Rattle.scheme.specs.Limits.{most_users, most_places}
use Rattle.scheme.specs.Lists.{span, padded, filled}
use Rattle.scheme.specs.Scheme.{Arithmetic, modular, sum, Plan, items, places, users_in}
use Rattle.scheme.specs.Totals.{total_of, totals}
use Rattle.scheme.specs.Solve.{cell}
use Rattle.scheme.proofs.Lists.{span_in, map_same, map_below_same, high as quotient, low as rest, digits_lt}
use Rattle.scheme.proofs.Padded.{filled_set, filled_zeros, filling_start, sum_by_place}
use Rattle.service.specs.View.{held_in}
use Rattle.finish.specs.Finish.{rows_of}
use Rattle.finish.specs.Parts.{first_sum, FirstSums, place_total, turn_of, some_totals}

-- a test that only t passes newly
next_same : (x t : ℕ) → x ≢ t → ltb x t ≡ ltb x (t + 1)
next_same x t d = elim (dec_lt x t) [
  | yes h ↦ lt-ltb x t h ∙ sym (lt-ltb x (t + 1) (omega arith))
  | no h ↦ le-ltb x t (omega arith) ∙ sym (le-ltb x (t + 1) (omega arith))
]

-- b blocks of item j are written
pub record Totalling (A : Arithmetic) (xs ws : List ℕ) (n m j b : ℕ) (out : List ℕ) : Type 0 where
  pub high : b ≤ m
  pub written : out ≡ some_totals A xs ws n m (j * m + b)

-- sums, unknowns, U - T and M
module _ (A : Arithmetic) (xs ws : List ℕ) (n m : ℕ) (few : m * n ≤ most_places) where
  abbrev rule : (t i : ℕ) → ℕ
  rule t i = cond (ltb (turn_of n m i) t) (place_total A xs ws n i) 0

  pub some_start : replicate most_places 0 ≡ some_totals A xs ws n m 0
  unfolding some_totals
  some_start = (filling_start most_places (rule 0) 0).done ∙ filled_zeros most_places (rule 0) 0 (m * n) (omega arith) few (λ i h l.
      ap (λ (t : Bool). cond t (place_total A xs ws n i) 0) (le-ltb (turn_of n m i) 0 (omega arith)))

  -- a place below m * n is in one of m blocks
  block_low : (i : ℕ) → i < m * n → 0 < n → i / n < m
  block_low i l some = (div-lt_iff_lt-mul {k = n} {x = i} {y = m} some).1 l

  module _ (j : ℕ) (inside : j < n) where
    pub totalling_start : (out : List ℕ) → out ≡ some_totals A xs ws n m (j * m) → Totalling A xs ws n m j 0 out
    totalling_start out e = record { high = omega arith; written = e ∙ ap (some_totals A xs ws n m) (omega arith) }

    module _ (b : ℕ) (out : List ℕ) (s : Totalling A xs ws n m j b out) where
      pub totalling_room : b < m → b * n + j < m * n
      totalling_room l = omega (arith, digits_lt b m j n l inside)

      -- the turn is no other place's
      alone : b < m → (i : ℕ) → i < m * n → i ≢ b * n + j → turn_of n m i ≢ j * m + b
      alone l i k d e =
          let c = block_low i k (omega arith) in
          let x : i % n ≡ j = sym (quotient (i % n) (i / n) m c) ∙ ap (λ (t : ℕ). t / m) e ∙ quotient j b m l in
          let y : i / n ≡ b = sym (rest (i % n) (i / n) m c) ∙ ap (λ (t : ℕ). t % m) e ∙ rest j b m l in
          d (omega (arith, mod-add-div' i n, ap (λ (t : ℕ). t * n) y))

      pub totalling_more : (x : ℕ) → b < m → x ≡ A.subtract (get_or xs (b * n + j) 0) (cell ws j b) → Totalling A xs ws n m j (b + 1) (set out (b * n + j) x)
      unfolding some_totals place_total
      totalling_more x l e =
          let at : ℕ = b * n + j in
          let hi : at / n ≡ b = quotient b j n inside in
          let lo : at % n ≡ j = rest b j n inside in
          let t : ℕ = j * m + b in
          let here : turn_of n m at ≡ t = ap₂ (λ (i c : ℕ). i * m + c) lo hi in
          let value : x ≡ rule (t + 1) at = e ∙ ap₂ (λ (i c : ℕ). A.subtract (get_or xs at 0) (cell ws i c)) (sym lo) (sym hi)
          ∙ ap (λ (d : Bool). cond d (place_total A xs ws n at) 0) (sym (lt-ltb (turn_of n m at) (t + 1) (omega (arith, here)))) in
          record {
            high = omega arith;
            written = ap₂ (λ (o : List ℕ) (y : ℕ). set o at y) s.written value
                ∙ filled_set most_places (m * n) (rule t) (rule (t + 1)) at few (totalling_room l) (λ i k d.
                ap (λ (d : Bool). cond d (place_total A xs ws n i) 0) (next_same (turn_of n m i) t (alone l i k d)))
                ∙ ap (some_totals A xs ws n m) (omega arith);
          }

      pub totalling_end : m ≤ b → out ≡ some_totals A xs ws n m (j * m + m)
      totalling_end l = s.written ∙ ap (some_totals A xs ws n m) (omega (arith, s.high))

  pub some_end : (j : ℕ) → n ≤ j → some_totals A xs ws n m (j * m) ≡ filled most_places (m * n) (place_total A xs ws n)
  unfolding some_totals filled
  some_end j h = ap (padded most_places) (map_below_same _ _ (m * n) (λ i l.
      let some : 0 < n = lt_of_mul-lt-mul_left m (omega (arith, mul-zero m)) in
      let low : turn_of n m i < n * m = digits_lt (i % n) n (i / n) m (mod-lt i some) (block_low i l some) in
      ap (λ (t : Bool). cond t (place_total A xs ws n i) 0) (lt-ltb (turn_of n m i) (j * m) (omega (arith, low, mul-le-mul_right {m = n} {n = j} m h)))))

pub totals_same : (q : ℕ) (p : Plan) (v : ℕ) (xs rs sums ws : List ℕ) (k : ℕ) (choice : (block : ℕ) → List ℕ)
    → rs ≡ rows_of p v → k ≡ length (users_in p v) → FirstSums q xs rs k 0 (places p) sums
    → ((i b : ℕ) → i < items p → b < p.blocks → cell ws i b ≡ get_or (choice b) i 0)
    → filled most_places (p.blocks * items p) (place_total (modular q) sums ws (items p))
    ≡ padded most_places (totals (modular q) p v (held_in most_places xs) choice)
unfolding filled totals total_of place_total first_sum rows_of places
totals_same q p v xs rs sums ws k choice e d s u =
    ap (padded most_places) (map_same _ _ (span (places p) 0) (λ i m.
    let l : i < p.blocks * items p = omega (arith, (span_in (places p) 0 i m).1) in
    let some : 0 < items p = lt_of_mul-lt-mul_left p.blocks (omega (arith, mul-zero p.blocks)) in
    sym (mod-add-mod (get_or sums i 0) q _) ∙ ap₂ (λ (x y : ℕ). (modular q).subtract x y) (s.right i l ∙ ap (first_sum (modular q) xs rs k) (zero-add i)
    ∙ ap₂ (λ (n : ℕ) (us : List ℕ). sum (modular q) (span n 0) (λ a. held_in most_places xs (get_or us a 0) i)) d e
    ∙ sym (sum_by_place (modular q) (λ j. held_in most_places xs j i) most_users (users_in p v)))
    (u (i % items p) (i / items p) (omega (arith, mod-lt i some)) ((div-lt_iff_lt-mul {k = items p} {x = i} {y = p.blocks} some).1 l))))
