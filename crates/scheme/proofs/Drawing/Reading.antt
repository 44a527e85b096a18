-- Bytes read two at a time.
--   from_kept, from_skipped    by the number at a place: an element, or not
--   from_few                   an element takes two bytes
--   skipped_start, skipped_more_in, skipped_more_out     numbers looked through one by one: one more is skipped, or is not
--   fills_right, fills_wrong   whether the bytes fill a list, by how many elements are still missing
--   none_past                  numbers of which none is past the last element, gathered by `|`
-- Assumes nothing.
use mathlib.Core.Path.{◌≡◌, sym, ap, ◌∙◌}
use mathlib.Core.Bool.{true, false}
use mathlib.Core.List.{List, [], ◌∷◌}
use Prim.Native.Nat.{ℕ, suc, ◌+◌, ◌*◌, ◌-◌, ◌≤◌, ◌<◌}
use native.Mathlib.Decide.{dec_lt}
use native.Mathlib.Omega.{arith}
use lib.Bits.{bit_or}
use lib.ListN.{length, get_or, drop, length-drop}
use lib.Seq.{drop-cons}
use borrow.Author.Tests.{le-leb, lt-leb}
use Rattle.scheme.specs.Scheme.{Arithmetic}
use Rattle.scheme.specs.Drawn.{byte, numbers_in, elements_in, found, fills}
use Rattle.scheme.specs.DrawnParts.{Skipped}
use Rattle.scheme.proofs.Elements.{neither}
use Rattle.scheme.proofs.Drawing.Bytes.{found_kept, found_skipped}

pair : (s : List ℕ) (at : ℕ) → at + 2 ≤ length s → drop at s ≡ get_or s at 0 ∷ get_or s (at + 1) 0 ∷ drop (at + 2) s
pair s at h =
    let e : suc at ≡ at + 1 = omega arith in
    let d : suc (at + 1) ≡ at + 2 = omega arith in
    drop-cons s at 0 (omega arith) ∙ ap (λ (l : List ℕ). get_or s at 0 ∷ l)
    (ap (λ (i : ℕ). drop i s) e ∙ drop-cons s (at + 1) 0 (omega arith) ∙ ap (λ (i : ℕ). get_or s (at + 1) 0 ∷ drop i s) d)

found_few : (A : Arithmetic) (s : List ℕ) → 2 * length (found A s) ≤ length s
unfolding numbers_in elements_in
found_few A [] = omega arith
found_few A (a ∷ []) = omega arith
found_few A (a ∷ b ∷ s) = elim (dec_lt (b * byte + a) A.size) [
  | yes h ↦ omega (arith, found_few A s, ap length (found_kept A a b s h))
  | no h ↦ omega (arith, found_few A s, ap length (found_skipped A a b s h))
]

module _ (A : Arithmetic) (s : List ℕ) where
  -- x is the number of the two bytes at `at`
  module _ (at x : ℕ) (inside : at + 2 ≤ length s) (is : x ≡ get_or s (at + 1) 0 * byte + get_or s at 0) where
    pub from_kept : x < A.size → found A (drop at s) ≡ x ∷ found A (drop (at + 2) s)
    from_kept h =
        ap (found A) (pair s at inside) ∙ found_kept A (get_or s at 0) (get_or s (at + 1) 0) (drop (at + 2) s) (omega arith)
        ∙ ap (λ (y : ℕ). y ∷ found A (drop (at + 2) s)) (sym is)

    pub from_skipped : A.size ≤ x → found A (drop at s) ≡ found A (drop (at + 2) s)
    from_skipped h = ap (found A) (pair s at inside) ∙ found_skipped A (get_or s at 0) (get_or s (at + 1) 0) (drop (at + 2) s) (λ l. omega arith)

  pub from_few : (at : ℕ) → 2 * length (found A (drop at s)) ≤ length s - at
  from_few at = omega (arith, found_few A (drop at s), length-drop at s)

  -- ---- looked through
  pub skipped_start : (at : ℕ) → Skipped A s at 0 0
  skipped_start at =
      let e : at + 2 * 0 ≡ at = omega arith in
      record { few = omega arith; right = ap (λ (i : ℕ). 0 + length (found A (drop i s))) (sym e) }

  module _ {from i r : ℕ} (k : Skipped A s from i r) (at x : ℕ) (here : at ≡ from + 2 * i) (inside : at + 2 ≤ length s)
      (is : x ≡ get_or s (at + 1) 0 * byte + get_or s at 0) where
    next : (m : ℕ) → m ≤ i + 1 → m + length (found A (drop from s)) ≡ i + 1 + length (found A (drop (at + 2) s)) → Skipped A s from (i + 1) m
    next m h g =
        let e : at + 2 ≡ from + 2 * (i + 1) = omega arith in
        record { few = h; right = g ∙ ap (λ (j : ℕ). i + 1 + length (found A (drop j s))) e }

    counted : r + length (found A (drop from s)) ≡ i + length (found A (drop at s))
    counted = k.right ∙ ap (λ (j : ℕ). i + length (found A (drop j s))) (sym here)

    pub skipped_more_in : A.size ≤ x → Skipped A s from (i + 1) (r + 1)
    skipped_more_in h = next (r + 1) (omega (arith, k.few)) (omega (arith, counted, ap length (from_skipped at x inside is h)))

    pub skipped_more_out : x < A.size → Skipped A s from (i + 1) r
    skipped_more_out h = next r (omega (arith, k.few)) (omega (arith, counted, ap length (from_kept at x inside is h)))

  -- ---- whether the bytes fill a list: `missing` of n elements are still to be found from `at` on, where `left` numbers stand
  module _ (n at missing : ℕ) (h : missing + length (found A s) ≡ n + length (found A (drop at s))) where
    pub fills_right : missing ≡ 0 → fills A n s ≡ true
    unfolding fills
    fills_right e = le-leb n (length (found A s)) (omega arith)

    pub fills_wrong : (left : ℕ) → left < missing → length s ≤ at + 2 * left + 1 → fills A n s ≡ false
    unfolding fills
    fills_wrong left l e = lt-leb n (length (found A s)) (omega (arith, from_few at))

pub none_past : (A : Arithmetic) → 0 < A.size → (past x : ℕ) → bit_or past (x - (A.size - 1)) ≡ 0 → (past ≡ 0) × (x < A.size)
none_past A some past x e = let z = neither past (x - (A.size - 1)) e in (z.0, omega (arith, z.1))
