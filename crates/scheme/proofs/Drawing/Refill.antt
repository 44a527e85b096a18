-- A byte string whose first elements give way to those of a list, one for one. All its other bytes remain.
--   refill                        the byte string so changed
--   refill_length, refill_bytes   it is a byte string, and as long
--   refill_found                  in it are the list, and behind it the elements that were not replaced
--   refill_back                   with the replaced elements back in their places it is the old one
-- Assumes nothing.
use mathlib.Core.Path.{◌≡◌, refl, ap}
use mathlib.Core.Bool.{true, cond}
use mathlib.Core.List.{List, [], ◌∷◌, ◌++◌}
use Prim.Native.Nat.{ℕ, ◌+◌, ◌*◌, ◌/◌, ◌%◌, ◌≤◌, ◌<◌}
use native.Mathlib.Decide.{dec_lt}
use native.Mathlib.Omega.{arith}
use lib.Dec.{ltb}
use lib.ListN.{length, take, drop}
use borrow.Author.Tests.{lt-ltb, le-ltb}
use Rattle.scheme.specs.Scheme.{Arithmetic, elements}
use Rattle.scheme.specs.Drawn.{byte, bytes_good, numbers_in, elements_in, found}
use Rattle.scheme.proofs.Lists.{high, low}
use Rattle.scheme.proofs.Drawing.Bytes.{found_kept, found_skipped, found_element, first_element, first_bytes, more_bytes, element_bytes}

module _ (A : Arithmetic) where
  pub refill : (bytes list : List ℕ) → List ℕ
  refill s [] = s
  refill [] (w ∷ ws) = []
  refill (a ∷ []) (w ∷ ws) = a ∷ []
  refill (a ∷ b ∷ s) (w ∷ ws) = cond (ltb (b * byte + a) A.size) (w % byte ∷ w / byte ∷ refill s ws) (a ∷ b ∷ refill s (w ∷ ws))

  -- the first two bytes: an element, or not
  module _ (a b : ℕ) (s : List ℕ) where
    refill_kept : (w : ℕ) (ws : List ℕ) → b * byte + a < A.size → refill (a ∷ b ∷ s) (w ∷ ws) ≡ w % byte ∷ w / byte ∷ refill s ws
    unfolding refill
    refill_kept w ws h = rw lt-ltb

    refill_skipped : (ws : List ℕ) → (b * byte + a < A.size → ⊥) → refill (a ∷ b ∷ s) ws ≡ a ∷ b ∷ refill s ws
    unfolding refill
    refill_skipped [] h = refl
    refill_skipped (w ∷ ws) h = rw (le-ltb (b * byte + a) A.size (omega arith))

  pub refill_length : (s ws : List ℕ) → length (refill s ws) ≡ length s
  unfolding refill
  refill_length s [] = refl
  refill_length [] (w ∷ ws) = refl
  refill_length (a ∷ []) (w ∷ ws) = refl
  refill_length (a ∷ b ∷ s) (w ∷ ws) = elim (dec_lt (b * byte + a) A.size) [
    | yes h ↦ rw (refill_kept a b s w ws h, refill_length s ws)
    | no h ↦ rw (refill_skipped a b s (w ∷ ws) h, refill_length s (w ∷ ws))
  ]

  pub refill_bytes : A.size ≤ byte * byte → (s ws : List ℕ) → bytes_good s ≡ true → elements A ws ≡ true → bytes_good (refill s ws) ≡ true
  unfolding refill
  refill_bytes two s [] g l = g
  refill_bytes two [] (w ∷ ws) g l = g
  refill_bytes two (a ∷ []) (w ∷ ws) g l = g
  refill_bytes two (a ∷ b ∷ s) (w ∷ ws) g l =
      let f = first_bytes a b s g in
      let e = first_element A w ws l in
      elim (dec_lt (b * byte + a) A.size) [
        | yes h ↦ rw (refill_kept a b s w ws h) (element_bytes A two w (refill s ws) e.0 (refill_bytes two s ws f.2 e.1))
        | no h ↦ rw (refill_skipped a b s (w ∷ ws) h) (more_bytes a b (refill s (w ∷ ws)) f.0 f.1 (refill_bytes two s (w ∷ ws) f.2 l))
      ]

  pub refill_found : (s ws : List ℕ) → length ws ≤ length (found A s) → elements A ws ≡ true → found A (refill s ws) ≡ ws ++ drop (length ws) (found A s)
  unfolding refill numbers_in elements_in
  refill_found s [] m l = refl
  refill_found [] (w ∷ ws) m l = absurd (omega arith)
  refill_found (a ∷ []) (w ∷ ws) m l = absurd (omega arith)
  refill_found (a ∷ b ∷ s) (w ∷ ws) m l =
      let e = first_element A w ws l in
      elim (dec_lt (b * byte + a) A.size) [
        | yes h ↦
            let k = found_kept A a b s h in
            rw (refill_kept a b s w ws h, found_element A w (refill s ws) e.0, k, refill_found s ws (omega (arith, ap length k)) e.1)
        | no h ↦
            let k = found_skipped A a b s h in
            rw (refill_skipped a b s (w ∷ ws) h, found_skipped A a b (refill s (w ∷ ws)) h, k) (refill_found s (w ∷ ws) (omega (arith, ap length k)) l)
      ]

  pub refill_back : (s ws : List ℕ) → bytes_good s ≡ true → elements A ws ≡ true → refill (refill s ws) (take (length ws) (found A s)) ≡ s
  unfolding refill numbers_in elements_in
  refill_back s [] g l = refl
  refill_back [] (w ∷ ws) g l = refl
  refill_back (a ∷ []) (w ∷ ws) g l = refl
  refill_back (a ∷ b ∷ s) (w ∷ ws) g l =
      let f = first_bytes a b s g in
      let e = first_element A w ws l in
      elim (dec_lt (b * byte + a) A.size) [
        | yes h ↦ rw (
          refill_kept a b s w ws h,
          found_kept A a b s h,
          refill_kept (w % byte) (w / byte) (refill s ws) _ _ (omega arith),
          low b a byte f.0,
          high b a byte f.0,
          refill_back s ws f.2 e.1,
        )
        | no h ↦ rw (refill_skipped a b s (w ∷ ws) h, found_skipped A a b s h, refill_skipped a b (refill s (w ∷ ws)) _ h, refill_back s (w ∷ ws) f.2 l)
      ]
