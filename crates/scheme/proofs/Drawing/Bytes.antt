-- The elements in a byte string, and the bytes of elements.
--   found_kept, found_skipped     by its first two bytes: an element, or not
--   found_element                 the two bytes of an element give it back
--   found_elements                the first n of them are elements
--   first_element, first_bytes    a list of elements and a byte string, taken apart
--   more_bytes, element_bytes     two bytes in front of a byte string, and those of an element
--   bytes_of_length, bytes_of_good, bytes_of_found    the bytes of a list of elements: twice as many, in which the list is found
-- Assumes nothing.
use mathlib.Core.Path.{◌≡◌, refl, ap, ◌∙◌}
use mathlib.Core.Bool.{Bool, true}
use mathlib.Core.List.{List, [], ◌∷◌}
use Prim.Native.Nat.{ℕ, zero, suc, ◌+◌, ◌*◌, ◌/◌, ◌%◌, ◌≤◌, ◌<◌}
use native.Mathlib.Decide.{dec_lt}
use native.Mathlib.Omega.{arith}
use lib.ListN.{length, take}
use borrow.Author.Tests.{lt-ltb, le-ltb, ltb-true}
use Rattle.scheme.specs.Lists.{keep, all_of}
use Rattle.scheme.specs.Scheme.{Arithmetic, elements}
use Rattle.scheme.specs.Drawn.{byte, bytes_good, numbers_in, elements_in, found, bytes_of}
use Rattle.scheme.proofs.Tests.{and_both, and_joined}

pub first_bytes : (a b : ℕ) (s : List ℕ) → bytes_good (a ∷ b ∷ s) ≡ true → (a < byte) × (b < byte) × (bytes_good s ≡ true)
unfolding bytes_good all_of
first_bytes a b s h =
    let f = and_both _ _ h in
    let g = and_both _ _ f.1 in
    (ltb-true _ _ f.0, ltb-true _ _ g.0, g.1)

pub more_bytes : (a b : ℕ) (s : List ℕ) → a < byte → b < byte → bytes_good s ≡ true → bytes_good (a ∷ b ∷ s) ≡ true
unfolding bytes_good all_of
more_bytes a b s h l g = and_joined (lt-ltb a byte h) (and_joined (lt-ltb b byte l) g)

pub bytes_of_length : (xs : List ℕ) → length (bytes_of xs) ≡ length xs * 2
unfolding bytes_of
bytes_of_length [] = refl
bytes_of_length (x ∷ xs) = omega (arith, bytes_of_length xs)

module _ (A : Arithmetic) where
  -- by the first number
  element_skipped : (x : ℕ) (l : List ℕ) → (x < A.size → ⊥) → elements_in A (x ∷ l) ≡ elements_in A l
  unfolding elements_in
  element_skipped x l h = ap (λ (t : Bool). keep t x (elements_in A l)) (le-ltb x A.size (omega arith))

  element_kept : (x : ℕ) (l : List ℕ) → x < A.size → elements_in A (x ∷ l) ≡ x ∷ elements_in A l
  unfolding elements_in
  element_kept x l h = ap (λ (t : Bool). keep t x (elements_in A l)) (lt-ltb x A.size h)

  pub found_elements : (n : ℕ) (l : List ℕ) → elements A (take n (elements_in A l)) ≡ true
  unfolding elements all_of elements_in
  found_elements zero l = refl
  found_elements (suc n) [] = refl
  found_elements (suc n) (x ∷ l) = elim (dec_lt x A.size) [
    | yes h ↦ rw (element_kept x l h) (and_joined (lt-ltb x A.size h) (found_elements n l))
    | no h ↦ rw (element_skipped x l h) (found_elements (suc n) l)
  ]

  pub found_kept : (a b : ℕ) (s : List ℕ) → b * byte + a < A.size → found A (a ∷ b ∷ s) ≡ (b * byte + a) ∷ found A s
  unfolding numbers_in
  found_kept a b s h = element_kept (b * byte + a) (numbers_in s) h

  pub found_skipped : (a b : ℕ) (s : List ℕ) → (b * byte + a < A.size → ⊥) → found A (a ∷ b ∷ s) ≡ found A s
  unfolding numbers_in
  found_skipped a b s h = element_skipped (b * byte + a) (numbers_in s) h

  pub found_element : (w : ℕ) (s : List ℕ) → w < A.size → found A (w % byte ∷ w / byte ∷ s) ≡ w ∷ found A s
  found_element w s h =
      let e : w / byte * byte + w % byte ≡ w = omega arith in
      found_kept (w % byte) (w / byte) s (omega arith) ∙ ap (λ (x : ℕ). x ∷ found A s) e

  pub first_element : (w : ℕ) (ws : List ℕ) → elements A (w ∷ ws) ≡ true → (w < A.size) × (elements A ws ≡ true)
  unfolding elements all_of
  first_element w ws h = let f = and_both _ _ h in (ltb-true _ _ f.0, f.1)

  pub bytes_of_found : (xs : List ℕ) → elements A xs ≡ true → found A (bytes_of xs) ≡ xs
  unfolding bytes_of numbers_in elements_in
  bytes_of_found [] h = refl
  bytes_of_found (x ∷ xs) h = let f = first_element x xs h in found_element x (bytes_of xs) f.0 ∙ ap (λ (l : List ℕ). x ∷ l) (bytes_of_found xs f.1)

  module _ (two : A.size ≤ byte * byte) where
    pub element_bytes : (w : ℕ) (s : List ℕ) → w < A.size → bytes_good s ≡ true → bytes_good (w % byte ∷ w / byte ∷ s) ≡ true
    element_bytes w s h g = more_bytes (w % byte) (w / byte) s (omega arith) (omega arith) g

    pub bytes_of_good : (xs : List ℕ) → elements A xs ≡ true → bytes_good (bytes_of xs) ≡ true
    unfolding bytes_of bytes_good all_of
    bytes_of_good [] h = refl
    bytes_of_good (x ∷ xs) h = let f = first_element x xs h in element_bytes x (bytes_of xs) f.0 (bytes_of_good xs f.1)
