-- `within`, `near` and `elements`: tests of every number of a list.
--   neither                    two numbers whose `|` is 0
--   tested_more, tested_all    of what is left of a list, with the next number tested, what it fails by gathered by `|`; nothing is left
--   past_within, far_near      by how far a number is past the most; by how far it is from those near zero
--   within_at, within_map      a number of such a list; a map into it
--   elements_within            elements are the numbers within the last one
--   reach_element, bound_element      the reach of a use, and the bound of its figures, are elements
--   within_elements, near_elements, figures_elements    so numbers within less, those near zero, and figures are elements
-- Assumes nothing.
use mathlib.Core.Path.{◌≡◌, refl, sym, ap, ◌∙◌}
use mathlib.Core.Logic.{inl, inr}
use mathlib.Core.Bool.{Bool, true, false, ◌&&◌, ◌||◌}
use mathlib.Core.List.{List, [], ◌∷◌, map}
use Prim.Native.Nat.{ℕ, zero, suc, ◌+◌, ◌-◌, ◌≤◌, ◌<◌}
use native.Mathlib.Nat.{div-le_self}
use native.Mathlib.Numerals.{add-one}
use native.Mathlib.Omega.{arith}
use lib.Bits.{bit_or, or_zero_r, or_add_and, and_le_l}
use lib.Dec.{ltb, leb, eqb}
use lib.ListN.{length, get_or, drop, drop_of_length-le}
use lib.Seq.{drop-cons}
use borrow.Author.Tests.{ltb-true, lt-ltb, leb-true, le-leb, lt-leb, eqb-true, eqb-false, eq-eqb, ne_eqb}
use Rattle.algebra.specs.Sums.{In}
use Rattle.scheme.specs.Lists.{all_of}
use Rattle.scheme.specs.Scheme.{Arithmetic, elements, within, is_near, near, Plan, Use, counts, signed, reach, figure_bound, figures_good}
use Rattle.scheme.proofs.Lists.{all_of_same, all_of_part}
use Rattle.scheme.proofs.Tests.{same_test, and_both, and_joined, and_false}

pub neither : (a b : ℕ) → bit_or a b ≡ 0 → (a ≡ 0) × (b ≡ 0)
neither a b z =
    let e : b ≡ 0 = omega (arith, z, or_add_and a b, and_le_l a b) in
    (sym (or_zero_r a) ∙ ap (bit_or a) (sym e) ∙ z, e)

-- a test of each number of a list, the numbers tested one by one
module _ (t : ℕ → Bool) (xs : List ℕ) (i : ℕ) where
  left : i < length xs → all_of t (drop i xs) ≡ (t (get_or xs i 0) && all_of t (drop (i + 1) xs))
  unfolding all_of
  left h = rw (add-one, drop-cons xs i 0 h)

  pub tested_all : length xs ≤ i → all_of t (drop i xs) ≡ true
  unfolding all_of
  tested_all h = rw (drop_of_length-le xs h)

  -- `over` is 0 exactly if the next number passes
  pub tested_more : (past over : ℕ) → i < length xs → eqb over 0 ≡ t (get_or xs i 0)
      → (eqb (bit_or past over) 0 && all_of t (drop (i + 1) xs)) ≡ (eqb past 0 && all_of t (drop i xs))
  tested_more past over h e = go (eqb over 0) refl ∙ ap (λ (b : Bool). eqb past 0 && b) (sym (left h ∙ ap (λ (b : Bool). b && rest) (sym e)))
    where
      rest : Bool
      rest = all_of t (drop (i + 1) xs)

      go : (b : Bool) → eqb over 0 ≡ b → (eqb (bit_or past over) 0 && rest) ≡ (eqb past 0 && (b && rest))
      go true d = ap (λ (n : ℕ). eqb n 0 && rest) (ap (bit_or past) (eqb-true over 0 d) ∙ or_zero_r past)
      go false d =
          let n : bit_or past over ≡ 0 → ⊥ = λ z. eqb-false over 0 d (neither past over z).1 in
          ap (λ (b : Bool). b && rest) (ne_eqb _ _ n) ∙ sym (and_false (eqb past 0))

-- how far a number is past the most
pub past_within : (x most : ℕ) → eqb (x - most) 0 ≡ leb x most
past_within x most = same_test _ _ (λ e. le-leb x most (omega (arith, eqb-true (x - most) 0 e))) (λ e. eq-eqb (x - most) 0 (omega (arith, leb-true x most e)))

-- what a number that is not within the most lacks to be near zero from below, or has too much
pub far_near : (A : Arithmetic) → 0 < A.size → (most x : ℕ) → most < x → eqb (bit_or (A.size - most - x) (x - (A.size - 1))) 0 ≡ is_near A most x
unfolding is_near
far_near A some most x g = same_test _ _ there back
  where
    short : ℕ
    short = A.size - most - x

    long : ℕ
    long = x - (A.size - 1)

    not_within : leb x most ≡ false
    not_within = lt-leb x most g

    there : eqb (bit_or short long) 0 ≡ true → (leb x most || (leb (A.size - most) x && ltb x A.size)) ≡ true
    there e =
        let z = neither short long (eqb-true (bit_or short long) 0 e) in
        let s : short ≡ 0 = z.0 in
        let l : long ≡ 0 = z.1 in
        rw (not_within, le-leb (A.size - most) x (omega arith), lt-ltb x A.size (omega arith)) refl

    back : (leb x most || (leb (A.size - most) x && ltb x A.size)) ≡ true → eqb (bit_or short long) 0 ≡ true
    back e =
        let high = leb (A.size - most) x && ltb x A.size in
        let b = and_both (leb (A.size - most) x) (ltb x A.size) (ap (λ (t : Bool). t || high) (sym not_within) ∙ e) in
        let s : short ≡ 0 = omega (arith, leb-true (A.size - most) x b.0) in
        let l : long ≡ 0 = omega (arith, ltb-true x A.size b.1) in
        rw (s, l) refl

module _ (most : ℕ) where
  pub within_at : (xs : List ℕ) (i : ℕ) → within most xs ≡ true → get_or xs i 0 ≤ most
  unfolding within all_of
  within_at [] i h = omega arith
  within_at (x ∷ xs) zero h = leb-true x most (and_both (leb x most) (within most xs) h).0
  within_at (x ∷ xs) (suc i) h = within_at xs i (and_both (leb x most) (within most xs) h).1

  pub within_map : (f : ℕ → ℕ) (l : List ℕ) → ((k : ℕ) → In k l → f k ≤ most) → within most (map f l) ≡ true
  unfolding within all_of
  within_map f [] h = refl
  within_map f (k ∷ l) h = and_joined (le-leb (f k) most (h k (inl refl))) (within_map f l (λ i m. h i (inr m)))

module _ (A : Arithmetic) (some : 0 < A.size) where
  pub elements_within : (xs : List ℕ) → elements A xs ≡ within (A.size - 1) xs
  unfolding elements within
  elements_within xs = all_of_same _ _ xs (λ x m. same_test _ _ (λ e. le-leb x (A.size - 1) (omega (arith, ltb-true x A.size e)))
      (λ e. lt-ltb x A.size (omega (arith, leb-true x (A.size - 1) e))))

  pub within_elements : (most : ℕ) → most ≤ A.size - 1 → (xs : List ℕ) → within most xs ≡ true → elements A xs ≡ true
  unfolding elements within
  within_elements most less xs = all_of_part _ _ xs xs (λ x m. m) (λ x m e. lt-ltb x A.size (omega (arith, leb-true x most e)))

  is_near_element : (most x : ℕ) → most ≤ A.size - 1 → is_near A most x ≡ true → ltb x A.size ≡ true
  unfolding is_near
  is_near_element most x less h = go (leb x most) refl h
    where
      go : (t : Bool) → leb x most ≡ t → (t || (leb (A.size - most) x && ltb x A.size)) ≡ true → ltb x A.size ≡ true
      go true e d = lt-ltb x A.size (omega (arith, leb-true x most e))
      go false e d = (and_both (leb (A.size - most) x) (ltb x A.size) d).1

  pub near_elements : (most : ℕ) → most ≤ A.size - 1 → (xs : List ℕ) → near A most xs ≡ true → elements A xs ≡ true
  unfolding elements near
  near_elements most less xs = all_of_part _ _ xs xs (λ x m. m) (λ x m. is_near_element most x less)

  pub reach_element : (u : Use) → reach A u ≤ A.size - 1
  unfolding reach
  reach_element counts = omega arith
  reach_element signed = div-le_self _ _

  pub bound_element : (u : Use) (p : Plan) → figure_bound A u p ≤ A.size - 1
  unfolding figure_bound
  bound_element u p = omega (arith, reach_element u, div-le_self (reach A u) p.users)

  pub figures_elements : (u : Use) (p : Plan) (fs : List ℕ) → figures_good A u p fs ≡ true → elements A fs ≡ true
  unfolding figures_good
  figures_elements counts p fs h = within_elements _ (bound_element counts p) fs h
  figures_elements signed p fs h = near_elements _ (bound_element signed p) fs h
