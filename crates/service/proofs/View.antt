-- Laws of the view.
--   stored_held       whether a stored number is an element
--   left_held, left_free, left_taken, left_refused     what is held stays, and where nothing is the new one; an element that comes is taken
--                     where it is what is left, or else refused
--   left_after        and what is left in an array is that of an element that is put there, or after a refusal as it was
--   InRow            a user and a place of its row
--   look_at, held_at  what stands in a place of the array, and its element
--   look_nothing      nothing is held
--   look_put          one element more is held
-- Assumes nothing.
use Rattle.std.proofs.Common.{◌≡◌, refl, sym, ap, ◌∙◌, ◌≢◌, Bool, true, false, ◌&&◌, not, cond, List, ℕ, zero, suc, ◌+◌, ◌-◌, ◌/◌, ◌%◌, ◌≤◌, ◌<◌, add-one, arith, ltb, leb, eqb, length, get_or, set, replicate, get_or-set_same, get_or-set_other, le-leb, lt-ltb, eq-eqb, ne_eqb, eqb-true, leb-true, ltb-true}
use mathlib.Core.Option.{none, some}
use lib.Seq.{set-get_or}
use borrow.Author.Tests.{eqb-false}
use Rattle.scheme.specs.Limits.{most_users}
use Rattle.scheme.specs.Scheme.{unless, after}
use Rattle.scheme.specs.Service.{is_held, element_of, with_element, takes}
use Rattle.scheme.proofs.Tests.{and_both}
use Rattle.scheme.proofs.Lists.{zeros_at, high, low}
use Rattle.service.specs.View.{held_as, stored, left_in, slot, put, look, held_in}

by_test : {P : Type 0} (b : Bool) → (b ≡ true → P) → (b ≡ false → P) → P
by_test true f g = f refl
by_test false f g = g refl

pub stored_held : (n : ℕ) → is_held (stored n) ≡ not (eqb n 0)
unfolding is_held stored
stored_held zero = refl
stored_held (suc n) = simp (ne_eqb (suc n) 0 (λ z. omega arith))

pub left_held : (h n : ℕ) → h ≢ 0 → h ≡ left_in h n
unfolding left_in
left_held zero n e = absurd (e refl)
left_held (suc h) n e = refl

pub left_free : (h n : ℕ) → h ≡ 0 → left_in h n ≡ n
unfolding left_in
left_free h n e = rw e

pub left_taken : (n x : ℕ) → left_in n (held_as x) ≡ held_as x → takes (stored n) x ≡ true
unfolding left_in takes stored
left_taken zero x e = refl
left_taken (suc n) x e = eq-eqb n x (omega arith)

pub left_refused : (n x : ℕ) → left_in n (held_as x) ≢ held_as x → takes (stored n) x ≡ false
unfolding left_in takes stored
left_refused zero x h = absurd (h refl)
left_refused (suc n) x h = ne_eqb n x (λ e. h (omega arith))

pub left_after : (xs : List ℕ) (at x n : ℕ) → n ≡ get_or xs at 0 → set xs at (left_in n (held_as x)) ≡ after (unless (takes (stored n) x) 13) (set xs at (held_as x)) xs
unfolding left_in takes stored unless after
left_after xs at x zero e = refl
left_after xs at x (suc n) e =
    by_test (eqb n x) (λ d. let f : suc n ≡ x + 1 = omega (arith, eqb-true n x d) in rw d (ap (set xs at) f)) (λ d. rw (d, e) (set-get_or xs at 0))

abbrev inside : (w k i : ℕ) → Bool
inside w k i = leb 1 k && (leb k most_users && ltb i w)

pub record InRow (w k i : ℕ) : Type 0 where
  pub low : 1 ≤ k
  pub high : k ≤ most_users
  pub place : i < w

module _ (w : ℕ) (xs : List ℕ) (k i : ℕ) where
  pub look_at : InRow w k i → look w xs k i ≡ stored (get_or xs (slot w k i) 0)
  unfolding look
  look_at a = simp (le-leb _ _ a.low, le-leb _ _ a.high, lt-ltb _ _ a.place)

  pub held_at : 1 ≤ k → k ≤ most_users → i < w → held_in w xs k i ≡ get_or xs (slot w k i) 0 - 1
  unfolding element_of stored
  held_at lo hi h = ap element_of (look_at (record { low = lo; high = hi; place = h })) ∙ less (get_or xs (slot w k i) 0)
    where
      less : (x : ℕ) → element_of (stored x) ≡ x - 1
      less zero = refl
      less (suc x) = omega arith

pub look_nothing : (w n k i : ℕ) → look w (replicate n 0) k i ≡ none
unfolding look stored
look_nothing w n k i = rw (zeros_at n (slot w k i)) (by_test (inside w k i) (λ e. simp e) (λ e. simp e))

-- ---- one element more
module _ (w : ℕ) (xs : List ℕ) (k i x : ℕ) (a : InRow w k i) where
  apart : (l j : ℕ) → 1 ≤ l → j < w → slot w l j ≡ slot w k i → (l ≡ k) × (j ≡ i)
  apart l j d e h =
      let f : l - 1 ≡ k - 1 = sym (high (l - 1) j w e) ∙ ap (λ (n : ℕ). n / w) h ∙ high (k - 1) i w a.place in
      (omega arith, sym (low (l - 1) j w e) ∙ ap (λ (n : ℕ). n % w) h ∙ low (k - 1) i w a.place)

  there : slot w k i < length xs → look w (put w xs k i x) k i ≡ some x
  unfolding stored
  there h = look_at w (put w xs k i x) k i a ∙ ap stored (get_or-set_same xs (slot w k i) (held_as x) 0 h ∙ add-one x)

  elsewhere : (l j : ℕ) → ((l ≡ k) × (j ≡ i) → ⊥) → look w (put w xs k i x) l j ≡ look w xs l j
  unfolding look
  elsewhere l j h = by_test (inside w l j) (λ d. ap (λ (n : ℕ). cond (inside w l j) (stored n) none) (same d)) (λ d. simp d)
    where
      same : inside w l j ≡ true → get_or (put w xs k i x) (slot w l j) 0 ≡ get_or xs (slot w l j) 0
      same d =
          let s = and_both (leb 1 l) (leb l most_users && ltb j w) d in
          let f = and_both (leb l most_users) (ltb j w) s.1 in
          get_or-set_other xs (slot w k i) (slot w l j) (held_as x) 0 (λ e. h (apart l j (leb-true 1 l s.0) (ltb-true j w f.1) e))

  pub look_put : slot w k i < length xs → (l j : ℕ) → look w (put w xs k i x) l j ≡ with_element k i x (look w xs) l j
  unfolding with_element
  look_put h l j =
      by_test (eqb l k) (λ e. by_test (eqb j i) (λ f. rw (eqb-true l k e, eqb-true j i f, eq-eqb k k refl, eq-eqb i i refl) (there h))
      (λ f. rw (e, f) (elsewhere l j (λ s. eqb-false j i f s.1)))) (λ e. rw e (elsewhere l j (λ s. eqb-false l k e s.0)))
