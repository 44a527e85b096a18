-- What the calls hand back, refused and taken.
--   beyond, within                  tests of a place in an array, where the code has found it
--   Behind, behind_takes, behind_put     what is left in it behind an element that comes, for the runs of elements of crate stream
--   array_refused, array_held       the number and the array, of an element: refused before, and held in its place or refused there
--   step_refused, step_taken        the number and the state, of a plan or an open
--   close_refused, close_taken      what close hands back
--   array_handed, step_handed, close_handed     the same where a `?` hands a refusal on
--   element_tests                   a ruleset: what the tests answer that both kinds of element share
-- Assumes nothing.
use Rattle.std.proofs.Common.{◌≡◌, refl, sym, ap, ap₂, ◌∙◌, ◌≢◌, true, false, List, ℕ, ◌≤◌, ◌<◌, arith, ltb, get_or, set, lt-ltb, le-ltb, le-leb, Result, IsErrAnd}
use borrow.Author.Tests.{lt-leb}
use Rattle.std.proofs.lemmas.Result.{err_from_is_err_and}
use Rattle.scheme.specs.Scheme.{Arithmetic, ◌then◌, unless, after}
use Rattle.scheme.specs.Service.{element_refusal, takes, gathered}
use Rattle.scheme.proofs.Refusals.{after_taken, after_refused}
use Rattle.plan.specs.declared.refusal.Refusal.{Refusal}
use Rattle.plan.specs.Numbers.{number_of, numbered}
use Rattle.plan.proofs.Numbers.{refused_ne0}
use Rattle.service.specs.declared.Service.{Service}
use Rattle.service.specs.View.{held_as, stored, left_in, view}
use Rattle.service.specs.Calls.{closing, by_refusal, close_refusal, closed, close_step}
use Rattle.service.proofs.View.{left_taken, left_after}

-- ---- a place in an array, where the code has found it
module _ {at place : ℕ} (e : at ≡ place) where
  pub beyond : {n : ℕ} → n ≤ at → ltb place n ≡ false
  beyond {n} h = le-ltb place n (omega arith)

  pub within : {n : ℕ} → at < n → ltb place n ≡ true
  within {n} h = lt-ltb place n (omega arith)

-- behind an element x that comes, where the code has found its place
pub record Behind (xs : List ℕ) (place x at new left : ℕ) : Type 0 where
  pub found : at ≡ place
  pub made : new ≡ held_as x
  pub stays : left ≡ left_in (get_or xs at 0) new

-- what is left is the element, which is put there
module _ {xs : List ℕ} {place x at new left : ℕ} (b : Behind xs place x at new left) where
  pub behind_takes : left ≡ new → takes (stored (get_or xs place 0)) x ≡ true
  behind_takes h = left_taken _ x (ap₂ left_in (ap (λ (n : ℕ). get_or xs n 0) (sym b.found)) (sym b.made) ∙ sym b.stays ∙ h ∙ b.made)

  pub behind_put : left ≡ new → set xs at left ≡ set xs place (held_as x)
  behind_put h = ap₂ (λ (n y : ℕ). set xs n y) b.found (h ∙ b.made)

-- ---- the old value after a refusal n, and the new one after none
kept : {X : Type 0} {n m : ℕ} → n ≢ 0 → n ≡ m → (new old : X) → old ≡ after m new old
kept h e new old = sym (after_refused (λ z. h (e ∙ z)) new old)

moved : {X : Type 0} {m : ℕ} {x new : X} → 0 ≡ m → x ≡ new → (old : X) → x ≡ after m new old
moved {new = new} e d old = d ∙ sym (after_taken (sym e) new old)

-- ---- an element
pub array_refused : {n m : ℕ} → n ≢ 0 → n ≡ m → (new old : List ℕ) → (n ≡ m) × (old ≡ after m new old)
array_refused h e new old = (e, kept h e new old)

-- the tests before are passed, and the element is held in its place, or refused there
pub array_held : {at place : ℕ} → at ≡ place → (xs : List ℕ) (x : ℕ) {n m left : ℕ}
    → unless (takes (stored (get_or xs place 0)) x) 13 ≡ m → n ≡ unless (takes (stored (get_or xs at 0)) x) 13 → left ≡ left_in (get_or xs at 0) (held_as x)
    → (n ≡ m) × (set xs at left ≡ after m (set xs place (held_as x)) xs)
array_held e xs x p d l = rw (← p, l, ← e) (d, left_after xs _ x _ refl)

-- ---- a plan or an open
pub step_refused : {n m : ℕ} → n ≢ 0 → n ≡ m → (new old : Service) → record { number = n; service = old } ≡ by_refusal m new old
step_refused h e new old = λ t. record { number = e t; service = kept h e new old t }

pub step_taken : {m : ℕ} {s new : Service} → 0 ≡ m → s ≡ new → (old : Service) → record { number = 0; service = s } ≡ by_refusal m new old
step_taken e d old = λ t. record { number = e t; service = moved e d old t }

-- ---- close
pub close_refused : (s : Service) {n : ℕ} → n ≢ 0 → n ≡ close_refusal s → record { number = n; set = 0; service = s } ≡ close_step s
unfolding close_step
close_refused s h e = λ t. record { number = e t; set = kept h e (gathered (view s)) 0 t; service = kept h e (closed s (gathered (view s))) s t }

pub close_taken : (s : Service) {v : ℕ} → 0 ≡ close_refusal s → v ≡ gathered (view s) → record { number = 0; set = v; service = closed s v } ≡ close_step s
unfolding close_step
close_taken s e d = λ t. record { number = e t; set = moved e d 0 t; service = moved e (ap (closed s) d) s t }

-- ---- where a `?` hands a refusal on
module _ {A : Type 0} (r : Result A Refusal) (x : Refusal) (d : IsErrAnd r (λ y. y ≡ x)) where
  handed_on : numbered r ≡ number_of x
  handed_on = let p = err_from_is_err_and r d in rw (p.1, p.2) refl

  pub array_handed : {m : ℕ} → number_of x ≡ m → (new old : List ℕ) → (numbered r ≡ m) × (old ≡ after m new old)
  array_handed e = rw handed_on (array_refused (refused_ne0 x) e)

  pub step_handed : {m : ℕ} → number_of x ≡ m → (new old : Service) → record { number = numbered r; service = old } ≡ by_refusal m new old
  step_handed e = rw handed_on (step_refused (refused_ne0 x) e)

pub close_handed : (r : Result ℕ Refusal) (x : Refusal) → IsErrAnd r (λ y. y ≡ x) → (s : Service) → number_of x ≡ close_refusal s → closing r s ≡ close_step s
close_handed r x d s e = let p = err_from_is_err_and r d in rw (p.1, p.2) (close_refused s (refused_ne0 x) e)

-- ---- the tests that both kinds of element share
module _ (A : Arithmetic) (n l k i x : ℕ) where
  pub element_of_none : k ≡ 0 → element_refusal A n l k i x ≡ 4
  unfolding element_refusal unless ◌then◌
  element_of_none e = let h : k < 1 = omega arith in simp (lt-leb _ _ h)

  pub element_of_stranger : 1 ≤ k → n < k → element_refusal A n l k i x ≡ 4
  unfolding element_refusal unless ◌then◌
  element_of_stranger lo h = simp (le-leb _ _ lo, lt-leb _ _ h)

  pub element_beyond : 1 ≤ k → k ≤ n → l ≤ i → element_refusal A n l k i x ≡ 8
  unfolding element_refusal unless ◌then◌
  element_beyond lo hi h = simp (le-leb _ _ lo, le-leb _ _ hi, le-ltb _ _ h)

  pub element_large : 1 ≤ k → k ≤ n → i < l → A.size ≤ x → element_refusal A n l k i x ≡ 3
  unfolding element_refusal unless ◌then◌
  element_large lo hi at h = simp (le-leb _ _ lo, le-leb _ _ hi, lt-ltb _ _ at, le-ltb _ _ h)

  pub element_fits : 1 ≤ k → k ≤ n → i < l → x < A.size → element_refusal A n l k i x ≡ 0
  unfolding element_refusal unless ◌then◌
  element_fits lo hi at h = simp (le-leb _ _ lo, le-leb _ _ hi, lt-ltb _ _ at, lt-ltb _ _ h)

pub ruleset element_tests = (element_of_none, element_of_stranger, element_beyond, element_large, element_fits)
