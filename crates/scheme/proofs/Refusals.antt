-- Refusals: what `then`, `unless` and `after` come to.
--   then_taken, then_refused         the first of two refusals
--   then_stops                       the first has answered, and not 0
--   then_zero                        both are 0
--   then_same                        refusals that agree once the first is passed
--   then_assoc, then_last            three in a row, and one more behind those
--   unless_held, unless_failed       one test
--   unless_zero                      the number is not 0, so the test held
--   test_held                        the same of a test that others follow
--   then_not, test_not, passed_not   refusals that are not a given number
--   both_passed, test_passed, test_refused     what follows: of two that are 0, of a test that held, of one that failed
--   after_taken, after_refused       what a call leaves
--   after_in                         and what it leaves of a part leaves the whole
--   start_passes, start_taken        start's tests let a good plan with one of its users pass, and nothing else
--   lookup_passes, lookup_taken      a lookup's tests let these pass with a usable set that holds the user, and nothing else
-- Assumes nothing.
use mathlib.Core.Path.{◌≡◌, refl, sym, ap, ap₂, ◌∙◌}
use mathlib.Core.Logic.{◌≢◌}
use mathlib.Core.Bool.{Bool, true, false}
use Prim.Native.Nat.{ℕ, zero, suc, ◌≤◌}
use native.Mathlib.Omega.{arith}
use lib.Dec.{eqb}
use borrow.Author.Tests.{eqb-false, leb-true, le-leb}
use Rattle.scheme.specs.Scheme.{Plan, is_user, in_set, usable, ◌then◌, unless, start_refusal, lookup_refusal, after}
use Rattle.scheme.specs.Good.{Good}
use Rattle.scheme.proofs.Tests.{and_both}
use Rattle.scheme.proofs.Good.{good, good_back}

pub then_taken : {a : ℕ} → a ≡ 0 → (b : ℕ) → (a then b) ≡ b
unfolding ◌then◌
then_taken e b = ap (λ (n : ℕ). n then b) e

pub then_refused : {a : ℕ} → (a ≡ 0 → ⊥) → (b : ℕ) → (a then b) ≡ a
unfolding ◌then◌
then_refused {a = zero} h b = absurd (h refl)
then_refused {a = suc a} h b = refl

pub then_stops : {a n : ℕ} → n ≡ a → (n ≡ 0 → ⊥) → (b : ℕ) → n ≡ (a then b)
then_stops e h b = e ∙ sym (then_refused (λ z. h (e ∙ z)) b)

pub then_zero : (a b : ℕ) → (a then b) ≡ 0 → (a ≡ 0) × (b ≡ 0)
unfolding ◌then◌
then_zero zero b e = (refl, e)
then_zero (suc a) b e = absurd (omega arith)

pub then_same : {a b c d : ℕ} → a ≡ b → (b ≡ 0 → c ≡ d) → (a then c) ≡ (b then d)
unfolding ◌then◌
then_same {b = zero} e h = ap₂ ◌then◌ e (h refl)
then_same {b = suc b} {c} e h = ap (λ (n : ℕ). n then c) e

pub then_assoc : (a b c : ℕ) → ((a then b) then c) ≡ (a then b then c)
unfolding ◌then◌
then_assoc zero b c = refl
then_assoc (suc a) b c = refl

pub then_last : (a b c : ℕ) {d : ℕ} → d ≡ (b then c) → (a then d) ≡ ((a then b) then c)
then_last a b c e = ap (λ (n : ℕ). a then n) e ∙ sym (then_assoc a b c)

pub unless_held : {b : Bool} → b ≡ true → (n : ℕ) → unless b n ≡ 0
unfolding unless
unless_held e n = ap (λ (b : Bool). unless b n) e

pub unless_failed : {b : Bool} → b ≡ false → (n : ℕ) → unless b n ≡ n
unfolding unless
unless_failed e n = ap (λ (b : Bool). unless b n) e

pub unless_zero : (b : Bool) (n : ℕ) → unless b (suc n) ≡ 0 → b ≡ true
unfolding unless
unless_zero true n e = refl
unless_zero false n e = absurd (omega arith)

pub test_held : (b : Bool) (n m : ℕ) → (unless b (suc n) then m) ≡ 0 → (b ≡ true) × (m ≡ 0)
test_held b n m e = let s = then_zero (unless b (suc n)) m e in (unless_zero b n s.0, s.1)

pub then_not : {n a b : ℕ} → a ≢ n → b ≢ n → (a then b) ≢ n
unfolding ◌then◌
then_not {a = zero} h l = l
then_not {a = suc a} h l = h

pub test_not : (b : Bool) (m : ℕ) {n : ℕ} → eqb m (suc n) ≡ false → unless b m ≢ suc n
unfolding unless
test_not true m h = λ e. omega arith
test_not false m h = eqb-false m _ h

pub passed_not : {b : Bool} → b ≡ true → (m : ℕ) {n : ℕ} → unless b m ≢ suc n
passed_not h m e = omega (arith, e, unless_held h m)

pub both_passed : {a b : ℕ} → a ≡ 0 → b ≡ 0 → (c : ℕ) → c ≡ (a then b then c)
both_passed e f c = sym (then_taken e _ ∙ then_taken f c)

pub test_passed : {b : Bool} → b ≡ true → (n m : ℕ) → m ≡ (unless b n then m)
test_passed e n m = sym (then_taken (unless_held e n) m)

pub test_refused : {b : Bool} → b ≡ false → (n m : ℕ) → suc n ≡ (unless b (suc n) then m)
test_refused e n m = then_stops (sym (unless_failed e (suc n))) (λ z. omega arith) m

pub after_taken : {A : Type 0} {n : ℕ} → n ≡ 0 → (new old : A) → after n new old ≡ new
unfolding after
after_taken e new old = ap (λ (n : ℕ). after n new old) e

pub after_refused : {A : Type 0} {n : ℕ} → (n ≡ 0 → ⊥) → (new old : A) → after n new old ≡ old
unfolding after
after_refused {n = zero} h new old = absurd (h refl)
after_refused {n = suc n} h new old = refl

pub after_in : {A B : Type 0} (f : A → B) (n : ℕ) (new old : A) → f (after n new old) ≡ after n (f new) (f old)
unfolding after
after_in f zero new old = refl
after_in f (suc n) new old = refl

pub start_passes : (p : Plan) (k : ℕ) → Good p × (1 ≤ k) × (k ≤ p.users) → start_refusal p k ≡ 0
unfolding start_refusal is_user unless ◌then◌
start_passes p k h = simp (good_back p h.0, le-leb _ _ h.1, le-leb _ _ h.2)

pub start_taken : (p : Plan) (k : ℕ) → start_refusal p k ≡ 0 → Good p × (1 ≤ k) × (k ≤ p.users)
unfolding start_refusal is_user
start_taken p k e =
    let s = then_zero _ _ e in
    let u = and_both _ _ (unless_zero _ _ s.1) in
    (good p (unless_zero _ _ s.0), leb-true _ _ u.0, leb-true _ _ u.1)

module _ (p : Plan) (k v : ℕ) where
  pub lookup_passes : start_refusal p k ≡ 0 → usable p v ≡ true → in_set v k ≡ true → lookup_refusal p k v ≡ 0
  unfolding lookup_refusal unless ◌then◌
  lookup_passes s u e = simp (s, u, e)

  pub lookup_taken : lookup_refusal p k v ≡ 0 → (start_refusal p k ≡ 0) × (usable p v ≡ true) × (in_set v k ≡ true)
  unfolding lookup_refusal
  lookup_taken e =
      let s = then_zero _ _ e in
      let u = test_held _ _ _ s.1 in
      (s.0, u.0, unless_zero _ _ u.1)
