-- What several proofs share.
--   stage_answered                                  a number from 2 on stands for the stage of an answered set
--   message_fits, message_clean, message_written    where a first message is taken: the buffer is no longer than figures and key, both are elements,
--                                                   and the message fills it
--   reply_own, reply_open                           where a reply is taken, its round is the key's, and no other set was answered
--   refused_moves, taken_moves                      what a call hands back, by the refusal of its tests
--   tested, answered                                by what the proofs of the tests, and of the calls, are found
--   Answers, reply_answers, reply_taken, answers_held    what else holds there, and that it is taken
-- Assumes nothing.
use Rattle.std.proofs.Common.{◌≡◌, refl, sym, ap, ◌≢◌, true, false, ◌&&◌, List, ℕ, zero, suc, ◌-◌, ◌≤◌, arith, eqb, length, eqb-true, eq-eqb}
use Rattle.scheme.specs.Scheme as scheme
use Rattle.scheme.specs.Lists.{each}
use Rattle.scheme.specs.Scheme.{Arithmetic, elements, places, in_set, usable, usable_with, key_length, first_message, is_fresh, open_to, start_refusal, message_refusal, reply_refusal, unless, ◌then◌, after}
use Rattle.scheme.proofs.Tests.{and_both, and_joined}
use Rattle.scheme.proofs.Elements.{figures_elements}
use Rattle.scheme.proofs.Refusals.{start_taken, after_taken, after_refused, then_stops, then_taken, then_zero, unless_held, unless_failed, unless_zero}
use Rattle.scheme.proofs.Sets.{usable_below}
use Rattle.scheme.proofs.PlanBounds.{masks_inside, with_usable, reply_inside}
use Rattle.plan.proofs.Numbers.{refused_ne0}
use Rattle.client.specs.declared.Stage.{Stage}
use Rattle.client.specs.declared.Client.{Client}
use Rattle.client.specs.Client.{stage_of_number, at_stage, Moved, moved}

pub stage_answered : (s : ℕ) → (s ≡ 0 → ⊥) → (s ≡ 1 → ⊥) → stage_of_number s ≡ scheme.answered (s - 2)
unfolding stage_of_number
stage_answered zero z o = absurd (z refl)
stage_answered (suc zero) z o = absurd (o refl)
stage_answered (suc (suc v)) z o = let e : v ≡ suc (suc v) - 2 = omega arith in ap scheme.answered e

module _ (A : Arithmetic) (p : scheme.Plan) (k : ℕ) (u : scheme.Use) (g : scheme.Stage) (ks fs : List ℕ) (out : ℕ)
    (e : message_refusal A p k u g ks fs out ≡ 0) where
  message_tests : (unless (eqb (length ks) (key_length p k) && (eqb (length fs) (places p) && eqb out (places p))) 2 ≡ 0)
      × (unless (elements A ks && elements A fs) 3 ≡ 0)
  unfolding message_refusal
  message_tests =
      let l = then_zero _ _ (then_zero _ _ (then_zero _ _ e).1).1 in
      (l.0, (then_zero _ _ l.1).0)

  message_lengths : (length ks ≡ key_length p k) × (length fs ≡ places p) × (out ≡ places p)
  message_lengths =
      let l = and_both _ _ (unless_zero _ _ message_tests.0) in
      let m = and_both _ _ l.1 in
      (eqb-true _ _ l.0, eqb-true _ _ m.0, eqb-true _ _ m.1)

  pub message_fits : (out ≤ length fs) × (out ≤ length ks)
  message_fits = let l = message_lengths in (omega arith, omega (arith, masks_inside p k))

  pub message_clean : (elements A fs ≡ true) × (elements A ks ≡ true)
  message_clean = let l = and_both _ _ (unless_zero _ _ message_tests.1) in (l.1, l.0)

  pub message_written : each A.add out fs ks ≡ first_message A p ks fs
  unfolding first_message
  message_written = ap (λ (n : ℕ). each A.add n fs ks) message_lengths.2

-- what the tests other than 18, 33 and 19 say of a reply that is taken
pub record Answers (A : Arithmetic) (p : scheme.Plan) (k : ℕ) (ks : List ℕ) (v : ℕ) : Type 0 where
  pub begun : start_refusal p k ≡ 0
  pub long : length ks ≡ key_length p k
  pub clean : elements A ks ≡ true
  pub whole : usable p v ≡ true
  pub member : in_set v k ≡ true

-- tests 33 and 19: the request carries the key's round, and no other set was answered
module _ (A : Arithmetic) (p : scheme.Plan) (k : ℕ) (g : scheme.Stage) (own : ℕ) (ks : List ℕ) (v r : ℕ) (e : reply_refusal A p k g own ks v r ≡ 0) where
  last_tests : (unless (eqb r own) 33 ≡ 0) × (unless (open_to v g) 19 ≡ 0)
  unfolding reply_refusal
  last_tests =
      let c = then_zero _ _ (then_zero _ _ (then_zero _ _ (then_zero _ _ e).1).1).1 in
      then_zero _ _ (then_zero _ _ (then_zero _ _ c.1).1).1

  pub reply_own : r ≡ own
  reply_own = eqb-true _ _ (unless_zero _ _ last_tests.0)

  pub reply_open : open_to v g ≡ true
  reply_open = unless_zero _ _ last_tests.1

module _ {A : Arithmetic} {p : scheme.Plan} {k : ℕ} {ks : List ℕ} {v : ℕ} where
  pub reply_answers : (g : scheme.Stage) (own r : ℕ) → reply_refusal A p k g own ks v r ≡ 0 → Answers A p k ks v
  unfolding reply_refusal
  reply_answers g own r e =
      let s = then_zero _ _ e in
      let l = then_zero _ _ (then_zero _ _ s.1).1 in
      let c = then_zero _ _ l.1 in
      let u = then_zero _ _ c.1 in
      record {
        begun = s.0;
        long = eqb-true _ _ (unless_zero _ _ l.0);
        clean = unless_zero _ _ c.0;
        whole = unless_zero _ _ u.0;
        member = unless_zero _ _ (then_zero _ _ u.1).0;
      }

  pub reply_taken : Answers A p k ks v → (g : scheme.Stage) (own r : ℕ) → is_fresh g ≡ false → r ≡ own → open_to v g ≡ true
      → reply_refusal A p k g own ks v r ≡ 0
  unfolding reply_refusal unless ◌then◌
  reply_taken a g own r f e o = simp (a.begun, f, eq-eqb _ _ a.long, a.clean, a.whole, a.member, eq-eqb _ _ e, o)

  pub answers_held : Answers A p k ks v → usable_with p k v ≡ true
  unfolding usable_with
  answers_held a = and_joined a.whole a.member

-- what a call hands back where its tests have refused it, and where they have taken it
pub refused_moves : {n m : ℕ} → n ≡ m → n ≢ 0 → (c : Client) (g : Stage) → ◌≡◌ {A = Moved} (record { number = n; client = c }) (moved m c g)
refused_moves e h c g = rw (sym e, after_refused {A = Client} h) refl

pub taken_moves : {m : ℕ} → 0 ≡ m → (c : Client) (g : Stage) → ◌≡◌ {A = Moved} (record { number = 0; client = at_stage c g }) (moved m c g)
unfolding after
taken_moves e c g = rw (sym e) refl

-- ---- what the calls' own proofs are found by
pub ruleset tested = (start_taken, then_stops, then_taken, unless_held, unless_failed, figures_elements)

pub ruleset answered = (start_taken, refused_ne0, after_taken, after_refused, refused_moves, taken_moves, message_fits, message_clean, message_written, reply_answers, answers_held, usable_below, with_usable, reply_inside)
