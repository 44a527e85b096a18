-- That the calls are the steps of document 01's service, and keep states well-formed.
--   new_formed, plan_steps, open_steps, first_steps, reply_steps, close_steps, refused_unchanged, opens_as_new     the statements of specs/Promise.antt
--   refuse, Left, take         a step that is refused, and one that is taken
--   told_after                 an answer tells the new value
--   first_long, reply_long     the lengths of empty arrays
-- Assumes nothing.
use Rattle.std.proofs.Common.{◌≡◌, refl, sym, ◌∙◌, ◌≢◌, true, false, List, ℕ, zero, suc, ◌<◌, arith, length, length-set, lt-ltb, ltb-true}
use lib.ListN.{length-replicate}
use Rattle.scheme.specs.Limits.{firsts, cells}
use Rattle.scheme.specs.Scheme.{Arithmetic, places, ◌then◌, unless, after}
use Rattle.scheme.specs.Service.{has_plan, plan_missing, gathered, Answer, silent, Record, plan_record, open_record, first_record, close_record, reply_record, refusal, next_state, answer_of, is_finish, Steps, accepts}
use Rattle.scheme.specs.Service as scheme
use Rattle.scheme.proofs.Tests.{holds}
use Rattle.scheme.proofs.Refusals.{then_zero, unless_zero, after_refused, after_in}
use Rattle.scheme.proofs.Pooling.Well.{plan_here, gathers, refuses_as, new_well, steps_well}
use Rattle.plan.specs.Plan.{plan_of}
use Rattle.service.specs.declared.Phase.TheVariants.{Gathering}
use Rattle.service.specs.declared.Service.{Service}
use Rattle.service.specs.View.{phase_of, view, Formed}
use Rattle.service.specs.Calls.{nothing_first, nothing_reply, new_service, planned, plan_step, open_refusal, opened, open_step, first_left, first_step, reply_left, reply_step, close_refusal, closed, close_step}
use Rattle.service.specs.Promise.{told, IsStep, NewFormed, PlanSteps, OpenSteps, FirstSteps, ReplySteps, CloseSteps, RefusedUnchanged, OpensAsNew}
use Rattle.service.proofs.Same.{plan_same, open_same, first_same, reply_same, close_same, new_view, planned_view, opened_view, closed_view, put_first, put_reply, first_view, reply_view}

pub told_after : {X : Type 0} (f : X → Answer) (n : ℕ) (new old : X) → told n (f (after n new old)) ≡ told n (f new)
unfolding told after
told_after f zero new old = refl
told_after f (suc n) new old = refl

-- ---- a step from its parts
module _ (A : Arithmetic) (r : Record) (s : Service) (w : Formed A s) where
  pub refuse : {n : ℕ} → n ≢ 0 → refusal A r (view s) ≡ n → IsStep A r s (scheme.refused n) s
  refuse h e = record { step = refuses_as A r (view s) h e; formed = w }

  module _ (t : Service) where
    -- what an accepted record leaves
    pub record Left : Type 0 where
      pub next : view t ≡ next_state r (view s)
      pub ready : has_plan (phase_of t.head.phase) ≡ true → t.head.places ≡ places (plan_of t.head.plan)
      pub first_length : length t.first ≡ firsts
      pub reply_length : length t.reply ≡ cells

    pub take : (a : Answer) → Left → Steps A r (view s) a (next_state r (view s)) → IsStep A r s a t
    take a h e =
        record {
          step = rw h.next e;
          formed = record {
            ready = h.ready;
            first_length = h.first_length;
            reply_length = h.reply_length;
            well = rw h.next (steps_well A r (view s) _ a w.well e);
          };
        }

    steps : (a : Answer) → is_finish r ≡ false → a ≡ answer_of r (view s) → (n : ℕ) {u : Service} → u ≡ after n t s → n ≡ refusal A r (view s) →
        (n ≡ 0 → Left) → IsStep A r s (told n a) u
    unfolding told after
    steps a kind answer zero d e h = rw d (take a (h refl) (rw answer (accepts r (view s) kind (sym e))))
    steps a kind answer (suc n) d e h = rw d (refuse (λ z. omega arith) (sym e))

pub first_long : length nothing_first ≡ firsts
unfolding nothing_first
first_long = length-replicate {A = ℕ} firsts 0

pub reply_long : length nothing_reply ≡ cells
unfolding nothing_reply
reply_long = length-replicate {A = ℕ} cells 0

-- ---- an element that is put, and the state with it
first_after : (s : Service) (n : ℕ) (xs : List ℕ) →
    record { head = s.head; first = after n xs s.first; reply = s.reply } ≡ after n (record { head = s.head; first = xs; reply = s.reply }) s
first_after s n xs = after_in (λ (l : List ℕ). record { head = s.head; first = l; reply = s.reply }) n xs s.first

reply_after : (s : Service) (n : ℕ) (xs : List ℕ) →
    record { head = s.head; first = s.first; reply = after n xs s.reply } ≡ after n (record { head = s.head; first = s.first; reply = xs }) s
reply_after s n xs = after_in (λ (l : List ℕ). record { head = s.head; first = s.first; reply = l }) n xs s.reply

module _ (A : Arithmetic) where
  pub new_formed : 0 < A.size → NewFormed A
  unfolding NewFormed new_service phase_of has_plan
  new_formed some = (
    new_view,
    record { ready = λ e. absurd (holds e); first_length = first_long; reply_length = reply_long; well = rw new_view (new_well A some) },
  )

  pub plan_steps : PlanSteps A
  unfolding PlanSteps plan_step planned is_finish answer_of
  plan_steps s p w =
      steps A (plan_record (plan_of p)) s w (planned p) (scheme.planned (plan_of p)) refl refl _ refl (plan_same A s p) (λ z.
      record { next = planned_view s p; ready = λ e. refl; first_length = first_long; reply_length = reply_long })

  pub open_steps : OpenSteps A
  unfolding OpenSteps open_step open_refusal opened is_finish answer_of
  open_steps s r w =
      steps A (open_record r) s w (opened s.head r) (scheme.opened r) refl refl _ refl (open_same A s r) (λ z. record {
        next = opened_view s r;
        ready = λ e. w.ready (plan_here _ (then_zero _ _ z).0);
        first_length = first_long;
        reply_length = reply_long;
      })

  pub first_steps : FirstSteps A
  unfolding FirstSteps first_step first_left is_finish answer_of
  first_steps s k i x w =
      let e = first_same A s w k i x in
      steps A (first_record k i x) s w (put_first s k i x) silent refl refl _ (first_after s _ _) e (λ z. record {
        next = first_view s A w k i x (sym e ∙ z);
        ready = w.ready;
        first_length = simp length-set w.first_length;
        reply_length = w.reply_length;
      })

  pub reply_steps : ReplySteps A
  unfolding ReplySteps reply_step reply_left is_finish answer_of
  reply_steps s k b x w =
      let e = reply_same A s w k b x in
      steps A (reply_record k b x) s w (put_reply s k b x) silent refl refl _ (reply_after s _ _) e (λ z. record {
        next = reply_view s A w k b x (sym e ∙ z);
        ready = w.ready;
        first_length = w.first_length;
        reply_length = simp length-set w.reply_length;
      })

  pub close_steps : CloseSteps A
  unfolding CloseSteps close_step close_refusal closed view is_finish answer_of
  close_steps s w =
      rw (told_after (scheme.closed s.head.round) _ _ 0)
      (steps A close_record s w (closed s (gathered (view s))) (scheme.closed s.head.round (gathered (view s))) refl refl _ refl (close_same A s w) (λ z.
      record {
        next = closed_view s;
        ready = λ p. w.ready (gathers _ (then_zero _ _ z).0).0;
        first_length = w.first_length;
        reply_length = reply_long;
      }))

  pub opens_as_new : OpensAsNew A
  unfolding OpensAsNew open_step open_refusal plan_missing opened planned after phase_of has_plan unless ◌then◌
  opens_as_new s r w e =
      let p = then_zero (plan_missing (phase_of s.head.phase)) _ e in
      let ready = w.ready (plan_here (phase_of s.head.phase) p.0) in
      let l : 0 < r = omega (arith, ltb-true s.head.round r (unless_zero _ _ p.1)) in
      rw (e, lt-ltb 0 r l) (λ t. record {
        number = 0;
        service = record {
          head = record { phase = Gathering; plan = s.head.plan; places = ready t; round = r; survivors = 0 };
          first = nothing_first;
          reply = nothing_reply;
        };
      })

  pub refused_unchanged : (s : Service) → RefusedUnchanged A s
  unfolding plan_step open_step first_step first_left reply_step reply_left close_step
  refused_unchanged s =
      record {
        plan = λ p h. after_refused h (planned p) s;
        «open» = λ r h. after_refused h (opened s.head r) s;
        first = λ k i x h. first_after s _ _ ∙ after_refused h (put_first s k i x) s;
        close = λ h. (after_refused h (gathered (view s)) 0, after_refused h (closed s (gathered (view s))) s);
        reply = λ k b x h. reply_after s _ _ ∙ after_refused h (put_reply s k b x) s;
      }
