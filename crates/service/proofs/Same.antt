-- On a well-formed state the calls refuse as document 01 does, for the guards never act, and what they leave is what it leaves.
--   plan_same, open_same, first_same, reply_same, close_same     the refusals
--   new_view, planned_view, opened_view, first_view, reply_view, closed_view     the states
-- Assumes nothing.
use Rattle.std.proofs.Common.{◌≡◌, refl, sym, ap, ◌∙◌, true, List, ℕ, ◌<◌, arith, ltb, get_or, lt-ltb}
use mathlib.Core.Option.{Option, none}
use Rattle.scheme.specs.Limits.{most_blocks, most_places, firsts, cells}
use Rattle.scheme.specs.Scheme.{Arithmetic, places, ◌then◌, unless}
use Rattle.scheme.specs.Good.{Good}
use Rattle.scheme.specs.Service.{has_plan, takes, plan_record, open_record, first_record, close_record, reply_record, element_refusal, refusal, planned_state, opened_state, next_state, gathered}
use Rattle.scheme.specs.Service as scheme
use Rattle.scheme.proofs.Good.{good}
use Rattle.scheme.proofs.Refusals.{then_taken, then_zero, then_same, unless_held}
use Rattle.scheme.proofs.Pooling.Held.{state_same}
use Rattle.scheme.proofs.Pooling.Well.{gathers, replies, Fits, fits}
use Rattle.plan.specs.declared.Plan.{Plan}
use Rattle.plan.specs.Plan.{plan_of}
use Rattle.scheme.proofs.PlanBounds.{places_le}
use Rattle.service.specs.declared.Service.{Service}
use Rattle.service.specs.View.{phase_of, stored, slot, put, look, view, Formed}
use Rattle.service.specs.Calls.{nothing_first, nothing_reply, new_service, plan_refusal, planned, open_refusal, opened, first_refusal, reply_refusal, close_refusal, closed}
use Rattle.service.proofs.View.{InRow, look_at, look_nothing, look_put}

-- ---- a place of the array's row: the guard does not act, and what stands there is what is held
module _ (w n : ℕ) (xs : List ℕ) (k i x : ℕ) (a : InRow w k i) where
  taken : unless (takes (stored (get_or xs (slot w k i) 0)) x) 13 ≡ unless (takes (look w xs k i) x) 13
  taken = ap (λ (o : Option ℕ). unless (takes o x) 13) (sym (look_at w xs k i a))

  unguarded : slot w k i < n → (m : ℕ) → (unless (ltb (slot w k i) n) 8 then m) ≡ m
  unguarded h m = then_taken (unless_held (lt-ltb _ _ h) 8) m

-- ---- the refusals
module _ (A : Arithmetic) (s : Service) where
  pub plan_same : (p : Plan) → plan_refusal s.head p ≡ refusal A (plan_record (plan_of p)) (view s)
  unfolding plan_refusal refusal view
  plan_same p = refl

  pub open_same : (r : ℕ) → open_refusal s.head r ≡ refusal A (open_record r) (view s)
  unfolding open_refusal refusal view
  open_same r = refl

  module _ (w : Formed A s) where
    -- what fits a well-formed state has its place in the arrays
    module _ (planned : has_plan (phase_of s.head.phase) ≡ true) (k i x : ℕ) where
      good_plan : Good (plan_of s.head.plan)
      unfolding view
      good_plan = good _ (w.well.good planned)

      first_in : Fits A s.head.plan.users (places (plan_of s.head.plan)) k i x → InRow most_places k i
      first_in f = let g = good_plan in record { low = f.low; high = omega arith; place = omega (arith, places_le _ g) }

      reply_in : Fits A s.head.plan.users s.head.plan.blocks k i x → InRow most_blocks k i
      reply_in f = let g = good_plan in record { low = f.low; high = omega arith; place = omega arith }

    pub first_same : (k i x : ℕ) → first_refusal A s.head s.first k i x ≡ refusal A (first_record k i x) (view s)
    unfolding first_refusal refusal view
    first_same k i x =
        then_same refl (λ g.
        let p = (gathers _ g).0 in
        then_same (ap (λ (n : ℕ). element_refusal A s.head.plan.users n k i x) (w.ready p)) (λ e.
        let a = first_in p k i x (fits A _ _ _ _ _ e) in
        unguarded most_places firsts s.first k i x a (omega arith) _ ∙ taken most_places firsts s.first k i x a))

    pub reply_same : (k b x : ℕ) → reply_refusal A s.head s.reply k b x ≡ refusal A (reply_record k b x) (view s)
    unfolding reply_refusal refusal view
    reply_same k b x =
        then_same refl (λ g. then_same refl (λ e.
        let a = reply_in (replies _ g).0 k b x (fits A _ _ _ _ _ e) in
        unguarded most_blocks cells s.reply k b x a (omega arith) _ ∙ then_same refl (λ v. taken most_blocks cells s.reply k b x a)))

    pub close_same : close_refusal s ≡ refusal A close_record (view s)
    unfolding close_refusal refusal view
    close_same = then_same refl (λ g. then_taken (unless_held (w.well.good (gathers _ g).0) 15) _)

-- ---- the states
first_empty : (k i : ℕ) → look most_places nothing_first k i ≡ none
unfolding nothing_first
first_empty k i = look_nothing most_places firsts k i

reply_empty : (k b : ℕ) → look most_blocks nothing_reply k b ≡ none
unfolding nothing_reply
reply_empty k b = look_nothing most_blocks cells k b

pub new_view : view new_service ≡ scheme.new_state
unfolding view new_service phase_of scheme.new_state
new_view = state_same first_empty reply_empty

module _ (s : Service) where
  pub planned_view : (p : Plan) → view (planned p) ≡ next_state (plan_record (plan_of p)) (view s)
  unfolding view planned phase_of next_state planned_state
  planned_view p = state_same first_empty reply_empty

  pub opened_view : (r : ℕ) → view (opened s.head r) ≡ next_state (open_record r) (view s)
  unfolding view opened phase_of next_state opened_state
  opened_view r = state_same first_empty reply_empty

  pub closed_view : view (closed s (gathered (view s))) ≡ next_state close_record (view s)
  unfolding view closed phase_of next_state
  closed_view = state_same (λ k i. refl) reply_empty

  abbrev pub put_first : (k i x : ℕ) → Service
  put_first k i x = record { head = s.head; first = put most_places s.first k i x; reply = s.reply }

  abbrev pub put_reply : (k b x : ℕ) → Service
  put_reply k b x = record { head = s.head; first = s.first; reply = put most_blocks s.reply k b x }

  module _ (A : Arithmetic) (w : Formed A s) (k i x : ℕ) where
    pub first_view : refusal A (first_record k i x) (view s) ≡ 0 → view (put_first k i x) ≡ next_state (first_record k i x) (view s)
    unfolding refusal view next_state
    first_view e =
        let t = then_zero _ _ e in
        let a = first_in A s w (gathers _ t.0).0 k i x (fits A _ _ _ _ _ (then_zero _ _ t.1).0) in
        state_same (look_put most_places s.first k i x a (omega (arith, w.first_length))) (λ k b. refl)

    pub reply_view : refusal A (reply_record k i x) (view s) ≡ 0 → view (put_reply k i x) ≡ next_state (reply_record k i x) (view s)
    unfolding refusal view next_state
    reply_view e =
        let t = then_zero _ _ e in
        let a = reply_in A s w (replies _ t.0).0 k i x (fits A _ _ _ _ _ (then_zero _ _ t.1).0) in
        state_same (λ k i. refl) (look_put most_blocks s.reply k i x a (omega (arith, w.reply_length)))
