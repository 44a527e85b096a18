-- Finish is the step of document 01's service, and keeps states well-formed, over an arithmetic with its laws.
--   totals_first      a taken finish's first L totals are those of the closed solution
--   totals_padded     behind them its totals are 0
--   finish_same       on a well-formed state the tests of the plan and of the elements never act
--   finish_steps, finish_right, finish_residues, aside_right, aside_residues, refused_unchanged     the statements of specs/Promise.antt
-- Assumes nothing.
use Rattle.std.proofs.Common.{◌≡◌, refl, sym, ap, ◌∙◌, subst, Bool, true, false, ◌&&◌, List, ℕ, zero, suc, arith, take, lt-ltb}
use Rattle.scheme.specs.Limits.{most_users, most_threshold, most_blocks, most_places, firsts, cells}
use Rattle.scheme.specs.Lists.{span, padded, filled}
use Rattle.scheme.specs.Scheme.{Arithmetic, Plan, places, users_in, ◌then◌, unless, after}
use Rattle.scheme.specs.Laws.{Laws, AddsWhole}
use Rattle.scheme.specs.Totals.{totals}
use Rattle.scheme.specs.ServicePromise as promise
use Rattle.scheme.specs.Service.{State, replied, values, totals_by, finish_record, Answer, totalled, refused, refusal, idle_state, next_state, Steps, totals_up, disagrees}
use Rattle.scheme.proofs.Lists.{at_all_of}
use Rattle.scheme.proofs.Padded.{filled_take}
use Rattle.scheme.proofs.Whole.{total_fits, totals_whole}
use Rattle.scheme.proofs.Refusals.{then_taken, then_zero, then_same, then_assoc, unless_held, after_taken}
use Rattle.scheme.proofs.Laws.{laws_of}
use Rattle.scheme.proofs.Pooling.Held.{state_same}
use Rattle.scheme.proofs.Pooling.Well.{replies, finishing}
use Rattle.scheme.proofs.Pooling.Service as service
use Rattle.plan.specs.Plan.{plan_of}
use Rattle.service.specs.declared.Service.{Service}
use Rattle.service.specs.View.{phase_of, view, Formed}
use Rattle.service.specs.Calls.{nothing_first, nothing_reply}
use Rattle.service.specs.Promise.{told, IsStep}
use Rattle.service.proofs.View.{look_nothing}
use Rattle.service.proofs.Steps.{refuse, take as take_step, first_long, reply_long}
use Rattle.finish.specs.Finish.{aside_of, all_elements, is_settled, choice, finish_refusal, finished, finish_answer, finish_step}
use Rattle.finish.specs.Promise.{FinishSteps, FinishRight, FinishResidues, AsideRight, AsideResidues, RefusedUnchanged}
use Rattle.finish.proofs.Seeking.{settled_right, apart_right}
use Rattle.finish.proofs.Answers.{finish_refuses, Passed}

-- where the state is idle nothing is held
finished_view : (s : Service) → view (finished s.head) ≡ idle_state (view s)
unfolding view finished phase_of idle_state nothing_first nothing_reply
finished_view s = state_same (λ k i. look_nothing most_places firsts k i) (λ k b. look_nothing most_blocks cells k b)

told_totalled : (n r k j : ℕ) (l m : List ℕ) → told n (totalled r k l) ≡ totalled r j m → (n ≡ 0) × (k ≡ j) × (l ≡ m)
unfolding told after
told_totalled zero r k j l m e = (refl, cc, cc)
told_totalled (suc n) r k j l m e = let z : ◌≡◌ {A = ℕ} 0 1 = cc in absurd (omega arith)

module _ (A : Arithmetic) (L : Laws A most_users most_threshold) where
  -- whatever the state holds
  module _ (s : Service) (n : ℕ) (e : n ≡ 0) where
    pub totals_first : take (places (plan_of s.head.plan)) (finish_answer A L n s).totals ≡ totals_by A (view s) (choice A L s)
    unfolding finish_answer totals_by totals view filled
    totals_first = ap (take (places (plan_of s.head.plan))) (after_taken e _ _) ∙ filled_take most_places _ (places (plan_of s.head.plan))

    pub totals_padded : let ts = (finish_answer A L n s).totals in ts ≡ padded most_places (take (places (plan_of s.head.plan)) ts)
    unfolding finish_answer
    totals_padded = after_taken e _ _ ∙ ap (padded most_places) (sym totals_first)

  module _ (s : Service) (w : Formed A s) where
    abbrev p : Plan
    p = plan_of s.head.plan

    abbrev r : ℕ
    r = replied (view s)

    abbrev y : (k block : ℕ) → ℕ
    y = values (view s).replies

    elements_held : all_elements A p r y ≡ true
    unfolding all_elements
    elements_held = at_all_of _ (users_in p r) (λ a i. at_all_of _ (span p.blocks 0) (λ b j. lt-ltb _ _ (w.well.replies_small _ _)))

    finish_same : finish_refusal A L s ≡ (refusal A finish_record (view s) then unless (is_settled A L p r y) 16)
    unfolding finish_refusal refusal view
    finish_same =
        then_same refl (λ g. then_taken (unless_held (w.well.good (replies _ g).0) 15) _)
        ∙ sym (then_assoc _ _ _) ∙ ap (λ (b : Bool). refusal A finish_record (view s) then unless (b && is_settled A L p r y) 16) elements_held

    module _ (e : refusal A finish_record (view s) ≡ 0) where
      passed : Passed s
      unfolding view refusal
      passed = let g = (then_zero _ _ e).0 in record { replying = g; good = w.well.good (replies _ g).0; many = (finishing A (view s) e).many }

      taken : is_settled A L p r y ≡ true
          → IsStep A finish_record s (totalled s.head.round (aside_of A L p r y) (totals_by A (view s) (choice A L s))) (finished s.head)
      unfolding finished view phase_of next_state nothing_first nothing_reply choice
      taken h =
          take_step A finish_record s w (finished s.head) _ (record {
            next = finished_view s;
            ready = λ a. w.ready (replies _ passed.replying).0;
            first_length = first_long;
            reply_length = reply_long;
          }) (totals_up (view s) (aside_of A L p r y) (choice A L s) e (settled_right A L p passed.good y r passed.many h))

      left : is_settled A L p r y ≡ false → IsStep A finish_record s (refused 16) s
      unfolding view
      left h = record { step = disagrees (view s) e (apart_right A L p passed.good y r passed.many w.well.replies_small h); formed = w }

    -- the answer goes by the number
    abbrev Answers : (number : ℕ) → Type 0
    Answers n =
        let t = finish_answer A L n s in
        IsStep A finish_record s (told t.number (totalled s.head.round t.aside (take (places p) t.totals))) t.service

    answers : (n : ℕ) (b : Bool) → refusal A finish_record (view s) ≡ n → is_settled A L p r y ≡ b → Answers (n then unless b 16)
    unfolding unless ◌then◌ finish_answer after told
    answers zero true e h = rw (totals_first s 0 refl) (taken e h)
    answers zero false e h = left e h
    answers (suc n) b e h = refuse A finish_record s w (λ z. omega arith) e

  pub finish_steps : FinishSteps A L
  unfolding FinishSteps finish_step
  finish_steps s w = subst (Answers s w) (sym (finish_same s w)) (answers s w _ _ refl refl)

  -- what a promise about the abstract service says of the call
  module _ (s : Service) (w : Formed A s) (k : ℕ) (l : List ℕ)
      (h : (a : Answer) (u : State) → Steps A finish_record (view s) a u → a ≡ totalled s.head.round k l) where
    answered : let t = finish_step A L s in (t.number ≡ 0) × (t.aside ≡ k) × (t.totals ≡ padded most_places l)
    unfolding FinishSteps finish_step finish_answer
    answered =
        let t = told_totalled _ _ _ _ _ _ (h _ _ (finish_steps s w).step) in
        (t.0, t.1, totals_padded s _ t.0 ∙ ap (padded most_places) t.2)

  pub finish_residues : FinishResidues A L
  unfolding FinishResidues promise.FinishResidues view filled
  finish_residues s xs x w e ok rules =
      answered s w _ _ (λ a u. service.finish_residues A (laws_of L) (view s) u a xs x w.well e ok rules)

  pub finish_right : AddsWhole A → FinishRight A L
  unfolding FinishRight FinishResidues filled
  finish_right adds s xs x w e ok ax rules =
      let p = plan_of s.head.plan in
      let v = s.head.survivors in
      let t = finish_residues s xs x w e ok rules in
      (t.0, t.1, t.2 ∙ ap (padded most_places) (totals_whole A p x v ax adds), total_fits A p x v ax)

  pub aside_residues : AsideResidues A L
  unfolding AsideResidues promise.AsideResidues view filled
  aside_residues s xs x z w e ok many o =
      answered s w _ _ (λ a u. service.aside_residues A (laws_of L) (view s) u a xs x z w.well e ok many o)

  pub aside_right : AddsWhole A → AsideRight A L
  unfolding AsideRight AsideResidues filled
  aside_right adds s xs x z w e ok ax many o =
      let p = plan_of s.head.plan in
      let v = s.head.survivors in
      let t = aside_residues s xs x z w e ok many o in
      (t.0, t.1, t.2 ∙ ap (padded most_places) (totals_whole A p x v ax adds), total_fits A p x v ax)

  pub refused_unchanged : RefusedUnchanged A L
  unfolding RefusedUnchanged finish_step finish_answer
  refused_unchanged s h = sym (finish_refuses A L s h refl)
