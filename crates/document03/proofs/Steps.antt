-- Our steps beside document 03's.
--   line_same, changed_same  the answer to an accepted record, and the state that it leads to
--   finish_good              the plan is good where a finish passes
--   steps_same               for a step of document 03, ours has the step that belongs beside it
--   steps_ours               a step of ours, from a state that stands for one of document 03's, belongs beside a step there
-- Assumes nothing.
use Rattle.std.proofs.Common.{◌≡◌, refl, sym, ap, ap₂, ◌∙◌, subst, ◌≢◌, ⊎_elim, Bool, true, false, not, cond, List, ℕ, zero, suc, ◌+◌, arith, eqb-true}
use borrow.Author.Tests.{not-true}
use Rattle.scheme.specs.Scheme.{sixteen, ones}
use Rattle.scheme.specs.Good.{Good}
use Rattle.scheme.specs.Aside.{all_agree, one_aside}
use Rattle.scheme.specs.Service.{replying, State, nothing, replied, Record, finish_record, Answer, silent, closed, totalled, refused, refusal, planned_state, opened_state, idle_state, next_state, answer_of, is_finish, values, settled_by, apart_in, totals_by, Steps, refuses, accepts, totals_up, disagrees}
use Rattle.scheme.specs.ServicePromise.{SixteenExactly}
use Rattle.scheme.proofs.Tests.{and_false}
use Rattle.scheme.proofs.Good.{good, good_back}
use Rattle.scheme.proofs.Pooling.Well.{finishing, refuses_as, answer_not_refused}
use Rattle.scheme.proofs.Pooling.Service.{sixteen_exactly}
use Rattle.scheme.proofs.Pooling.Aside.{ended}
use Rattle.scheme.proofs.Modular.{sixteen_laws}
use Rattle.document03.specs.Ours.{our_plan, our_phase, our_held, our_state, our_record, repeats, answer_in, Fits, Beside, same, apart, aside}
use Rattle.document03.specs.Service as S
use Rattle.document03.specs.Conform.{Sound, Small, Met, StepsSame, Stepped, StepsOurs}
use Rattle.document03.proofs.Sets.{plan_good_same}
use Rattle.document03.proofs.State.{held_value_same, gathered_same, replying_same, quieted, refusal_same, taken_same}
use Rattle.document03.proofs.Repeats.{repeat_same, Compared, alike, repeated, compared}
use Rattle.document03.proofs.Explains.{explained_in, explained_same, totals_same}
use Rattle.document03.proofs.Fits.{fits_ours, fits_back}
use Rattle.document03.proofs.Answers.{finish_same}

-- ---- accepted records
pub line_same : (r : S.Record) (s : S.State) → answer_in r s (S.line_of r s) ≡ answer_of (our_record r) (our_state s)
unfolding S.line_of S.closed answer_in answer_of our_record
line_same (S.a_plan p) s = refl
line_same (S.open_round r) s = refl
line_same (S.first_element k i x) s = refl
line_same S.close_round s = ap (closed s.round) (gathered_same s)
line_same (S.reply_element k b x) s = refl
line_same S.finish_round s = refl

pub changed_same : (r : S.Record) (s : S.State) → our_state (S.changed r s) ≡ next_state (our_record r) (our_state s)
unfolding S.changed S.planned S.gathered S.with_first S.closed S.with_reply S.idle_again our_record our_phase our_held next_state
    planned_state opened_state idle_state
changed_same (S.a_plan p) s = refl
changed_same (S.open_round r) s = refl
changed_same (S.first_element k i x) s = refl
changed_same S.close_round s =
    ap
    (λ (v : ℕ). record { phase = replying; plan = our_plan s.plan_of; round = s.round; survivors = v; firsts = our_held s.firsts; replies = nothing })
    (gathered_same s)
changed_same (S.reply_element k b x) s = refl
changed_same S.finish_round s = refl

quick_same : (r : S.Record) → S.quick r ≡ not (is_finish (our_record r))
unfolding S.quick is_finish our_record
quick_same (S.a_plan p) = refl
quick_same (S.open_round r) = refl
quick_same (S.first_element k i x) = refl
quick_same S.close_round = refl
quick_same (S.reply_element k b x) = refl
quick_same S.finish_round = refl

-- ---- finish
pub finish_good : (s : S.State) → Sound s → S.finish_refusal s ≡ 0 → Good (our_plan s.plan_of)
finish_good s h e =
    let replies : s.phase ≡ 3 = eqb-true s.phase 3 (replying_same s.phase ∙ (finishing sixteen (our_state s) (finish_same s e)).replying) in
    good (our_plan s.plan_of) (sym (plan_good_same s.plan_of) ∙ h (λ z. omega arith))

finish_back : (s : S.State) → refusal sixteen finish_record (our_state s) ≡ 0 → S.finish_refusal s ≡ 0
unfolding S.record_refusal our_record repeats quieted
finish_back s e = refusal_same S.finish_round s ∙ e

-- ---- lines other than 16
sixteen_in : (r : S.Record) (s : S.State) → answer_in r s (S.refused 16) ≡ refused 16
unfolding answer_in
sixteen_in r s = ap (λ (b : Bool). cond b silent (refused 16)) (and_false (repeats r s))

line_not_sixteen : (r : S.Record) (s : S.State) → S.line_of r s ≢ S.refused 16
line_not_sixteen r s e = answer_not_refused (our_record r) (our_state s) 16 (sym (line_same r s) ∙ ap (answer_in r s) e ∙ sixteen_in r s)

turned_not_sixteen : (r : S.Record) (s : S.State) (n : ℕ) → Compared r s n → S.refused n ≢ S.refused 16
unfolding SixteenExactly
turned_not_sixteen r s n (alike a e) d =
    let o = our_record r in
    let u = our_state s in
    let c = (sixteen_exactly sixteen o u u).0 (refuses_as sixteen o u (λ z. omega arith) (e ∙ cc)) in
    let z : refusal sixteen o u ≡ 0 = ap (λ (o : Record). refusal sixteen o u) c.finish ∙ c.enough in
    let w : n ≡ 16 = cc in
    omega arith
turned_not_sixteen r s n (repeated a e h) d = let z : ◌≡◌ {A = ℕ} 0 1 = cc (a, ap (answer_in r s) d, sixteen_in r s) in absurd (omega arith)

total_not_sixteen : (n : ℕ) (l : List ℕ) → S.told_total n l ≢ S.refused 16
total_not_sixteen n l e = let z : ◌≡◌ {A = ℕ} 0 1 = cc in omega arith

module _ {r : S.Record} {s t : S.State} {l : S.Line} (ne : l ≢ S.refused 16) where
  met : Steps sixteen (our_record r) (our_state s) (answer_in r s l) (our_state t) → Met r s l t
  met h = record { answer = answer_in r s l; state = t; beside = same r l t ne; step = h }

  stepped : {a : Answer} {u : State} → S.Steps r s l t → answer_in r s l ≡ a → our_state t ≡ u → Stepped r s a u
  stepped h e d = record { line = l; state = t; step = h; ours = t; beside = subst (λ (a : Answer). Beside s r l t a t) e (same r l t ne); leads = d }

-- ---- a finish that passes its tests
module _ (s : S.State) (h : Sound s) (e : S.finish_refusal s ≡ 0) where
  g : Good (our_plan s.plan_of)
  g = finish_good s h e

  explained : (f : ℕ → List ℕ) → S.all_explain s.plan_of.m 0 s f ≡ explained_in s (replied (our_state s)) f
  explained = explained_same s g

  none_fits : apart_in sixteen (our_state s) → (k : ℕ) (f : ℕ → List ℕ) → Fits s k f → ⊥
  none_fits a k f w =
      let o = fits_ours s g k f w in
      ⊎_elim (λ (d : ones s.plan_of.k (replied (our_state s)) ≡ s.plan_of.u + 1). omega (arith, o.0)) (λ n. n k f o.1) a.no_aside

  settled_met : ((f : ℕ → List ℕ) → S.all_explain s.plan_of.m 0 s f ≡ true → ⊥)
      → (k : ℕ) (f : ℕ → List ℕ) → settled_by sixteen (our_state s) k f → Met S.finish_round s (S.refused 16) s
  unfolding our_record our_phase our_held S.idle_again idle_state
  settled_met none _ _ (all_agree f a) = absurd (none f (explained f ∙ a))
  settled_met none _ _ (one_aside k f many n a) =
      record {
        answer = totalled s.round k (S.totals s f);
        state = S.idle_again s;
        beside = aside k f (fits_back s g k f many a);
        step = rw (totals_same s g f _ a.others) (totals_up (our_state s) k f (finish_same s e) (one_aside k f many n a));
      }

  unexplained_met : Small s → ((f : ℕ → List ℕ) → S.all_explain s.plan_of.m 0 s f ≡ true → ⊥) → Met S.finish_round s (S.refused 16) s
  unfolding our_record
  unexplained_met small none =
      let p = our_plan s.plan_of in
      ⊎_elim (λ c. settled_met none c.aside c.choice c.settles)
      (λ a. record { answer = refused 16; state = s; beside = apart (none_fits a); step = disagrees (our_state s) (finish_same s e) a })
      (ended sixteen p (sixteen_laws p (good_back p g)) (values (our_held s.replies)) (λ k b. rw (← held_value_same k b s.replies) (small k b))
      (replied (our_state s)) (finishing sixteen (our_state s) (finish_same s e)).many)

  settled_ours : (k : ℕ) (f : ℕ → List ℕ) → settled_by sixteen (our_state s) k f
      → Stepped S.finish_round s (totalled s.round k (totals_by sixteen (our_state s) f)) (idle_state (our_state s))
  unfolding answer_in our_phase our_held S.idle_again idle_state
  settled_ours _ _ (all_agree f a) =
      stepped (total_not_sixteen _ _) (S.summed s f e (explained f ∙ a)) (ap (totalled s.round 0) (totals_same s g f _ a)) refl
  settled_ours _ _ (one_aside k f many n a) =
      record {
        line = S.refused 16;
        state = s;
        step = S.unexplained s e (λ f c. n f (sym (explained f) ∙ c));
        ours = S.idle_again s;
        beside = rw (← totals_same s g f _ a.others) (aside k f (fits_back s g k f many a));
        leads = refl;
      }

  apart_ours : apart_in sixteen (our_state s) → Stepped S.finish_round s (refused 16) (our_state s)
  apart_ours a =
      record {
        line = S.refused 16;
        state = s;
        step = S.unexplained s e (λ f c. a.no_choice f (sym (explained f) ∙ c));
        ours = s;
        beside = apart (none_fits a);
        leads = refl;
      }

-- ---- ours beside document 03's
turned_same : (r : S.Record) (s : S.State) (n : ℕ) → Compared r s (suc n)
    → Steps sixteen (our_record r) (our_state s) (answer_in r s (S.refused (suc n))) (our_state s)
turned_same r s n (alike a e) = rw a (refuses_as sixteen (our_record r) (our_state s) (λ z. omega arith) e)
turned_same r s n (repeated a e h) =
    let o = our_record r in
    let u = our_state s in
    let q = repeat_same r s h in
    rw (a ∙ sym q.1) (subst (Steps sixteen o u (answer_of o u)) q.2 (accepts o u q.0 e))

pub steps_same : StepsSame
unfolding StepsSame our_record answer_in our_phase our_held S.idle_again idle_state
steps_same _ _ _ _ h small (S.turned_away r s n e) = let c = compared r s (suc n) e in met (turned_not_sixteen r s _ c) (turned_same r s n c)
steps_same _ _ _ _ h small (S.taken r s quick e) =
    met (line_not_sixteen r s)
    (rw (line_same r s, changed_same r s) (accepts (our_record r) (our_state s) (not-true _ (sym (quick_same r) ∙ quick)) (taken_same r s e)))
steps_same _ _ _ _ h small (S.summed s f e d) =
    let a = sym (explained s h e f) ∙ d in
    met (total_not_sixteen _ _) (rw (totals_same s (g s h e) f _ a) (totals_up (our_state s) 0 f (finish_same s e) (all_agree f a)))
steps_same _ _ _ _ h small (S.unexplained s e d) = unexplained_met s h e small d

-- ---- document 03's beside ours
finish_only : (r : S.Record) → our_record r ≡ finish_record → r ≡ S.finish_round
unfolding our_record
finish_only (S.a_plan p) e = cc
finish_only (S.open_round r) e = cc
finish_only (S.first_element k i x) e = cc
finish_only S.close_round e = cc
finish_only (S.reply_element k b x) e = cc
finish_only S.finish_round e = refl

-- where ours refuses, document 03 refuses by the same number; where ours takes the record, document 03 does too, or the record repeats
module _ (r : S.Record) (s : S.State) where
  turned_ours : (n : ℕ) → S.record_refusal r s ≡ n → Compared r s n → refusal sixteen (our_record r) (our_state s) ≢ 0
      → Stepped r s (refused (refusal sixteen (our_record r) (our_state s))) (our_state s)
  turned_ours n e (repeated a o h) w = absurd (w o)
  turned_ours zero e (alike a o) w = absurd (w o)
  turned_ours (suc n) e (alike a o) w = stepped (turned_not_sixteen r s _ (alike a o)) (S.turned_away r s n e) (a ∙ ap refused (sym o)) refl

  taken_ours : (n : ℕ) → S.record_refusal r s ≡ n → Compared r s n → is_finish (our_record r) ≡ false → refusal sixteen (our_record r) (our_state s) ≡ 0
      → Stepped r s (answer_of (our_record r) (our_state s)) (next_state (our_record r) (our_state s))
  taken_ours zero e v f z = stepped (line_not_sixteen r s) (S.taken r s (quick_same r ∙ ap not f) e) (line_same r s) (changed_same r s)
  taken_ours (suc n) e (alike a o) f z = absurd (omega arith)
  taken_ours (suc n) e (repeated a o h) f z =
      let q = repeat_same r s h in
      stepped (turned_not_sixteen r s _ (repeated a o h)) (S.turned_away r s n e) (a ∙ sym q.1) (sym q.2)

pub steps_ours : StepsOurs
unfolding StepsOurs
steps_ours r s a t h st = go (our_record r) (our_state s) a t refl refl st
  where
    there : Compared r s (S.record_refusal r s)
    there = compared r s _ refl

    as_ours : {a b : Answer} {t u : State} → Stepped r s a t → a ≡ b → t ≡ u → Stepped r s b u
    as_ours p e d = rw (sym e, sym d) p

    finish_ours : {a : Answer} {t : State} → our_record r ≡ finish_record → Stepped S.finish_round s a t → Stepped r s a t
    finish_ours d p = rw (finish_only r d) p

    go : (o : Record) (u : State) (a : Answer) (t : State) → our_record r ≡ o → our_state s ≡ u → Steps sixteen o u a t → Stepped r s a t
    go _ _ _ _ d c (refuses o u e) =
        let same = ap₂ (refusal sixteen) d c in
        as_ours (turned_ours r s _ refl there (λ z. e (sym same ∙ z))) (ap refused same) c
    go _ _ _ _ d c (accepts o u f e) =
        as_ours (taken_ours r s _ refl there (ap is_finish d ∙ f) (ap₂ (refusal sixteen) d c ∙ e)) (ap₂ answer_of d c) (ap₂ next_state d c)
    go _ _ _ _ d c (totals_up u k f e w) =
        finish_ours d (subst (λ (u : State). refusal sixteen finish_record u ≡ 0 → settled_by sixteen u k f
        → Stepped S.finish_round s (totalled u.round k (totals_by sixteen u f)) (idle_state u)) c (λ e. settled_ours s h (finish_back s e) k f) e w)
    go _ _ _ _ d c (disagrees u e w) =
        finish_ours d (subst (λ (u : State). refusal sixteen finish_record u ≡ 0 → apart_in sixteen u
        → Stepped S.finish_round s (refused 16) u) c (λ e. apart_ours s h (finish_back s e)) e w)
