-- The pooling service keeps its promises, over an arithmetic that has the laws at every good plan.
--   refused_unchanged, as_new                    a refused record changes nothing; a round begins as that of a new service
--   sixteen_exactly, never_sixteen               when 16 is answered
--   one_answer, one_run, always_answers          each record has one answer, and each list of them one run
--   finish_right, finish_residues                a finish of replies by the rules has the total
--   aside_right, aside_residues                  so has one with a false reply among U + 2 or more, which is set aside
--   demand_2                                     THE SECOND DEMAND
-- Assumes nothing.
use mathlib.Core.Path.{◌≡◌, refl, sym, ap, ap₂, ◌∙◌, subst}
use mathlib.Core.Logic.{◌≢◌, ⊎_elim}
use mathlib.Core.Bool.{true}
use mathlib.Core.List.{List, ◌∷◌, map}
use Prim.Native.Nat.{ℕ, zero, suc, ◌+◌, ◌<◌}
use native.Mathlib.Omega.{arith}
use borrow.Author.Tests.{lt-ltb, ltb-true}
use Rattle.scheme.specs.Lists.{span}
use Rattle.scheme.specs.Scheme.{Arithmetic, sixteen, Plan, plan_good, places, ones, usable, total_at}
use Rattle.scheme.specs.Totals.{SomeChoice, RulesExplain, ResiduesRight}
use Rattle.scheme.specs.Aside.{Settles, all_agree, one_aside, Apart, OneSettled, SettledResidues, NeverApart}
use Rattle.scheme.specs.Service.{has_plan, plan_missing, second_plan, not_gathering, not_replying, State, replied, Record, plan_record, open_record, first_record, close_record, reply_record, finish_record, Answer, opened, totalled, refused, element_refusal, refusal, planned_state, opened_state, next_state, answer_of, is_finish, values, settled_by, totals_by, Steps, refuses, accepts, totals_up, disagrees, Runs, done, more, Well}
use Rattle.scheme.specs.ServicePromise.{OneAnswer, OneRun, Answered, AlwaysAnswers, RefusedUnchanged, AsNew, FinishRight, FinishResidues, named_in, AsideRight, AsideResidues, Unexplained, SixteenExactly, NeverSixteen, Demand2}
use Rattle.scheme.specs.Laws.{Laws, AddsWhole}
use Rattle.scheme.proofs.Tests.{holds}
use Rattle.scheme.proofs.Refusals.{then_taken, then_zero, then_not, unless_held, unless_zero, test_not}
use Rattle.scheme.proofs.Pooling.Well.{answer_not_refused, finishing, steps_well, stays_well}
use Rattle.scheme.proofs.Pooling.Repeats.{thirteen_exactly, repeat_silent, repeats_quiet, twice_repeats}
use Rattle.scheme.proofs.Pooling.Choices.{totals_same}
use Rattle.scheme.proofs.Pooling.Aside.{at_most_one, one_settled, ended, settled_residues, never_apart}
use Rattle.scheme.proofs.Modular.{sixteen_laws}
use Rattle.scheme.proofs.Signed.{sixteen_whole}
use Rattle.scheme.proofs.Whole.{total_fits, totals_whole, signed_read}
use Rattle.scheme.proofs.Pooling.Totals.{some_choice, rules_explain, residues_right}

-- only finish is refused 16, and not by its tests
module _ (A : Arithmetic) where
  not_sixteen : (r : Record) (s : State) → refusal A r s ≢ 16
  unfolding refusal plan_missing second_plan not_gathering not_replying element_refusal
  not_sixteen (plan_record p) s = then_not (test_not _ 11 refl) (test_not _ 1 refl)
  not_sixteen (open_record r) s = then_not (test_not _ 11 refl) (test_not _ 17 refl)
  not_sixteen (first_record k i x) s = then_not (then_not (test_not _ 11 refl) (test_not _ 12 refl))
      (then_not (then_not (test_not _ 4 refl) (then_not (test_not _ 8 refl) (test_not _ 3 refl))) (test_not _ 13 refl))
  not_sixteen close_record s = then_not (then_not (test_not _ 11 refl) (test_not _ 12 refl)) (test_not _ 15 refl)
  not_sixteen (reply_record k b x) s = then_not (then_not (test_not _ 11 refl) (test_not _ 12 refl))
      (then_not (then_not (test_not _ 4 refl) (then_not (test_not _ 8 refl) (test_not _ 3 refl))) (then_not (test_not _ 14 refl) (test_not _ 13 refl)))
  not_sixteen finish_record s = then_not (then_not (test_not _ 11 refl) (test_not _ 12 refl)) (test_not _ 15 refl)

  refused_step : (r : Record) (s t : State) (a : Answer) (n : ℕ) → a ≡ refused n → Steps A r s a t → t ≡ s
  refused_step _ _ _ _ n d (refuses r s e) = refl
  refused_step _ _ _ _ n d (accepts r s f e) = absurd (answer_not_refused r s n d)
  refused_step _ _ _ _ n d (totals_up s k f e h) = let z : ◌≡◌ {A = ℕ} 0 1 = cc in absurd (omega arith)
  refused_step _ _ _ _ n d (disagrees s e h) = refl

  pub refused_unchanged : RefusedUnchanged A
  unfolding RefusedUnchanged
  refused_unchanged r s t n h = refused_step r s t (refused n) n refl h

  opened_step : (r : ℕ) (s t : State) (a : Answer) → a ≡ opened r → Steps A (open_record r) s a t
      → (refusal A (open_record r) s ≡ 0) × (t ≡ opened_state r s)
  unfolding next_state
  opened_step r s t a d (refuses _ _ e) = let z : ◌≡◌ {A = ℕ} 0 1 = cc in absurd (omega arith)
  opened_step r s t a d (accepts _ _ f e) = (e, refl)

  opens_as_new : (r : ℕ) (s : State) → refusal A (open_record r) s ≡ 0 → refusal A (open_record r) (planned_state s.plan) ≡ 0
  unfolding refusal plan_missing planned_state has_plan
  opens_as_new r s e =
      let late : s.round < r = ltb-true _ _ (unless_zero _ _ (then_zero _ _ e).1) in
      then_taken (unless_held refl 11) _ ∙ unless_held (lt-ltb 0 r (omega arith)) 17

  pub as_new : AsNew A
  unfolding AsNew planned_state opened_state next_state answer_of is_finish
  as_new r rs s t l (more _ _ _ u _ _ _ h rest) =
      let o = opened_step r s u (opened r) refl h in
      more (open_record r) rs (planned_state s.plan) (opened_state r s) t (opened r) l
      (accepts (open_record r) (planned_state s.plan) refl (opens_as_new r s o.0)) (subst (λ (u : State). Runs A rs u l t) o.1 rest)

  sixteen_step : (r : Record) (s t : State) (a : Answer) → a ≡ refused 16 → Steps A r s a t → Unexplained A r s t
  sixteen_step _ _ _ _ d (refuses r s e) = absurd (not_sixteen r s cc)
  sixteen_step _ _ _ _ d (accepts r s f e) = absurd (answer_not_refused r s 16 d)
  sixteen_step _ _ _ _ d (totals_up s k f e h) = let z : ◌≡◌ {A = ℕ} 0 1 = cc in absurd (omega arith)
  sixteen_step _ _ _ _ d (disagrees s e h) = record { finish = refl; unchanged = refl; enough = e; apart = h }

  pub sixteen_exactly : SixteenExactly A
  unfolding SixteenExactly
  sixteen_exactly r s t = (sixteen_step r s t (refused 16) refl, λ u. rw (u.finish, u.unchanged) (disagrees s u.enough u.apart))

  answered : (r : Record) (s t : State) (a : Answer) → Well A s → Steps A r s a t → Answered A r s
  answered r s t a w h = record { answer = a; state = t; step = h; well = steps_well A r s t a w h }

  module _ (laws : (p : Plan) → plan_good p ≡ true → Laws A p.users p.threshold) where
    -- the laws at the plan of a state that may finish
    laws_here : (s : State) → Well A s → refusal A finish_record s ≡ 0 → Laws A s.plan.users s.plan.threshold
    laws_here s w e = laws s.plan (w.good (finishing A s e).planned)

    one_total : (s : State) (k l : ℕ) (f g : (block : ℕ) → List ℕ) → Well A s → refusal A finish_record s ≡ 0
        → settled_by A s k f → settled_by A s l g → totalled s.round k (totals_by A s f) ≡ totalled s.round l (totals_by A s g)
    unfolding totals_by OneSettled
    one_total s k l f g w e h c =
        let one = one_settled A s.plan (laws_here s w e) (replied s) (values s.replies) k l f g (finishing A s e).many h c in
        ap₂ (totalled s.round) one.0 (totals_same A s.plan (values s.replies) s.survivors (values s.firsts) f g one.1)

    -- what settles replies leaves them not apart
    not_both : (A : Arithmetic) (p : Plan) (r : ℕ) (y : (k block : ℕ) → ℕ) (k : ℕ) (f : (block : ℕ) → List ℕ) → Settles A p r y k f → Apart A p r y → ⊥
    not_both A p r y _ _ (all_agree f h) c = c.no_choice f h
    not_both A p r y _ _ (one_aside k f many none a) c =
        ⊎_elim (λ (e : ones p.users r ≡ p.threshold + 1). omega arith) (λ g. g k f a) c.no_aside

    pub one_answer : OneAnswer A
    unfolding OneAnswer is_finish
    one_answer _ _ _ _ _ _ w (refuses r s e) (refuses _ _ d) = (refl, refl)
    one_answer _ _ _ _ _ _ w (refuses r s e) (accepts _ _ f d) = absurd (e d)
    one_answer _ _ _ _ _ _ w (refuses r s e) (totals_up _ k f d h) = absurd (e d)
    one_answer _ _ _ _ _ _ w (refuses r s e) (disagrees _ d h) = absurd (e d)
    one_answer _ _ _ _ _ _ w (accepts r s f e) (refuses _ _ d) = absurd (d e)
    one_answer _ _ _ _ _ _ w (accepts r s f e) (accepts _ _ g d) = (refl, refl)
    one_answer _ _ _ _ _ _ w (accepts r s f e) (totals_up _ k g d h) = absurd (holds (sym f))
    one_answer _ _ _ _ _ _ w (accepts r s f e) (disagrees _ d h) = absurd (holds (sym f))
    one_answer _ _ _ _ _ _ w (totals_up s k f e h) (refuses _ _ d) = absurd (d e)
    one_answer _ _ _ _ _ _ w (totals_up s k f e h) (accepts _ _ g d) = absurd (holds (sym g))
    one_answer _ _ _ _ _ _ w (totals_up s k f e h) (totals_up _ l g d c) = (one_total s k l f g w e h c, refl)
    one_answer _ _ _ _ _ _ w (totals_up s k f e h) (disagrees _ d c) = absurd (not_both A _ _ _ k f h c)
    one_answer _ _ _ _ _ _ w (disagrees s e h) (refuses _ _ d) = absurd (d e)
    one_answer _ _ _ _ _ _ w (disagrees s e h) (accepts _ _ g d) = absurd (holds (sym g))
    one_answer _ _ _ _ _ _ w (disagrees s e h) (totals_up _ k f d c) = absurd (not_both A _ _ _ k f c h)
    one_answer _ _ _ _ _ _ w (disagrees s e h) (disagrees _ d l) = (refl, refl)

    pub one_run : OneRun A
    unfolding OneRun OneAnswer
    one_run _ _ _ _ _ _ w (done s) (done _) = (refl, refl)
    one_run _ _ _ _ _ _ w (more r rs s t u a l h rest) (more _ _ _ t' v b m h' rest') =
        let e = one_answer r s t t' a b w h h' in
        let n = one_run rs t u v l m (steps_well A r s t a w h) rest (subst (λ (t : State). Runs A rs t m v) (sym e.1) rest') in
        (ap₂ ◌∷◌ e.0 n.0, n.1)

    finished : (s : State) → Well A s → refusal A finish_record s ≡ 0 → Answered A finish_record s
    finished s w e = ⊎_elim (λ c. answered _ s _ _ w (totals_up s c.aside c.choice e c.settles)) (λ h. answered _ s _ _ w (disagrees s e h))
        (ended A s.plan (laws_here s w e) (values s.replies) w.replies_small (replied s) (finishing A s e).many)

    pub always_answers : AlwaysAnswers A
    unfolding AlwaysAnswers is_finish
    always_answers r s w = elim (refusal A r s) as (λ n. refusal A r s ≡ n → Answered A r s)
        [ zero ↦ taken r | suc n ↦ λ e. answered r s s _ w (refuses r s (λ z. omega arith)) ] refl
      where
        taken : (r : Record) → refusal A r s ≡ 0 → Answered A r s
        taken (plan_record p) e = answered _ s _ _ w (accepts (plan_record p) s refl e)
        taken (open_record n) e = answered _ s _ _ w (accepts (open_record n) s refl e)
        taken (first_record k i x) e = answered _ s _ _ w (accepts (first_record k i x) s refl e)
        taken close_record e = answered _ s _ _ w (accepts close_record s refl e)
        taken (reply_record k b x) e = answered _ s _ _ w (accepts (reply_record k b x) s refl e)
        taken finish_record e = finished s w e

    pub finish_residues : FinishResidues A
    unfolding FinishResidues RulesExplain ResiduesRight OneAnswer totals_by
    finish_residues s t a xs x w e ok rules h =
        let g = finishing A s e in
        let L = laws_here s w e in
        let u = w.survive g.replying in
        let c = rules_explain A s.plan L xs x s.survivors (replied s) _ _ ok u rules in
        (one_answer finish_record s t _ a _ w h (totals_up s 0 c.choice e (all_agree c.choice c.right))).0
        ∙ ap (totalled s.round 0) (residues_right A s.plan L xs x s.survivors (replied s) _ _ c.choice ok u g.many rules c.right)

    pub finish_right : AddsWhole A → FinishRight A
    unfolding FinishRight FinishResidues
    finish_right adds s t a xs x w e ok ax rules h = (
      finish_residues s t a xs x w e ok rules h ∙ ap (totalled s.round 0) (totals_whole A s.plan x s.survivors ax adds),
      total_fits A s.plan x s.survivors ax,
    )

    pub aside_residues : AsideResidues A
    unfolding AsideResidues SettledResidues NeverApart totals_by is_finish
    aside_residues s t a xs x z w e ok many o h = told t a h
      where
        usable_here : usable s.plan s.survivors ≡ true
        usable_here = w.survive (finishing A s e).replying

        told : (t : State) (a : Answer) → Steps A finish_record s a t
            → a ≡ totalled s.round (named_in A s xs z) (map (total_at A s.plan x s.survivors) (span (places s.plan) 0))
        told _ _ (refuses _ _ d) = absurd (d e)
        told _ _ (accepts _ _ f d) = absurd (holds (sym f))
        told _ _ (totals_up _ k f d h) =
            let c = settled_residues A s.plan (laws_here s w e) xs x s.survivors (replied s) z _ _ k f ok usable_here many o h in
            ap₂ (totalled s.round) c.0 c.1
        told _ _ (disagrees _ d h) = absurd (never_apart A s.plan (laws_here s w e) xs x s.survivors (replied s) z _ _ ok usable_here many o h)

    pub aside_right : AddsWhole A → AsideRight A
    unfolding AsideRight AsideResidues
    aside_right adds s t a xs x z w e ok ax many o h = (
      aside_residues s t a xs x z w e ok many o h ∙ ap (totalled s.round (named_in A s xs z)) (totals_whole A s.plan x s.survivors ax adds),
      total_fits A s.plan x s.survivors ax,
    )

    pub never_sixteen : NeverSixteen A
    unfolding NeverSixteen SomeChoice
    never_sixteen r s t w few h =
        let u = sixteen_step r s t (refused 16) refl h in
        let c = some_choice A s.plan (laws_here s w u.enough) (replied s) (values s.replies) (sym few) w.replies_small in
        u.apart.no_choice c.choice c.right

-- THE SECOND DEMAND
pub demand_2 : Demand2
demand_2 = record {
  stays_well = stays_well sixteen (omega arith);
  one_answer = one_answer sixteen sixteen_laws;
  one_run = one_run sixteen sixteen_laws;
  always_answers = always_answers sixteen sixteen_laws;
  refused_unchanged = refused_unchanged sixteen;
  as_new = as_new sixteen;
  finish_right = finish_right sixteen sixteen_laws sixteen_whole;
  finish_residues = finish_residues sixteen sixteen_laws;
  at_most_one = λ p g. at_most_one sixteen p (sixteen_laws p g);
  aside_right = aside_right sixteen sixteen_laws sixteen_whole;
  aside_residues = aside_residues sixteen sixteen_laws;
  signed_read = λ p. signed_read sixteen p sixteen_whole;
  sixteen_exactly = sixteen_exactly sixteen;
  never_sixteen = never_sixteen sixteen sixteen_laws;
  thirteen_exactly = thirteen_exactly sixteen;
  repeat_silent = repeat_silent sixteen;
  repeats_quiet = repeats_quiet sixteen;
  twice_repeats = twice_repeats sixteen;
}
