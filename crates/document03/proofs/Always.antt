-- Every record has an answer in document 03, in every state whose plan, if there is one, is good, and leads to such a state.
--   decided                       some choice explains at least U replies, or none does, whatever numbers they are
--   stays_sound, stays_small      a new state is sound, and its replies are elements; so it is of every state that records lead to
--   always_answers                the answer
-- Assumes nothing.
use Rattle.std.proofs.Common.{◌≡◌, refl, sym, ap, ◌∙◌, subst, ◌⊎◌, inl, inr, ⊎_elim, Bool, true, false, ◌&&◌, not, cond, List, [], ◌∷◌, ℕ, zero, suc, ◌%◌, ◌≤◌, ◌<◌, mod-eq_of_lt, mod-lt, zero-lt-suc, eqb, lit<, length}
use borrow.Author.Tests.{eqb-false}
use Rattle.scheme.specs.Scheme.{q, sixteen, Plan, ones, users_in}
use Rattle.scheme.specs.Laws.{Laws}
use Rattle.scheme.specs.Totals.{explains_all, Choice, OneChoice}
use Rattle.scheme.specs.Aside.{NoChoice}
use Rattle.scheme.specs.Service.{has_plan, replied, refusal, values}
use Rattle.scheme.proofs.Tests.{holds}
use Rattle.scheme.proofs.Good.{good_back}
use Rattle.scheme.proofs.Refusals.{then_zero, unless_zero}
use Rattle.scheme.proofs.Sums.{row_value_small}
use Rattle.scheme.proofs.Pooling.Totals.{Explained, explained, explained_back, one_choice}
use Rattle.scheme.proofs.Pooling.Well.{plan_here, gathers, replies, fits, finishing}
use Rattle.scheme.proofs.Pooling.Choices as Choices
use Rattle.scheme.proofs.Modular.{sixteen_laws}
use Rattle.document03.specs.Ours.{our_plan, our_held, our_state, our_record}
use Rattle.document03.specs.Scheme as D
use Rattle.document03.specs.Service as S
use Rattle.document03.specs.Conform.{Sound, StaysSound, Small, StaysSmall, Answered, AlwaysAnswers}
use Rattle.document03.proofs.Sets.{plan_good_same}
use Rattle.document03.proofs.State.{planned_same, taken_same}
use Rattle.document03.proofs.Explains.{explained_same}
use Rattle.document03.proofs.Answers.{finish_same}
use Rattle.document03.proofs.Steps.{finish_good}

abbrev Decided : Plan → (set : ℕ) → (replies : (k block : ℕ) → ℕ) → Type 0
Decided p r y = Choice sixteen p r y ⊎ NoChoice sixteen p r y

-- ---- replies that need not be elements: nothing but their remainders can be explained
module _ (p : Plan) (L : Laws sixteen p.users p.threshold) (y : (k block : ℕ) → ℕ) (r : ℕ) (many : p.threshold ≤ ones p.users r) where
  reduced : (k block : ℕ) → ℕ
  reduced k b = y k b % q

  reduced_explained : (f : (block : ℕ) → List ℕ) → explains_all sixteen p r y f ≡ true → explains_all sixteen p r reduced f ≡ true
  unfolding reduced
  reduced_explained f h =
      explained_back sixteen p r reduced f (λ b i.
      let e = explained sixteen p r y f h b i in
      record { long = e.long; small = e.small; fits = λ a l. sym (mod-eq_of_lt (row_value_small sixteen _ _ L _ _ _)) ∙ ap (λ (n : ℕ). n % q) (e.fits a l) })

  decided : Decided p r y
  unfolding reduced OneChoice
  decided = ⊎_elim some none (Choices.decided sixteen p reduced L (λ k b. mod-lt (y k b) (zero-lt-suc 65520)) r many)
    where
      none : NoChoice sixteen p r reduced → Decided p r y
      none h = inr (λ f e. h f (reduced_explained f e))

      some : Choice sixteen p r reduced → Decided p r y
      some c = pick (explains_all sixteen p r y c.choice) refl
        where
          pick : (b : Bool) → explains_all sixteen p r y c.choice ≡ b → Decided p r y
          pick true e = inl (record { choice = c.choice; right = e })
          pick false e =
              inr (λ f h.
              holds (sym e
              ∙ explained_back sixteen p r y c.choice (λ b i.
              subst (λ w. Explained sixteen p (users_in p r) (length (users_in p r)) (λ k. y k b) w)
              (one_choice sixteen p L r reduced f c.choice many (reduced_explained f h) c.right b i) (explained sixteen p r y f h b i))))

-- ---- states stay sound
new_sound : Sound S.new_state
unfolding S.new_state
new_sound h = absurd (h refl)

-- a record that is not a plan is taken only where there is a plan
has_plan_here : (s : S.State) → has_plan (our_state s).phase ≡ true → s.phase ≡ 0 → ⊥
has_plan_here s h = eqb-false s.phase 0 (planned_same s.phase ∙ ap not h)

changed_sound : (r : S.Record) (s : S.State) → Sound s → S.record_refusal r s ≡ 0 → Sound (S.changed r s)
unfolding S.changed S.planned S.gathered S.with_first S.closed S.with_reply S.idle_again our_record refusal
changed_sound (S.a_plan p) s h e = λ z. plan_good_same p ∙ unless_zero _ _ (then_zero _ _ (taken_same (S.a_plan p) s e)).1
changed_sound (S.open_round r) s h e = λ z. h (has_plan_here s (plan_here _ (then_zero _ _ (taken_same (S.open_round r) s e)).0))
changed_sound (S.first_element k i x) s h e = h
changed_sound S.close_round s h e = λ z. h (has_plan_here s (gathers _ (then_zero _ _ (taken_same S.close_round s e)).0).0)
changed_sound (S.reply_element k b x) s h e = h
changed_sound S.finish_round s h e = λ z. h (has_plan_here s (replies _ (then_zero _ _ (taken_same S.finish_round s e)).0).0)

steps_sound : (r : S.Record) (s t : S.State) (l : S.Line) → Sound s → S.Steps r s l t → Sound t
unfolding S.record_refusal S.changed
steps_sound _ _ _ _ h (S.turned_away r s n e) = h
steps_sound _ _ _ _ h (S.taken r s quick e) = changed_sound r s h e
steps_sound _ _ _ _ h (S.summed s f e d) = changed_sound S.finish_round s h e
steps_sound _ _ _ _ h (S.unexplained s e d) = h

pub stays_sound : StaysSound
unfolding StaysSound
stays_sound = (new_sound, steps_sound)

-- ---- the replies held stay elements
none_small : (k b : ℕ) → S.held_value k b [] < D.q
unfolding S.held_value
none_small k b = lit< tt

one_more_small : (h : S.Held) (hs : List S.Held) → h.value < D.q → ((k b : ℕ) → S.held_value k b hs < D.q)
    → (k b : ℕ) → S.held_value k b (h ∷ hs) < D.q
unfolding S.held_value
one_more_small h hs small rest k b =
    elim (eqb h.k k && eqb h.at b) as (λ t. cond t h.value (S.held_value k b hs) < D.q) [ true ↦ small | false ↦ rest k b ]

changed_small : (r : S.Record) (s : S.State) → Small s → S.record_refusal r s ≡ 0 → Small (S.changed r s)
unfolding S.changed S.planned S.gathered S.with_first S.closed S.with_reply S.idle_again our_record refusal
changed_small (S.a_plan p) s h e = none_small
changed_small (S.open_round r) s h e = none_small
changed_small (S.first_element k i x) s h e = h
changed_small S.close_round s h e = none_small
changed_small (S.reply_element k b x) s h e =
    one_more_small _ s.replies (fits sixteen _ _ k b x (then_zero _ _ (then_zero _ _ (taken_same (S.reply_element k b x) s e)).1).0).small h
changed_small S.finish_round s h e = none_small

steps_small : (r : S.Record) (s t : S.State) (l : S.Line) → Small s → S.Steps r s l t → Small t
unfolding S.record_refusal S.changed
steps_small _ _ _ _ h (S.turned_away r s n e) = h
steps_small _ _ _ _ h (S.taken r s quick e) = changed_small r s h e
steps_small _ _ _ _ h (S.summed s f e d) = changed_small S.finish_round s h e
steps_small _ _ _ _ h (S.unexplained s e d) = h

pub stays_small : StaysSmall
unfolding StaysSmall S.new_state
stays_small = (none_small, steps_small)

-- ---- the answer
finished : (s : S.State) → Sound s → S.finish_refusal s ≡ 0 → Answered S.finish_round s
finished s h e =
    let p = our_plan s.plan_of in
    let g = finish_good s h e in
    ⊎_elim
    (λ c.
    let right = explained_same s g c.choice ∙ c.right in
    record { line = S.told_total s.round (S.totals s c.choice); state = S.idle_again s; step = S.summed s c.choice e right })
    (λ none. record { line = S.refused 16; state = s; step = S.unexplained s e (λ f d. none f (sym (explained_same s g f) ∙ d)) })
    (decided p (sixteen_laws p (good_back p g)) (values (our_held s.replies)) (replied (our_state s))
    (finishing sixteen (our_state s) (finish_same s e)).many)

pub always_answers : AlwaysAnswers
unfolding AlwaysAnswers S.record_refusal S.quick
always_answers r s h = go (S.record_refusal r s) refl
  where
    quick : (r : S.Record) → S.quick r ≡ true → S.record_refusal r s ≡ 0 → Answered r s
    quick r i e = record { line = S.line_of r s; state = S.changed r s; step = S.taken r s i e }

    taken : (r : S.Record) → S.record_refusal r s ≡ 0 → Answered r s
    taken (S.a_plan p) e = quick (S.a_plan p) refl e
    taken (S.open_round n) e = quick (S.open_round n) refl e
    taken (S.first_element k i x) e = quick (S.first_element k i x) refl e
    taken S.close_round e = quick S.close_round refl e
    taken (S.reply_element k b x) e = quick (S.reply_element k b x) refl e
    taken S.finish_round e = finished s h e

    go : (n : ℕ) → S.record_refusal r s ≡ n → Answered r s
    go zero e = taken r e
    go (suc n) e = record { line = S.refused (suc n); state = s; step = S.turned_away r s n e }
