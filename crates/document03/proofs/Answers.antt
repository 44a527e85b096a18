-- Document 03's statements of the service, from ours.
--   as_new          an opened round keeps nothing but the plan
--   finish_same     a finish that passes document 03's tests passes ours
--   one_answer      each record has just one answer
--   totals_right    DOCUMENT 03'S SECOND DEMAND
-- Assumes nothing.
use Rattle.std.proofs.Common.{◌≡◌, refl, sym, ap, ap₂, ◌∙◌, subst, Bool, true, false, ◌||◌, not, List, map, ◌∷◌, ℕ, zero, suc, ◌+◌, ◌≤◌, ◌<◌, arith, length, get_or, eqb-true}
use native.Mathlib.Decide.{ℕ_discrete}
use Rattle.scheme.specs.Lists.{span}
use Rattle.scheme.specs.Scheme.{sixteen, plan_good, places, in_set, list_length, key, first_message, reply, total_at}
use Rattle.scheme.specs.Promise.{Table, rows_good, list_good}
use Rattle.scheme.specs.Good.{Good}
use Rattle.scheme.specs.Totals.{Follows, OneChoice, RulesExplain, ResiduesRight}
use Rattle.scheme.specs.Service.{replied, finish_record, refusal, values, totals_by}
use Rattle.scheme.proofs.Tests.{and_both, holds}
use Rattle.scheme.proofs.Good.{good}
use Rattle.scheme.proofs.Pooling.Held.{complete_held}
use Rattle.scheme.proofs.Pooling.Well.{finishing}
use Rattle.scheme.proofs.Pooling.Choices as Choices
use Rattle.scheme.proofs.Pooling.Totals as Totals
use Rattle.scheme.proofs.Modular.{sixteen_laws}
use Rattle.document03.specs.Ours.{our_plan, our_held, our_state, our_record}
use Rattle.document03.specs.Scheme as D
use Rattle.document03.specs.Service as S
use Rattle.document03.specs.Promise as P
use Rattle.document03.proofs.Sets.{plan_good_same, places_same, in_set_same, usable_same}
use Rattle.document03.proofs.Shares.{total_at_same}
use Rattle.document03.proofs.Keys.{key_same, places_in_key, first_message_same, reply_same}
use Rattle.document03.proofs.Shown.{list_good_same, rows_same}
use Rattle.document03.proofs.State.{held_same, held_value_same, replied_same, taken_same}
use Rattle.document03.proofs.Explains.{explained_in, explained_same, totals_same}

-- ---- an opened round
pub as_new : P.AsNew
unfolding P.AsNew S.changed S.gathered S.planned
as_new r s t l (S.turned_away _ _ n e) d = let z : ◌≡◌ {A = ℕ} 0 1 = cc in absurd (omega arith)
as_new r s t l (S.taken _ _ h e) d = refl

-- ---- one answer
pub finish_same : (s : S.State) → S.finish_refusal s ≡ 0 → refusal sixteen finish_record (our_state s) ≡ 0
unfolding S.record_refusal our_record
finish_same s e = taken_same S.finish_round s e

module _ (s : S.State) (pg : D.plan_good s.plan_of ≡ true) (fine : S.finish_refusal s ≡ 0) where
  ok_plan : plan_good (our_plan s.plan_of) ≡ true
  ok_plan = sym (plan_good_same s.plan_of) ∙ pg

  one_total : (f g : ℕ → List ℕ) → S.all_explain s.plan_of.m 0 s f ≡ true → S.all_explain s.plan_of.m 0 s g ≡ true → S.totals s f ≡ S.totals s g
  unfolding totals_by OneChoice
  one_total f g h l =
      let p = our_plan s.plan_of in
      let y = values (our_held s.replies) in
      let a : explained_in s (replied (our_state s)) f ≡ true = sym (explained_same s (good p ok_plan) f) ∙ h in
      let b : explained_in s (replied (our_state s)) g ≡ true = sym (explained_same s (good p ok_plan) g) ∙ l in
      totals_same s (good p ok_plan) f _ a
      ∙ Choices.totals_same sixteen p y s.survivors (values (our_held s.firsts)) f g
      (Totals.one_choice sixteen p (sixteen_laws p ok_plan) (replied (our_state s)) y f g (finishing sixteen (our_state s) (finish_same s fine)).many a b)
      ∙ sym (totals_same s (good p ok_plan) g _ b)

pub one_answer : P.OneAnswer
unfolding P.OneAnswer S.record_refusal S.quick
one_answer _ _ _ _ _ _ pg (S.turned_away r s n e) (S.turned_away _ _ m d) = (ap S.refused (sym e ∙ d), refl)
one_answer _ _ _ _ _ _ pg (S.turned_away r s n e) (S.taken _ _ h d) = absurd (omega arith)
one_answer _ _ _ _ _ _ pg (S.turned_away r s n e) (S.summed _ f d h) = absurd (omega arith)
one_answer _ _ _ _ _ _ pg (S.turned_away r s n e) (S.unexplained _ d h) = absurd (omega arith)
one_answer _ _ _ _ _ _ pg (S.taken r s h e) (S.turned_away _ _ n d) = absurd (omega arith)
one_answer _ _ _ _ _ _ pg (S.taken r s h e) (S.taken _ _ i d) = (refl, refl)
one_answer _ _ _ _ _ _ pg (S.taken r s h e) (S.summed _ f d i) = absurd (holds h)
one_answer _ _ _ _ _ _ pg (S.taken r s h e) (S.unexplained _ d i) = absurd (holds h)
one_answer _ _ _ _ _ _ pg (S.summed s f e h) (S.turned_away _ _ n d) = absurd (omega arith)
one_answer _ _ _ _ _ _ pg (S.summed s f e h) (S.taken _ _ i d) = absurd (holds i)
one_answer _ _ _ _ _ _ pg (S.summed s f e h) (S.summed _ g d i) = (ap (S.told_total s.round) (one_total s pg e f g h i), refl)
one_answer _ _ _ _ _ _ pg (S.summed s f e h) (S.unexplained _ d i) = absurd (i f h)
one_answer _ _ _ _ _ _ pg (S.unexplained s e h) (S.turned_away _ _ n d) = absurd (omega arith)
one_answer _ _ _ _ _ _ pg (S.unexplained s e h) (S.taken _ _ i d) = absurd (holds i)
one_answer _ _ _ _ _ _ pg (S.unexplained s e h) (S.summed _ f d i) = absurd (h f i)
one_answer _ _ _ _ _ _ pg (S.unexplained s e h) (S.unexplained _ d i) = (refl, refl)

-- ---- the second demand
either : {a b : Bool} → (not a || b) ≡ true → a ≡ true → b ≡ true
either {a = true} e h = e
either {a = false} e h = absurd (holds h)

within_at : (n k a b : ℕ) → P.within_from n k a b ≡ true → (i : ℕ) → k ≤ i → i < k + n → D.in_set a i ≡ true → D.in_set b i ≡ true
unfolding P.within_from
within_at zero k a b e i lo hi h = absurd (omega arith)
within_at (suc n) k a b e i lo hi h =
    let s = and_both (not (D.in_set a k) || D.in_set b k) (P.within_from n (suc k) a b) e in
    pick (ℕ_discrete k i) s.0 (within_at n (suc k) a b s.1 i)
  where
    pick : Dec (k ≡ i) → (not (D.in_set a k) || D.in_set b k) ≡ true
        → (suc k ≤ i → i < suc k + n → D.in_set a i ≡ true → D.in_set b i ≡ true) → D.in_set b i ≡ true
    pick (yes r) t rest = ap (D.in_set b) (sym r) ∙ either {a = D.in_set a k} t (ap (D.in_set a) r ∙ h)
    pick (no r) t rest = rest (omega arith) (omega arith) h

survivor_totals_same : (n i : ℕ) (p : D.Plan) (x : Table) (v : ℕ) → P.survivor_totals n i p x v ≡ map (total_at sixteen (our_plan p) x v) (span n i)
unfolding P.survivor_totals
survivor_totals_same zero i p x v = refl
survivor_totals_same (suc n) i p x v = ap₂ ◌∷◌ (total_at_same p x v i) (survivor_totals_same n (suc i) p x v)

module _ (s : S.State) (xs : List ℕ) (x : Table) (pg : D.plan_good s.plan_of ≡ true) (lg : P.list_good s.plan_of xs ≡ true)
    (ax : P.admissible s.plan_of x) (true-state : P.RuleTrue s.plan_of xs x s) (fine : S.finish_refusal s ≡ 0)
    (inside : P.within (S.replied s) s.survivors s.plan_of.k ≡ true) where
  p : D.Plan
  p = s.plan_of

  ok : list_good sixteen (our_plan p) xs ≡ true
  unfolding p
  ok = sym (list_good_same p xs) ∙ lg

  follows : Follows sixteen (our_plan p) xs x s.survivors (replied (our_state s)) (values (our_held s.firsts)) (values (our_held s.replies))
  unfolding p P.within replied list_good rows_good
  follows = record { first = first; survives = survives; answer = answer }
    where
      g : Good (our_plan p)
      g = good (our_plan p) (ok_plan s pg fine)

      long : length xs ≡ list_length (our_plan p)
      long = eqb-true _ _ (and_both _ _ ok).0

      survives : (k : ℕ) → 1 ≤ k → k ≤ p.k → in_set (replied (our_state s)) k ≡ true → in_set s.survivors k ≡ true
      survives k lo hi e =
          sym (in_set_same s.survivors k)
          ∙ within_at p.k 1 (S.replied s) s.survivors inside k lo (omega arith) (ap (λ (v : ℕ). D.in_set v k) (replied_same s) ∙ in_set_same _ k ∙ e)

      first : (k i : ℕ) → 1 ≤ k → k ≤ p.k → in_set s.survivors k ≡ true → i < places (our_plan p)
          → values (our_held s.firsts) k i ≡ get_or (first_message sixteen (our_plan p) (key sixteen (our_plan p) xs k) (x k)) i 0
      first k i lo hi e l =
          sym (held_value_same k i s.firsts) ∙ true-state.firsts k i (in_set_same s.survivors k ∙ e) (rw (places_same p) l)
          ∙ ap (λ (m : List ℕ). get_or m i 0)
          (ap (λ ks. D.first_message p ks (x k)) (key_same p g xs k lo hi long)
          ∙ first_message_same p (key sixteen (our_plan p) xs k) (x k) (rows_same p x ax k lo hi refl).0 (places_in_key p xs k))

      answer : (k b : ℕ) → 1 ≤ k → k ≤ p.k → in_set (replied (our_state s)) k ≡ true → b < p.m
          → values (our_held s.replies) k b ≡ get_or (reply (our_plan p) (key sixteen (our_plan p) xs k) k s.survivors) b 0
      answer k b lo hi e l =
          let i = survives k lo hi e in
          sym (held_value_same k b s.replies)
          ∙ true-state.replies k b (in_set_same s.survivors k ∙ i)
          (held_same k b s.replies ∙ complete_held (our_plan p) (our_held s.replies) p.m k lo hi e b l)
          ∙ ap (λ (m : List ℕ). get_or m b 0)
          (ap (λ ks. D.reply p ks k s.survivors) (key_same p g xs k lo hi long)
          ∙ reply_same p (key sixteen (our_plan p) xs k) k s.survivors (sym (usable_same p s.survivors) ∙ true-state.set) i)

  told : (t : S.State) (l : S.Line) → S.Steps S.finish_round s l t → l ≡ S.told_total s.round (P.survivor_totals (D.places p) 0 p x s.survivors)
  unfolding p S.record_refusal S.quick totals_by RulesExplain ResiduesRight
  told _ _ (S.turned_away _ _ n e) = absurd (omega arith)
  told _ _ (S.taken _ _ h e) = absurd (holds h)
  told _ _ (S.summed _ f e h) =
      let k = ok_plan s pg fine in
      let a : explained_in s (replied (our_state s)) f ≡ true = sym (explained_same s (good (our_plan p) k) f) ∙ h in
      ap (S.told_total s.round)
      (totals_same s (good (our_plan p) k) f _ a
      ∙ Totals.residues_right sixteen (our_plan p) (sixteen_laws (our_plan p) k) xs x s.survivors (replied (our_state s)) _ _ f ok
      (sym (usable_same p s.survivors) ∙ true-state.set) (finishing sixteen (our_state s) (finish_same s fine)).many follows a
      ∙ sym (ap (λ (n : ℕ). P.survivor_totals n 0 p x s.survivors) (places_same p) ∙ survivor_totals_same (places (our_plan p)) 0 p x s.survivors))
  told _ _ (S.unexplained _ e h) =
      let k = ok_plan s pg fine in
      let c =
      Totals.rules_explain sixteen (our_plan p) (sixteen_laws (our_plan p) k) xs x s.survivors (replied (our_state s)) _ _ ok
      (sym (usable_same p s.survivors) ∙ true-state.set) follows in
      absurd (h c.choice (explained_same s (good (our_plan p) k) c.choice ∙ c.right))

-- DOCUMENT 03'S SECOND DEMAND
pub totals_right : P.TotalsRight
unfolding P.TotalsRight p
totals_right p xs x s t l pg lg ax true-state fine inside h =
    subst
    (λ (p : D.Plan). D.plan_good p ≡ true → P.list_good p xs ≡ true → P.admissible p x → P.RuleTrue p xs x s
    → P.within (S.replied s) s.survivors p.k ≡ true → l ≡ S.told_total s.round (P.survivor_totals (D.places p) 0 p x s.survivors))
    true-state.plan (λ pg lg ax true-state inside. told s xs x pg lg ax true-state fine inside t l h) pg lg ax true-state inside
