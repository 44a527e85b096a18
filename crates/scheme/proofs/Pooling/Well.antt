-- What records keep: states stay well.
--   plan_here, gathers, replies   a phase that its refusals let pass
--   gathering_passes, replying_passes     the right phase, which they let pass
--   Fits, fits                    an element that its tests let pass
--   Finishing, finishing          what a finish that is not refused by its tests has
--   refuses_as                    a step that is refused, by its number
--   answer_not_refused            an accepted record is not answered by a refusal
--   new_well, steps_well, stays_well    a new state is well, and so is every state that records lead to
--   replied_survives              who has replied is a survivor
-- Assumes nothing.
use mathlib.Core.Path.{◌≡◌, refl, sym, ap, ◌∙◌, subst}
use mathlib.Core.Logic.{◌≢◌, ⊎_elim}
use mathlib.Core.Bool.{true, false}
use mathlib.Core.List.{List}
use Prim.Native.Nat.{ℕ, ◌≤◌, ◌<◌}
use native.Mathlib.Omega.{arith}
use borrow.Author.Tests.{lt-ltb, ltb-true, leb-true}
use Rattle.scheme.specs.Scheme.{Arithmetic, Plan, plan_good, places, in_set, ones, usable, ◌then◌, unless}
use Rattle.scheme.specs.Service.{Phase, unplanned, idle, gathering, replying, has_plan, is_gathering, is_replying, plan_missing, not_gathering, not_replying, State, nothing, new_state, is_held, element_of, gathered, replied, Record, plan_record, open_record, first_record, close_record, reply_record, finish_record, Answer, refused, element_refusal, refusal, planned_state, opened_state, idle_state, next_state, answer_of, is_finish, Steps, refuses, accepts, totals_up, disagrees, Runs, done, more, Well}
use Rattle.scheme.specs.ServicePromise.{StaysWell}
use Rattle.scheme.proofs.Tests.{holds, and_both, and_joined}
use Rattle.scheme.proofs.Good.{good}
use Rattle.scheme.proofs.Refusals.{then_zero, unless_zero, test_held}
use Rattle.scheme.proofs.Pooling.Held.{complete_below, complete_held, with_small, with_held}

-- ---- tests that a taken record has passed
module _ (g : Phase) where
  pub plan_here : plan_missing g ≡ 0 → has_plan g ≡ true
  unfolding plan_missing
  plan_here e = unless_zero _ _ e

  pub gathers : not_gathering g ≡ 0 → (has_plan g ≡ true) × (is_gathering g ≡ true)
  unfolding not_gathering
  gathers e = let s = then_zero _ _ e in (plan_here s.0, unless_zero _ _ s.1)

  pub replies : not_replying g ≡ 0 → (has_plan g ≡ true) × (is_replying g ≡ true)
  unfolding not_replying
  replies e = let s = then_zero _ _ e in (plan_here s.0, unless_zero _ _ s.1)

pub gathering_passes : (g : Phase) → is_gathering g ≡ true → not_gathering g ≡ 0
unfolding not_gathering plan_missing has_plan is_gathering unless ◌then◌
gathering_passes unplanned e = absurd (holds e)
gathering_passes idle e = absurd (holds e)
gathering_passes gathering e = refl
gathering_passes replying e = absurd (holds e)

pub replying_passes : (g : Phase) → is_replying g ≡ true → not_replying g ≡ 0
unfolding not_replying plan_missing has_plan is_replying unless ◌then◌
replying_passes unplanned e = absurd (holds e)
replying_passes idle e = absurd (holds e)
replying_passes gathering e = absurd (holds e)
replying_passes replying e = refl

-- one of n users, of l places or blocks, and an element
pub record Fits (A : Arithmetic) (n l k i x : ℕ) : Type 0 where
  pub low : 1 ≤ k
  pub high : k ≤ n
  pub place : i < l
  pub small : x < A.size

pub fits : (A : Arithmetic) (n l k i x : ℕ) → element_refusal A n l k i x ≡ 0 → Fits A n l k i x
unfolding element_refusal
fits A n l k i x e =
    let a = test_held _ _ _ e in
    let u = and_both _ _ a.0 in
    let b = test_held _ _ _ a.1 in
    record { low = leb-true _ _ u.0; high = leb-true _ _ u.1; place = ltb-true _ _ b.0; small = ltb-true _ _ (unless_zero _ _ b.1) }

pub record Finishing (s : State) : Type 0 where
  pub planned : has_plan s.phase ≡ true
  pub replying : is_replying s.phase ≡ true
  pub many : s.plan.threshold ≤ ones s.plan.users (replied s)

pub finishing : (A : Arithmetic) (s : State) → refusal A finish_record s ≡ 0 → Finishing s
unfolding refusal
finishing A s e =
    let a = then_zero _ _ e in
    let g = replies s.phase a.0 in
    record { planned = g.0; replying = g.1; many = leb-true _ _ (unless_zero _ _ a.1) }

pub refuses_as : (A : Arithmetic) (r : Record) (s : State) {n : ℕ} → n ≢ 0 → refusal A r s ≡ n → Steps A r s (refused n) s
refuses_as A r s h e = subst (λ (n : ℕ). Steps A r s (refused n) s) e (refuses r s (λ z. h (sym e ∙ z)))

pub answer_not_refused : (r : Record) (s : State) (n : ℕ) → answer_of r s ≡ refused n → ⊥
unfolding answer_of
answer_not_refused (plan_record p) s n e = let z : ◌≡◌ {A = ℕ} 0 1 = cc in omega arith
answer_not_refused (open_record r) s n e = let z : ◌≡◌ {A = ℕ} 0 1 = cc in omega arith
answer_not_refused (first_record k i x) s n e = let z : ◌≡◌ {A = ℕ} 0 1 = cc in omega arith
answer_not_refused close_record s n e = let z : ◌≡◌ {A = ℕ} 0 1 = cc in omega arith
answer_not_refused (reply_record k b x) s n e = let z : ◌≡◌ {A = ℕ} 0 1 = cc in omega arith
answer_not_refused finish_record s n e = let z : ◌≡◌ {A = ℕ} 0 1 = cc in omega arith

-- ---- states stay well
module _ (A : Arithmetic) where
  -- a state that holds nothing
  quiet : (g : Phase) (p : Plan) (r : ℕ) → 0 < A.size → (has_plan g ≡ true → plan_good p ≡ true) → is_replying g ≡ false
      → Well A (record { phase = g; plan = p; round = r; survivors = 0; firsts = nothing; replies = nothing })
  unfolding is_held element_of
  quiet g p r some ok e = record {
    good = ok;
    firsts_small = λ k i. some;
    replies_small = λ k b. some;
    replies_own = λ k b h. absurd (holds h);
    survive = λ h. absurd (holds (sym e ∙ h));
  }

  pub new_well : 0 < A.size → Well A new_state
  unfolding new_state has_plan is_replying
  new_well some = quiet _ _ 0 some (λ h. absurd (holds h)) refl

  some_element : (s : State) → Well A s → 0 < A.size
  some_element s w = omega (arith, w.firsts_small 0 0)

  next_well : (r : Record) (s : State) → Well A s → is_finish r ≡ false → refusal A r s ≡ 0 → Well A (next_state r s)
  unfolding refusal next_state planned_state opened_state is_finish is_replying has_plan is_held element_of gathered usable
  next_well (plan_record p) s w f e = quiet _ p 0 (some_element s w) (λ h. unless_zero _ _ (then_zero _ _ e).1) refl
  next_well (open_record r) s w f e = quiet _ s.plan r (some_element s w) (λ h. w.good (plan_here _ (then_zero _ _ e).0)) refl
  next_well (first_record k i x) s w f e = record {
    good = w.good;
    firsts_small = with_small k i x s.firsts A.size (fits A _ _ _ _ _ (then_zero _ _ (then_zero _ _ e).1).0).small w.firsts_small;
    replies_small = w.replies_small;
    replies_own = w.replies_own;
    survive = w.survive;
  }
  next_well close_record s w f e =
      let a = then_zero _ _ e in
      record {
        good = λ h. w.good (gathers _ a.0).0;
        firsts_small = w.firsts_small;
        replies_small = λ k b. some_element s w;
        replies_own = λ k b h. absurd (holds h);
        survive = λ h. and_joined (lt-ltb _ _ (complete_below s.plan s.firsts (places s.plan))) (unless_zero _ _ a.1);
      }
  next_well (reply_record k b x) s w f e =
      let a = then_zero _ _ (then_zero _ _ e).1 in
      let m : in_set s.survivors k ≡ true = (test_held _ _ _ a.1).0 in
      record {
        good = w.good;
        firsts_small = w.firsts_small;
        replies_small = with_small k b x s.replies A.size (fits A _ _ _ _ _ a.0).small w.replies_small;
        replies_own = λ i j h. ⊎_elim (λ (e : i ≡ k). ap (in_set s.survivors) e ∙ m) (w.replies_own i j) (with_held k b x s.replies i j h);
        survive = w.survive;
      }
  next_well finish_record s w f e = absurd (holds (sym f))

  pub steps_well : (r : Record) (s t : State) (a : Answer) → Well A s → Steps A r s a t → Well A t
  unfolding idle_state is_replying
  steps_well _ _ _ _ w (refuses r s e) = w
  steps_well _ _ _ _ w (accepts r s f e) = next_well r s w f e
  steps_well _ _ _ _ w (totals_up s k f e h) = quiet _ _ s.round (some_element s w) (λ g. w.good (finishing A s e).planned) refl
  steps_well _ _ _ _ w (disagrees s e h) = w

  runs_well : (rs : List Record) (l : List Answer) (s t : State) → Well A s → Runs A rs s l t → Well A t
  runs_well _ _ _ _ w (done s) = w
  runs_well _ _ _ _ w (more r rs s t u a l h rest) = runs_well rs l t u (steps_well r s t a w h) rest

  pub stays_well : 0 < A.size → StaysWell A
  unfolding StaysWell
  stays_well some rs l s h = runs_well rs l new_state s (new_well some) h

  -- who has all blocks held has one held
  pub replied_survives : (s : State) → Well A s → has_plan s.phase ≡ true
      → (k : ℕ) → 1 ≤ k → k ≤ s.plan.users → in_set (replied s) k ≡ true → in_set s.survivors k ≡ true
  unfolding replied
  replied_survives s w h k lo hi e =
      w.replies_own k 0 (complete_held s.plan s.replies s.plan.blocks k lo hi e 0 (good s.plan (w.good h)).blocks_low)
