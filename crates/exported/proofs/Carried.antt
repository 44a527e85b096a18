-- What the service holds was put in by records since the last open.
--   Carried, nothing_carried      the held elements of a user are those of a list
--   steps_first, steps_reply      a record that carries none but those keeps it so
--   Survived, steps_survived      while replying, the survivors are the users with all places held
--   run_keeps                     what every taken record keeps, a list of calls keeps
-- Assumes nothing.
use mathlib.Core.Path.{◌≡◌, refl, sym, ap, ◌∙◌, subst}
use mathlib.Core.Bool.{Bool, true, false, ◌&&◌, cond}
use mathlib.Core.List.{List, [], ◌∷◌}
use mathlib.Core.Option.{Option, some}
use Prim.Native.Nat.{ℕ}
use native.Mathlib.Decide.{ℕ_discrete}
use lib.Dec.{eqb}
use lib.ListN.{get_or}
use borrow.Author.Tests.{eqb-true}
use Rattle.scheme.specs.Scheme.{Arithmetic, sixteen}
use Rattle.scheme.specs.Service.{Phase, unplanned, idle, gathering, replying, is_gathering, is_replying, State, nothing, is_held, element_of, with_element, gathered, Record, plan_record, open_record, first_record, close_record, reply_record, finish_record, Answer, refusal, planned_state, opened_state, idle_state, next_state, Steps, refuses, accepts, totals_up, disagrees}
use Rattle.scheme.proofs.Tests.{and_both, holds}
use Rattle.scheme.proofs.Refusals.{then_zero}
use Rattle.scheme.proofs.Pooling.Well.{gathers}
use Rattle.service.specs.View.{view, Formed}
use Rattle.capi.specs.Lent.{Arrays, state}
use Rattle.exported.specs.Runs.{Call, number_of, leaves, run}
use Rattle.exported.specs.Round.{EachTaken, FirstOf, ReplyOf}
use Rattle.exported.proofs.Runs.{step_right}
use Rattle.exported.proofs.Refused.{refused_unchanged}

-- wherever an element of user k is held, it is the list's
pub record Carried (k : ℕ) (f : List ℕ) (held : (k at : ℕ) → Option ℕ) : Type 0 where
  pub right : (i : ℕ) → is_held (held k i) ≡ true → element_of (held k i) ≡ get_or f i 0

module _ (k : ℕ) (f : List ℕ) where
  pub nothing_carried : Carried k f nothing
  unfolding is_held
  nothing_carried = record { right = λ i e. absurd (holds e) }

  with_carried : (held : (k at : ℕ) → Option ℕ) (l i x : ℕ) → (l ≡ k → x ≡ get_or f i 0) → Carried k f held → Carried k f (with_element l i x held)
  unfolding with_element is_held element_of
  with_carried held l i x e c = record { right = λ j. pick j (eqb k l && eqb j i) refl }
    where
      pick : (j : ℕ) (b : Bool) → (eqb k l && eqb j i) ≡ b → is_held (cond b (some x) (held k j)) ≡ true → element_of (cond b (some x) (held k j)) ≡ get_or f j 0
      pick j true t h =
          let s = and_both (eqb k l) (eqb j i) t in
          e (sym (eqb-true k l s.0)) ∙ ap (λ (n : ℕ). get_or f n 0) (sym (eqb-true j i s.1))
      pick j false t h = c.right j h

module _ (A : Arithmetic) (k : ℕ) (f : List ℕ) where
  next_first : (r : Record) (s : State) → FirstOf k f r → Carried k f s.firsts → Carried k f (next_state r s).firsts
  unfolding FirstOf next_state planned_state opened_state idle_state
  next_first (plan_record p) s h c = nothing_carried k f
  next_first (open_record r) s h c = nothing_carried k f
  next_first (first_record l i x) s h c = with_carried k f s.firsts l i x h c
  next_first close_record s h c = c
  next_first (reply_record l b x) s h c = c
  next_first finish_record s h c = nothing_carried k f

  pub steps_first : (r : Record) (s t : State) (a : Answer) → Steps A r s a t → FirstOf k f r → Carried k f s.firsts → Carried k f t.firsts
  unfolding idle_state
  steps_first _ _ _ _ (refuses r s e) h c = c
  steps_first _ _ _ _ (accepts r s g e) h c = next_first r s h c
  steps_first _ _ _ _ (totals_up s z g e x) h c = nothing_carried k f
  steps_first _ _ _ _ (disagrees s e x) h c = c

  next_reply : (r : Record) (s : State) → ReplyOf k f r → Carried k f s.replies → Carried k f (next_state r s).replies
  unfolding ReplyOf next_state planned_state opened_state idle_state
  next_reply (plan_record p) s h c = nothing_carried k f
  next_reply (open_record r) s h c = nothing_carried k f
  next_reply (first_record l i x) s h c = c
  next_reply close_record s h c = nothing_carried k f
  next_reply (reply_record l b x) s h c = with_carried k f s.replies l b x h c
  next_reply finish_record s h c = nothing_carried k f

  pub steps_reply : (r : Record) (s t : State) (a : Answer) → Steps A r s a t → ReplyOf k f r → Carried k f s.replies → Carried k f t.replies
  unfolding idle_state
  steps_reply _ _ _ _ (refuses r s e) h c = c
  steps_reply _ _ _ _ (accepts r s g e) h c = next_reply r s h c
  steps_reply _ _ _ _ (totals_up s z g e x) h c = nothing_carried k f
  steps_reply _ _ _ _ (disagrees s e x) h c = c

-- ---- who survived
unfoldable pub Survived : State → Type 0
Survived s = is_replying s.phase ≡ true → s.survivors ≡ gathered s

one_phase : (g : Phase) → is_gathering g ≡ true → is_replying g ≡ true → ⊥
unfolding is_gathering is_replying
one_phase unplanned e h = holds e
one_phase idle e h = holds e
one_phase gathering e h = holds h
one_phase replying e h = holds e

module _ (A : Arithmetic) where
  next_survived : (r : Record) (s : State) → refusal A r s ≡ 0 → Survived s → Survived (next_state r s)
  unfolding Survived refusal next_state planned_state opened_state idle_state is_replying gathered
  next_survived (plan_record p) s e w h = absurd (holds h)
  next_survived (open_record r) s e w h = absurd (holds h)
  next_survived (first_record l i x) s e w h = absurd (one_phase s.phase (gathers _ (then_zero _ _ e).0).1 h)
  next_survived close_record s e w h = refl
  next_survived (reply_record l b x) s e w h = w h
  next_survived finish_record s e w h = absurd (holds h)

  pub steps_survived : (r : Record) (s t : State) (a : Answer) → Steps A r s a t → Survived s → Survived t
  unfolding Survived idle_state is_replying
  steps_survived _ _ _ _ (refuses r s e) w = w
  steps_survived _ _ _ _ (accepts r s g e) w = next_survived r s e w
  steps_survived _ _ _ _ (totals_up s z g e x) w = λ h. absurd (holds h)
  steps_survived _ _ _ _ (disagrees s e x) w = w

-- ---- lists of calls
pub run_keeps : (P : State → Type 0) (Q : Record → Type 0) → ((r : Record) (s t : State) (a : Answer) → Steps sixteen r s a t → Q r → P s → P t)
    → (cs : List Call) (a : Arrays) → Formed sixteen (state a) → EachTaken Q cs a → P (view (state a)) → P (view (state (run cs a)))
unfolding run EachTaken
run_keeps P Q keeps [] a w h p = p
run_keeps P Q keeps (c ∷ cs) a w h p = run_keeps P Q keeps cs (leaves c a) (step_right a w c).formed h.1 (either (ℕ_discrete (number_of c a) 0))
  where
    either : Dec (number_of c a ≡ 0) → P (view (state (leaves c a)))
    either (yes z) = keeps _ _ _ _ (step_right a w c).step (h.0 z) p
    either (no n) = subst (λ (b : Arrays). P (view (state b))) (sym (refused_unchanged.arrays_kept c a n)) p
