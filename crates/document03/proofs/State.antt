-- The service's state: what ours holds is what document 03's holds.
--   held_same, held_value_same                  one element
--   complete_same, gathered_same, replied_same  the airfields with all their elements held, as a set
--   planned_same, gathering_same, replying_same the tests of a phase
--   quieted, refusal_same                       the numbers of all records: ours are document 03's, but 0 for the 13 of a repeat
--   taken_same                                  a record that passes document 03's tests passes ours
-- Assumes nothing.
use Rattle.std.proofs.Common.{◌≡◌, refl, sym, ap, ap₂, ◌∙◌, Bool, true, false, ◌&&◌, ◌||◌, not, cond, List, [], ◌∷◌, ℕ, zero, suc, ◌+◌, ◌-◌, ◌^◌, ◌≤◌, arith, le-ltb, lt-ltb, le-leb, eq-eqb, ne_eqb, ltb, leb, eqb}
use mathlib.Core.Option.{Option, none, some}
use native.Mathlib.Decide.{dec_le, ℕ_discrete}
use borrow.Author.Tests.{lt-leb}
use Rattle.scheme.specs.Lists.{span, all_of}
use Rattle.scheme.specs.Scheme.{q, sixteen, places, is_user, ones, ◌then◌, unless}
use Rattle.scheme.specs.Service.{has_plan, is_gathering, is_replying, plan_missing, second_plan, not_gathering, not_replying, is_held, element_of, with_element, takes, set_of, complete_set, gathered, replied, element_refusal, refusal}
use Rattle.scheme.proofs.Tests.{and_false, not_not}
use Rattle.scheme.proofs.Refusals.{then_assoc}
use Rattle.document03.specs.Ours.{our_plan, our_phase, our_held, our_state, our_record, repeats}
use Rattle.document03.specs.Scheme as D
use Rattle.document03.specs.Service as S
use Rattle.document03.proofs.Sets.{plan_good_same, places_same, in_set_same, ones_same}
use Rattle.document03.proofs.Refusals.{refuse, refuse_last, refuse_user}

-- ---- one element
eqb_sym : (a b : ℕ) → eqb a b ≡ eqb b a
eqb_sym a b = pick (ℕ_discrete a b)
  where
    pick : Dec (a ≡ b) → eqb a b ≡ eqb b a
    pick (yes e) = eq-eqb a b e ∙ sym (eq-eqb b a (sym e))
    pick (no h) = ne_eqb a b h ∙ sym (ne_eqb b a (λ e. h (sym e)))

here_same : (h : S.Held) (k i : ℕ) → (eqb h.k k && eqb h.at i) ≡ (eqb k h.k && eqb i h.at)
here_same h k i = ap₂ (λ (a b : Bool). a && b) (eqb_sym h.k k) (eqb_sym h.at i)

is_held_cond : (b : Bool) (x : ℕ) (o : Option ℕ) → is_held (cond b (some x) o) ≡ (b || is_held o)
unfolding is_held
is_held_cond true x o = refl
is_held_cond false x o = refl

element_cond : (b : Bool) (x : ℕ) (o : Option ℕ) → element_of (cond b (some x) o) ≡ cond b x (element_of o)
unfolding element_of
element_cond true x o = refl
element_cond false x o = refl

pub held_same : (k i : ℕ) (hs : List S.Held) → S.held k i hs ≡ is_held (our_held hs k i)
unfolding S.held our_held is_held with_element
held_same k i [] = refl
held_same k i (h ∷ hs) =
    ap₂ (λ (a b : Bool). a || b) (here_same h k i) (held_same k i hs)
    ∙ sym (is_held_cond (eqb k h.k && eqb i h.at) h.value (our_held hs k i))

pub held_value_same : (k i : ℕ) (hs : List S.Held) → S.held_value k i hs ≡ element_of (our_held hs k i)
unfolding S.held_value our_held element_of with_element
held_value_same k i [] = refl
held_value_same k i (h ∷ hs) =
    ap₂ (λ (a : Bool) (x : ℕ). cond a h.value x) (here_same h k i) (held_value_same k i hs)
    ∙ sym (element_cond (eqb k h.k && eqb i h.at) h.value (our_held hs k i))

-- ---- the airfields with all their elements held
all_held_same : (n i k : ℕ) (hs : List S.Held) → S.all_held n i k hs ≡ all_of (λ j. is_held (our_held hs k j)) (span n i)
unfolding S.all_held all_of
all_held_same zero i k hs = refl
all_held_same (suc n) i k hs = ap₂ (λ (a b : Bool). a && b) (held_same k i hs) (all_held_same n (suc i) k hs)

complete_from_same : (n k e : ℕ) (hs : List S.Held) → S.complete_from n k e hs ≡ set_of (λ k. all_of (λ i. is_held (our_held hs k i)) (span e 0)) n k
unfolding S.complete_from set_of
complete_from_same zero k e hs = refl
complete_from_same (suc n) k e hs =
    ap₂ (λ (b : Bool) (v : ℕ). cond b (2 ^ (k - 1)) 0 + v) (all_held_same e 0 k hs) (complete_from_same n (suc k) e hs)

pub complete_same : (p : D.Plan) (e : ℕ) (hs : List S.Held) → S.complete_from p.k 1 e hs ≡ complete_set (our_plan p) (our_held hs) e
unfolding complete_set
complete_same p e hs = complete_from_same p.k 1 e hs

pub gathered_same : (s : S.State) → S.complete_from s.plan_of.k 1 (D.places s.plan_of) s.firsts ≡ gathered (our_state s)
unfolding gathered
gathered_same s =
    ap (λ (n : ℕ). S.complete_from s.plan_of.k 1 n s.firsts) (places_same s.plan_of)
    ∙ complete_same s.plan_of (places (our_plan s.plan_of)) s.firsts

pub replied_same : (s : S.State) → S.replied s ≡ replied (our_state s)
unfolding S.replied replied
replied_same s = complete_same s.plan_of s.plan_of.m s.replies

-- ---- phases
pub planned_same : (n : ℕ) → eqb n 0 ≡ not (has_plan (our_phase n))
unfolding our_phase has_plan
planned_same zero = refl
planned_same (suc zero) = refl
planned_same (suc (suc zero)) = refl
planned_same (suc (suc (suc zero))) = refl
planned_same (suc (suc (suc (suc n)))) = ne_eqb (suc (suc (suc (suc n)))) 0 (λ e. omega arith)

pub gathering_same : (n : ℕ) → eqb n 2 ≡ is_gathering (our_phase n)
unfolding our_phase is_gathering
gathering_same zero = refl
gathering_same (suc zero) = refl
gathering_same (suc (suc zero)) = refl
gathering_same (suc (suc (suc zero))) = refl
gathering_same (suc (suc (suc (suc n)))) = ne_eqb (suc (suc (suc (suc n)))) 2 (λ e. omega arith)

pub replying_same : (n : ℕ) → eqb n 3 ≡ is_replying (our_phase n)
unfolding our_phase is_replying
replying_same zero = refl
replying_same (suc zero) = refl
replying_same (suc (suc zero)) = refl
replying_same (suc (suc (suc zero))) = refl
replying_same (suc (suc (suc (suc n)))) = ne_eqb (suc (suc (suc (suc n)))) 3 (λ e. omega arith)

-- ---- tests that are turned round
leb_not : (a b : ℕ) → leb a b ≡ not (ltb b a)
leb_not a b = pick (dec_le a b)
  where
    pick : Dec (a ≤ b) → leb a b ≡ not (ltb b a)
    pick (yes h) = le-leb a b h ∙ sym (ap not (le-ltb b a h))
    pick (no h) = lt-leb a b (omega arith) ∙ sym (ap not (lt-ltb b a (omega arith)))

ltb_not : (a b : ℕ) → ltb a b ≡ not (leb b a)
ltb_not a b = sym (not_not (ltb a b)) ∙ sym (ap not (leb_not b a))

refuse_if : (n : ℕ) {a : Bool} (b : Bool) {x y : ℕ} → a ≡ not b → x ≡ y → cond a (suc n) x ≡ (unless b (suc n) then y)
refuse_if n b {x} e d = ap (λ (t : Bool). cond t (suc n) x) e ∙ refuse n {a = b} refl d

refuse_if_last : (n : ℕ) {a : Bool} (b : Bool) → a ≡ not b → cond a (suc n) 0 ≡ unless b (suc n)
unfolding unless
refuse_if_last n true e = rw e
refuse_if_last n false e = rw e

few_same : (n u : ℕ) {v w : ℕ} → v ≡ w → ltb (D.ones n v) u ≡ not (leb u (ones n w))
few_same n u {v} e = ap (λ (x : ℕ). ltb x u) (ones_same n v ∙ ap (ones n) e) ∙ ltb_not _ u

-- ---- refusals
refuse_missing : (n : ℕ) {x y : ℕ} → x ≡ y → cond (eqb n 0) 11 x ≡ (plan_missing (our_phase n) then y)
unfolding plan_missing
refuse_missing n d = refuse_if _ _ (planned_same n) d

refuse_gathering : (n : ℕ) {x y : ℕ} → x ≡ y → cond (eqb n 0) 11 (cond (not (eqb n 2)) 12 x) ≡ (not_gathering (our_phase n) then y)
unfolding not_gathering
refuse_gathering n d = refuse_missing n (refuse _ (gathering_same n) d) ∙ sym (then_assoc _ _ _)

refuse_replying : (n : ℕ) {x y : ℕ} → x ≡ y → cond (eqb n 0) 11 (cond (not (eqb n 3)) 12 x) ≡ (not_replying (our_phase n) then y)
unfolding not_replying
refuse_replying n d = refuse_missing n (refuse _ (replying_same n) d) ∙ sym (then_assoc _ _ _)

refuse-element :
    (p : D.Plan) (k i v : ℕ) {l m x y : ℕ} → l ≡ m → x ≡ y →
    cond (eqb k 0 || ltb p.k k) 4 (cond (leb l i) 8 (cond (leb q v) 3 x)) ≡ (element_refusal sixteen p.k m k i v then y)
unfolding element_refusal is_user
refuse-element p k i v {m} e d =
    simp then_assoc (refuse_user p k (refuse_if _ _ (ap (λ (n : ℕ). leb n i) e ∙ leb_not m i) (refuse_if _ _ (leb_not q v) d)))

-- ---- repeats
unfoldable pub quieted : (repeated : Bool) → (refusal : ℕ) → ℕ
quieted r n = cond (r && eqb n 13) 0 n

quieted_none : (n : ℕ) → quieted false n ≡ n
unfolding quieted
quieted_none n = refl

-- the tests before that for 13 stay as they are
quieted_later : (n : ℕ) → eqb n 13 ≡ false → (r a : Bool) (x : ℕ) → quieted r (cond a n x) ≡ cond a n (quieted r x)
unfolding quieted
quieted_later n h r true x = rw (h, and_false r)
quieted_later n h r false x = refl

quieted-element :
    (r a b c d e : Bool) (x : ℕ) →
    quieted r (cond a 11 (cond b 12 (cond c 4 (cond d 8 (cond e 3 x))))) ≡ cond a 11 (cond b 12 (cond c 4 (cond d 8 (cond e 3 (quieted r x)))))
quieted-element r a b c d e x = simp (quieted_later 11 refl, quieted_later 12 refl, quieted_later 4 refl, quieted_later 8 refl, quieted_later 3 refl)

takes_same : (o : Option ℕ) (x : ℕ) → quieted (is_held o && eqb (element_of o) x) (cond (is_held o) 13 0) ≡ unless (takes o x) 13
unfolding quieted is_held element_of takes unless
takes_same none x = refl
takes_same (some y) x = elim (eqb y x) as (λ t. quieted t 13 ≡ unless t 13) [ true ↦ refl | false ↦ refl ]

quieted-last :
    (k i x : ℕ) (hs : List S.Held) →
    quieted (S.held k i hs && eqb (S.held_value k i hs) x) (cond (S.held k i hs) 13 0) ≡ unless (takes (our_held hs k i) x) 13
quieted-last k i x hs = rw (held_same k i hs, held_value_same k i hs) (takes_same (our_held hs k i) x)

pub refusal_same : (r : S.Record) (s : S.State) → quieted (repeats r s) (S.record_refusal r s) ≡ refusal sixteen (our_record r) (our_state s)
unfolding S.record_refusal S.plan_refusal S.open_refusal S.first_refusal S.close_refusal S.reply_refusal S.finish_refusal refusal second_plan our_record repeats
refusal_same (S.a_plan p) s = simp quieted_none (refuse _ (planned_same s.phase) (refuse_last _ (plan_good_same p)))
refusal_same (S.open_round r) s = simp quieted_none (refuse_missing s.phase (refuse_if_last _ _ (leb_not r s.round)))
refusal_same (S.first_element k i x) s =
    simp (quieted-element, quieted-last k i x s.firsts)
    (refuse_gathering s.phase (refuse-element s.plan_of k i x (places_same s.plan_of) refl))
refusal_same S.close_round s =
    simp quieted_none (refuse_gathering s.phase (refuse_if_last _ _ (few_same s.plan_of.k s.plan_of.u (gathered_same s))))
refusal_same (S.reply_element k b x) s =
    simp (quieted-element, quieted_later 14 refl, quieted-last k b x s.replies)
    (refuse_replying s.phase (refuse-element s.plan_of k b x refl (refuse _ (in_set_same s.survivors k) refl)))
refusal_same S.finish_round s =
    simp quieted_none (refuse_replying s.phase (refuse_if_last _ _ (few_same s.plan_of.k s.plan_of.u (replied_same s))))

pub taken_same : (r : S.Record) (s : S.State) → S.record_refusal r s ≡ 0 → refusal sixteen (our_record r) (our_state s) ≡ 0
unfolding quieted
taken_same r s e = sym (refusal_same r s) ∙ ap (quieted (repeats r s)) e ∙ ap (λ (t : Bool). cond t 0 0) (and_false (repeats r s))
