-- The calls of an airfield end one after the other.
--   next, LeavesOf, leaves_of        a taken call leaves the end at its next stage, a refused one the array as it came
--   other_round                       a request for another round is refused, and changes nothing
--   no_message, same_set              an end that has sent takes no first message, one that has answered no other set
--   sent_once, one_message            behind a first message no other is taken, and of a list at most one
--   answered_only, Only, one_set      behind a reply only its set is answered, and by a list only one
--   round_kept, one_round             no call changes an array's round, and a list is answered for that round only
--   ends_right                        with other_round, the statements of specs/Ends.antt
-- Assumes nothing.
use mathlib.Core.Path.{◌≡◌, refl, sym, ap, ◌∙◌, subst}
use mathlib.Core.Logic.{◌≢◌}
use mathlib.Core.Bool.{false}
use mathlib.Core.List.{List, [], ◌∷◌}
use Prim.Native.Nat.{ℕ, ◌≤◌}
use native.Mathlib.Omega.{arith}
use native.Mathlib.Decide.{ℕ_discrete}
use lib.ListN.{length, length-set}
use borrow.Author.Tests.{eqb-true, eq-eqb, ne_eqb}
use Rattle.scheme.specs.Scheme as scheme
use Rattle.scheme.specs.Scheme.{sixteen, Arithmetic, is_fresh, open_to, message_refusal}
use Rattle.scheme.proofs.Tests.{holds}
use Rattle.scheme.proofs.Refusals.{then_zero, unless_zero, after_taken}
use Rattle.client.specs.declared.Stage.{Stage}
use Rattle.client.specs.declared.Stage.TheVariants.{Sent, Answered}
use Rattle.client.specs.declared.Client.{Client}
use Rattle.client.specs.Client.{stage_of, at_stage, answer_refusal}
use Rattle.client.proofs.Laws.{reply_own, reply_open}
use Rattle.capi.specs.declared.ends.CutawhenoPart.{CutawhenoPart}
use Rattle.capi.specs.Ends.{end_length, end_at, part_by, part_answer}
use Rattle.capi.specs.Promise.{EndsStand, PartIsReply}
use Rattle.capi.proofs.Laws.{kept_taken}
use Rattle.capi.proofs.Promise.{ends_stand, part_is_reply}
use Rattle.exported.specs.Ends.{EndCall, message_call, answer_call, end_number, end_leaves, messages, OnlyTo, OnlyFor, OtherRound, EndsRight}
use Rattle.exported.proofs.Refused.{refused_unchanged}

-- ---- one call
next : EndCall → Stage
next (message_call ks fs o) = Sent
next (answer_call ks v r) = Answered v

abbrev stage_at : List ℕ → scheme.Stage
stage_at e = stage_of (end_at e).stage

pub record LeavesOf (c : EndCall) (e : List ℕ) : Type 0 where
  pub long : length (end_leaves c e) ≡ end_length
  taken : end_number c e ≡ 0 → end_at (end_leaves c e) ≡ at_stage (end_at e) (next c)
  refused : end_number c e ≢ 0 → end_leaves c e ≡ e
  part : (v : ℕ) → part_by 0 (end_at (end_leaves c e)) v ≡ part_by 0 (end_at e) v

answer_taken : (e ks : List ℕ) (v r : ℕ) → (part_answer (end_at e) ks v r).number ≡ 0 → answer_refusal sixteen (end_at e) ks v r ≡ 0
unfolding PartIsReply
answer_taken e ks v r z = sym (part_is_reply (end_at e) ks v r).number ∙ z

module _ (e : List ℕ) (l : length e ≡ end_length) where
  refused_same : (c : EndCall) → end_number c e ≢ 0 → end_leaves c e ≡ e
  unfolding end_number end_leaves
  refused_same (message_call ks fs o) h = (refused_unchanged.first_kept e ks fs o h).0
  refused_same (answer_call ks v r) h = (refused_unchanged.reply_kept e ks v r h).0

  taken_long : (c : EndCall) → end_number c e ≡ 0 → length (end_leaves c e) ≡ end_length
  unfolding end_number end_leaves
  taken_long (message_call ks fs o) z = ap length (kept_taken (end_at e) Sent e z) ∙ length-set e 5 _ ∙ l
  taken_long (answer_call ks v r) z = ap length (kept_taken (end_at e) (Answered v) e (answer_taken e ks v r z)) ∙ length-set e 5 _ ∙ l

  taken_at : (c : EndCall) → end_number c e ≡ 0 → end_at (end_leaves c e) ≡ at_stage (end_at e) (next c)
  unfolding end_number end_leaves next EndsStand
  taken_at (message_call ks fs o) z =
      (ends_stand e l).first_stands ks fs (length o) ∙ after_taken z _ _
  taken_at (answer_call ks v r) z =
      (ends_stand e l).reply_stands ks v r ∙ after_taken (answer_taken e ks v r z) _ _

  pub leaves_of : (c : EndCall) → LeavesOf c e
  unfolding part_by
  leaves_of c = either (ℕ_discrete (end_number c e) 0)
    where
      either : Dec (end_number c e ≡ 0) → LeavesOf c e
      either (yes z) =
          record { long = taken_long c z; taken = taken_at c; refused = refused_same c; part = λ v. ap (λ (d : Client). part_by 0 d v) (taken_at c z) }
      either (no h) =
          let same = refused_same c h in
          record { long = ap length same ∙ l; taken = taken_at c; refused = refused_same c; part = λ v. ap (λ (d : List ℕ). part_by 0 (end_at d) v) same }

-- ---- what round and stage refuse
pub other_round : OtherRound
unfolding OtherRound end_number end_leaves
other_round e ks v r h =
    let refused : end_number (answer_call ks v r) e ≢ 0 = λ z. h (reply_own _ _ _ _ _ ks v r (answer_taken e ks v r z)) in
    let kept = refused_unchanged.reply_kept e ks v r refused in
    (refused, kept.0, kept.2)

sent_refuses : (A : Arithmetic) (p : scheme.Plan) (k : ℕ) (u : scheme.Use) (g : scheme.Stage) (ks fs : List ℕ) (n : ℕ)
    → is_fresh g ≡ false → message_refusal A p k u g ks fs n ≢ 0
unfolding message_refusal
sent_refuses A p k u g ks fs n f z = absurd (holds (sym f ∙ unless_zero _ _ (then_zero _ _ (then_zero _ _ z).1).0))

no_message : (e ks fs o : List ℕ) → is_fresh (stage_at e) ≡ false → end_number (message_call ks fs o) e ≢ 0
unfolding end_number
no_message e ks fs o f z = sent_refuses _ _ _ _ _ ks fs (length o) f z

same_set : (e ks : List ℕ) (v w r : ℕ) → (end_at e).stage ≡ Answered v → end_number (answer_call ks w r) e ≡ 0 → w ≡ v
unfolding end_number stage_of open_to
same_set e ks v w r g z =
    sym (eqb-true v w (ap (λ (s : Stage). open_to w (stage_of s)) (sym g) ∙ reply_open _ _ _ (stage_at e) _ ks w r (answer_taken e ks w r z)))

-- ---- lists of calls
next_sent : (c : EndCall) → is_fresh (stage_of (next c)) ≡ false
unfolding next stage_of is_fresh
next_sent (message_call ks fs o) = refl
next_sent (answer_call ks v r) = refl

stays_sent : (c : EndCall) (e : List ℕ) → length e ≡ end_length → is_fresh (stage_at e) ≡ false → is_fresh (stage_at (end_leaves c e)) ≡ false
stays_sent c e l f = either (ℕ_discrete (end_number c e) 0)
  where
    either : Dec (end_number c e ≡ 0) → is_fresh (stage_at (end_leaves c e)) ≡ false
    either (yes z) = ap (λ (d : Client). is_fresh (stage_of d.stage)) ((leaves_of e l c).taken z) ∙ next_sent c
    either (no h) = ap (λ (d : List ℕ). is_fresh (stage_at d)) ((leaves_of e l c).refused h) ∙ f

sent_once : (cs : List EndCall) (e : List ℕ) → length e ≡ end_length → is_fresh (stage_at e) ≡ false → messages cs e ≡ 0
unfolding messages
sent_once [] e l f = refl
sent_once (message_call ks fs o ∷ cs) e l f =
    let c = message_call ks fs o in
    rw (ne_eqb _ _ (no_message e ks fs o f)) (sent_once cs (end_leaves c e) (leaves_of e l c).long (stays_sent c e l f))
sent_once (answer_call ks v r ∷ cs) e l f =
    let c = answer_call ks v r in sent_once cs (end_leaves c e) (leaves_of e l c).long (stays_sent c e l f)

one_message : (cs : List EndCall) (e : List ℕ) → length e ≡ end_length → messages cs e ≤ 1
unfolding messages
one_message [] e l = omega arith
one_message (message_call ks fs o ∷ cs) e l = either (one_message cs (end_leaves c e) (leaves_of e l c).long) (ℕ_discrete (end_number c e) 0)
  where
    c : EndCall
    c = message_call ks fs o

    either : messages cs (end_leaves c e) ≤ 1 → Dec (end_number c e ≡ 0) → messages (c ∷ cs) e ≤ 1
    either m (yes z) =
        let f = ap (λ (d : Client). is_fresh (stage_of d.stage)) ((leaves_of e l c).taken z) ∙ next_sent c in
        let none = sent_once cs (end_leaves c e) (leaves_of e l c).long f in
        rw (eq-eqb _ _ z) (omega arith)
    either m (no h) = rw (ne_eqb _ _ h) m
one_message (answer_call ks v r ∷ cs) e l = let c = answer_call ks v r in one_message cs (end_leaves c e) (leaves_of e l c).long

answered_only : (v : ℕ) (p : CutawhenoPart) (cs : List EndCall) (e : List ℕ) → length e ≡ end_length → (end_at e).stage ≡ Answered v
    → part_by 0 (end_at e) v ≡ p → OnlyTo v p cs e
unfolding OnlyTo end_number next
answered_only v p [] e l g q = tt
answered_only v p (message_call ks fs o ∷ cs) e l g q =
    let c = message_call ks fs o in
    let sent = ap (λ (s : Stage). is_fresh (stage_of s)) g ∙ next_sent (answer_call ks v 0) in
    subst (OnlyTo v p cs) (sym ((leaves_of e l c).refused (no_message e ks fs o sent))) (answered_only v p cs e l g q)
answered_only v p (answer_call ks w r ∷ cs) e l g q =
    let s = still (ℕ_discrete (end_number c e) 0) in
    (λ z. (same_set e ks v w r g z, named z), answered_only v p cs (end_leaves c e) (leaves_of e l c).long s ((leaves_of e l c).part v ∙ q))
  where
    c : EndCall
    c = answer_call ks w r

    named : end_number c e ≡ 0 → part_answer (end_at e) ks w r ≡ p
    named z = ap (λ (n : ℕ). part_by n (end_at e) w) (answer_taken e ks w r z) ∙ ap (part_by 0 (end_at e)) (same_set e ks v w r g z) ∙ q

    still : Dec (end_number c e ≡ 0) → (end_at (end_leaves c e)).stage ≡ Answered v
    still (yes z) = ap (λ (d : Client). d.stage) ((leaves_of e l c).taken z) ∙ ap Answered (same_set e ks v w r g z)
    still (no h) = ap (λ (d : List ℕ). (end_at d).stage) ((leaves_of e l c).refused h) ∙ g

record Only (cs : List EndCall) (e : List ℕ) : Type 0 where
  set : ℕ
  only : OnlyTo set (part_by 0 (end_at e) set) cs e

one_set : (cs : List EndCall) (e : List ℕ) → length e ≡ end_length → Only cs e
unfolding OnlyTo end_number next
one_set [] e l = record { set = 0; only = tt }
one_set (message_call ks fs o ∷ cs) e l =
    let c = message_call ks fs o in
    let r = one_set cs (end_leaves c e) (leaves_of e l c).long in
    record { set = r.set; only = subst (λ (p : CutawhenoPart). OnlyTo r.set p cs (end_leaves c e)) ((leaves_of e l c).part r.set) r.only }
one_set (answer_call ks w r ∷ cs) e l = either (one_set cs e l) (ℕ_discrete (end_number c e) 0)
  where
    c : EndCall
    c = answer_call ks w r

    named : end_number c e ≡ 0 → part_answer (end_at e) ks w r ≡ part_by 0 (end_at e) w
    named z = ap (λ (n : ℕ). part_by n (end_at e) w) (answer_taken e ks w r z)

    either : Only cs e → Dec (end_number c e ≡ 0) → Only (c ∷ cs) e
    either r (yes z) =
        let s = ap (λ (d : Client). d.stage) ((leaves_of e l c).taken z) in
        record { set = w; only = (λ y. (refl, named y), answered_only w _ cs (end_leaves c e) (leaves_of e l c).long s ((leaves_of e l c).part w)) }
    either r (no h) =
        record { set = r.set; only = (λ z. absurd (h z), subst (OnlyTo r.set _ cs) (sym ((leaves_of e l c).refused h)) r.only) }

-- no call changes the round
round_kept : (c : EndCall) (e : List ℕ) → length e ≡ end_length → (end_at (end_leaves c e)).round ≡ (end_at e).round
round_kept c e l = elim (ℕ_discrete (end_number c e) 0) [
  | yes z ↦ ap (λ (d : Client). d.round) ((leaves_of e l c).taken z)
  | no h ↦ ap (λ (d : List ℕ). (end_at d).round) ((leaves_of e l c).refused h)
]

one_round : (own : ℕ) (cs : List EndCall) (e : List ℕ) → length e ≡ end_length → (end_at e).round ≡ own → OnlyFor own cs e
unfolding OnlyFor end_number
one_round own [] e l g = tt
one_round own (message_call ks fs o ∷ cs) e l g =
    let c = message_call ks fs o in one_round own cs (end_leaves c e) (leaves_of e l c).long (round_kept c e l ∙ g)
one_round own (answer_call ks w r ∷ cs) e l g =
    let c = answer_call ks w r in
    (λ z. reply_own _ _ _ _ _ _ _ _ (answer_taken e ks w r z) ∙ g, one_round own cs (end_leaves c e) (leaves_of e l c).long (round_kept c e l ∙ g))

pub ends_right : EndsRight
unfolding EndsRight
ends_right cs e l =
    let r = one_set cs e l in
    record { one_message = one_message cs e l; set = r.set; one_set = r.only; one_round = one_round _ cs e l refl }
