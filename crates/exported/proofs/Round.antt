-- Demand 2 from end to end on lent memory.
--   Finishes, finishes   what holds where finish is not refused by 11, 12 or 15
--   sent_held            what the service holds of the calls of a round
--   finished_right       what finish hands back and leaves in the lent buffer, from what the service's own call gives
--   totals_read          what cutawheno_read_total reads of totals of signed figures
--   round_residues, round_right, signed_total, aside_residues, aside_right, aside_signed    the statements of specs/Round.antt
-- Assumes nothing.
use mathlib.Core.Path.{◌≡◌, refl, sym, ap, ◌∙◌, subst}
use mathlib.Core.Logic.{◌≢◌}
use mathlib.Core.Bool.{Bool, true, false}
use mathlib.Core.List.{List, [], ◌∷◌, map, map-map}
use Prim.Native.Nat.{ℕ, zero, suc, ◌≤◌}
use native.Mathlib.Omega.{arith}
use lib.Dec.{leb}
use lib.ListN.{get_or, take}
use Rattle.scheme.specs.Limits.{most_places}
use Rattle.scheme.specs.Lists.{span, padded, filled}
use Rattle.scheme.specs.Scheme.{sixteen, Plan, plan_good, places, in_set, ones, total_at, unless, ◌then◌, after}
use Rattle.scheme.specs.Promise.{Table}
use Rattle.scheme.specs.Signed.{Changes, changes_good, residues, change_total}
use Rattle.scheme.specs.Aside.{without}
use Rattle.scheme.specs.Service.{has_plan, is_replying, plan_missing, not_replying, State, gathered, replied, Record, open_record, finish_record, Answer, refusal, opened_state, next_state, Steps}
use Rattle.scheme.proofs.Tests.{holds}
use Rattle.scheme.proofs.Refusals.{then_assoc, after_taken}
use Rattle.scheme.proofs.Lists.{map_below_same}
use Rattle.scheme.proofs.Padded.{filled_take}
use Rattle.scheme.proofs.Signed.{sixteen_whole}
use Rattle.scheme.proofs.Whole.{total_fits, totals_whole, changes_admissible}
use Rattle.scheme.proofs.Pooling.Held.{complete_held}
use Rattle.scheme.proofs.Pooling.Without.{without_in}
use Rattle.solve.specs.Solve.{laws16}
use Rattle.plan.specs.Plan.{plan_of, code_use}
use Rattle.client.specs.History as client
use Rattle.client.specs.History.{Handed, plainly, message_in, part_in}
use Rattle.service.specs.declared.Service.{Service}
use Rattle.service.specs.View.{phase_of, view, Formed}
use Rattle.service.specs.Calls.{opened, open_step}
use Rattle.service.proofs.Same.{opened_view}
use Rattle.finish.specs.Finish.{finish_refusal, finish_answer, finish_step}
use Rattle.finish.proofs.Steps.{totals_padded}
use Rattle.capi.specs.Lent.{Arrays, zeros, state, finish_totals}
use Rattle.capi.specs.Meaning.{as_reading, total_read}
use Rattle.capi.proofs.Stands.{calls_stand}
use Rattle.round.specs.Round as round
use Rattle.round.proofs.Round as round-proved
use Rattle.exported.specs.Runs.{Call, open_call, plan_in, finish_hands, number_of, leaves, run}
use Rattle.exported.specs.Shown.{Lent, calls, SameGiven}
use Rattle.exported.specs.Round.{EachTaken, FirstOf, ReplyOf, arrays_behind, replied_in, Pooled, RoundResidues, RoundRight, SignedTotal, AsideResidues, AsideRight, AsideSigned}
use Rattle.exported.proofs.Runs.{step_right, run_formed, zeros_formed}
use Rattle.exported.proofs.Shown.{same_given}
use Rattle.exported.proofs.Carried.{Carried, nothing_carried, steps_first, steps_reply, Survived, steps_survived, run_keeps}

-- ---- the tests of finish
passes : (b : Bool) (n m : ℕ) → 1 ≤ n → (unless b n then m) ≢ n → (b ≡ true) × ((unless b n then m) ≡ m)
unfolding unless ◌then◌
passes true n m p h = (refl, refl)
passes false zero m p h = absurd (omega arith)
passes false (suc n) m p h = absurd (h refl)

record Finishes (s : Service) : Type 0 where
  replying : is_replying (view s).phase ≡ true
  untested : refusal sixteen finish_record (view s) ≡ 0

finishes : (s : Service) → let n = (finish_step sixteen laws16 s).number in n ≢ 11 → n ≢ 12 → n ≢ 15 → Finishes s
unfolding finish_step finish_answer finish_refusal refusal not_replying plan_missing view unless ◌then◌
finishes s n11 n12 n15 =
    let e = then_assoc (unless (has_plan (phase_of s.head.phase)) 11) (unless (is_replying (phase_of s.head.phase)) 12) _ in
    let a = passes (has_plan (phase_of s.head.phase)) 11 _ (omega arith) (λ z. n11 (e ∙ z)) in
    let b = passes (is_replying (phase_of s.head.phase)) 12 _ (omega arith) (λ z. n12 (e ∙ a.1 ∙ z)) in
    let c = passes (plan_good (plan_of s.head.plan)) 15 _ (omega arith) (λ z. n15 (e ∙ a.1 ∙ b.1 ∙ z)) in
    let enough = leb s.head.plan.threshold (ones s.head.plan.users (replied (view s))) in
    let d = passes enough 15 _ (omega arith) (λ z. n15 (e ∙ a.1 ∙ b.1 ∙ c.1 ∙ z)) in
    record { replying = b.0; untested = simp (a.0, b.0, d.0) }

-- ---- the arrays behind an accepted open, and behind the calls of the round
every : (cs : List Call) (a : Arrays) → EachTaken (λ r. Unit {0}) cs a
unfolding EachTaken
every [] a = tt
every (c ∷ cs) a = (λ z. tt, every cs (leaves c a))

module _ (a : Arrays) (w : Formed sixteen (state a)) (r : ℕ) (e : number_of (open_call r) a ≡ 0) (cs : List Call) where
  opens : view (state (leaves (open_call r) a)) ≡ next_state (open_record r) (view (state a))
  unfolding number_of leaves open_step after
  opens = ap view ((calls_stand a).open_stands r ∙ ap (λ (n : ℕ). after n (opened (state a).head r) (state a)) e) ∙ opened_view (state a) r

  end_formed : Formed sixteen (state (run cs (leaves (open_call r) a)))
  end_formed = run_formed cs (leaves (open_call r) a) (step_right a w (open_call r)).formed

  keeps : (P : State → Type 0) (Q : Record → Type 0) → ((r : Record) (s t : State) (a : Answer) → Steps sixteen r s a t → Q r → P s → P t)
      → EachTaken Q cs (leaves (open_call r) a) → P (next_state (open_record r) (view (state a))) → P (view (state (run cs (leaves (open_call r) a))))
  keeps P Q k h p = run_keeps P Q k cs (leaves (open_call r) a) (step_right a w (open_call r)).formed h (subst P (sym opens) p)

  first_carried : (k : ℕ) (m : List ℕ) → EachTaken (FirstOf k m) cs (leaves (open_call r) a)
      → Carried k m (view (state (run cs (leaves (open_call r) a)))).firsts
  unfolding next_state opened_state
  first_carried k m h = keeps (λ s. Carried k m s.firsts) (FirstOf k m) (steps_first sixteen k m) h (nothing_carried k m)

  reply_carried : (k : ℕ) (m : List ℕ) → EachTaken (ReplyOf k m) cs (leaves (open_call r) a)
      → Carried k m (view (state (run cs (leaves (open_call r) a)))).replies
  unfolding next_state opened_state
  reply_carried k m h = keeps (λ s. Carried k m s.replies) (ReplyOf k m) (steps_reply sixteen k m) h (nothing_carried k m)

  survived : Survived (view (state (run cs (leaves (open_call r) a))))
  unfolding next_state opened_state Survived is_replying
  survived = keeps Survived (λ r. Unit {0}) (λ r s t b h u. steps_survived sixteen r s t b h) (every cs (leaves (open_call r) a)) (λ h. absurd (holds h))

-- ---- the arrays behind a round whose replies of some users are what the calls gave
module _ (before cs : List Call) (r own heard : ℕ) (is_signed : (k : ℕ) → ℕ) (xs : List ℕ) (x : Table) (lent : (k : ℕ) → Lent)
    (buffer : (k : ℕ) → List ℕ) (o : List ℕ) (h : Pooled before cs r own heard is_signed xs x lent buffer o) where
  abbrev a : Arrays
  a = arrays_behind before r cs

  begun : Formed sixteen (state (run before zeros))
  begun = run_formed before zeros zeros_formed

  formed : Formed sixteen (state a)
  formed = end_formed (run before zeros) begun r h.opens cs

  finishing : Finishes (state a)
  unfolding number_of
  finishing = finishes (state a) h.planned h.replying h.enough

  survivor : (k : ℕ) → in_set (state a).head.survivors k ≡ true → in_set (gathered (view (state a))) k ≡ true
  unfolding Survived view
  survivor k m = ap (λ (u : ℕ). in_set u k) (sym (survived (run before zeros) begun r h.opens cs finishing.replying)) ∙ m

  abbrev plain : (k : ℕ) → List client.Call
  plain k = plainly (state a).head.survivors own (buffer k)

  same : (k : ℕ) → calls (plan_in a) (is_signed k) own xs (x k) k (lent k) (plain k)
      ≡ client.calls sixteen (plan_in a) (code_use (is_signed k)) own xs (x k) k (lent k).key_buffer (plain k)
  unfolding SameGiven
  same k = same_given (plan_in a) (is_signed k) own xs (x k) k (lent k) (plain k)

  -- of users whose replies are whole
  sent_held : ((k : ℕ) → 1 ≤ k → in_set heard k ≡ true → in_set (replied_in a) k ≡ true)
      → round.SentIn sixteen (state a) heard own (λ k. code_use (is_signed k)) xs x (λ k. (lent k).key_buffer) buffer
  unfolding gathered replied view
  sent_held whole =
      record {
        first = λ k i lo hi m l.
            (first_carried (run before zeros) begun r h.opens cs k _ (h.sent.first k lo hi m)).right i
            (complete_held (plan_of (plan_in a)) (view (state a)).firsts (places (plan_of (plan_in a))) k lo hi (survivor k m) i l)
            ∙ ap (λ (g : Handed). get_or (message_in g) i 0) (same k);
        answer = λ k b lo hi m l.
            (reply_carried (run before zeros) begun r h.opens cs k _ (h.sent.answer k lo hi m)).right b
            (complete_held (plan_of (plan_in a)) (view (state a)).replies (plan_in a).blocks k lo hi (whole k lo m) b l)
            ∙ ap (λ (g : Handed). get_or (part_in g) b 0) (same k);
      }

-- ---- the statements
finished_right : (a : Arrays) (o : List ℕ) (k : ℕ) (l : List ℕ) → let t = finish_step sixteen laws16 (state a) in
    (t.number ≡ 0) × (t.aside ≡ k) × (take (places (plan_of (plan_in a))) t.totals ≡ l)
    → (finish_hands a ≡ record { number = 0; aside = k }) × (finish_totals a o ≡ padded most_places l)
unfolding finish_step finish_answer finish_totals
finished_right a o k l t = (
  λ i. record { number = t.0 i; aside = t.1 i },
  after_taken t.0 _ o ∙ totals_padded sixteen laws16 (state a) _ t.0 ∙ ap (padded most_places) t.2,
)

pub round_residues : RoundResidues
unfolding RoundResidues round.RoundResidues filled
round_residues before cs r own is_signed xs x lent buffer o h rows =
    let a = arrays_behind before r cs in
    let held = sent_held before cs r own (replied_in a) is_signed xs x lent buffer o h (λ k lo m. m) in
    let w = formed before cs r own (replied_in a) is_signed xs x lent buffer o h in
    let f = finishing before cs r own (replied_in a) is_signed xs x lent buffer o h in
    finished_right a o _ _ (round-proved.round_residues_sixteen (state a) own (λ k. code_use (is_signed k)) xs x (λ k. (lent k).key_buffer)
    buffer w f.untested h.list rows h.room held)

pub aside_residues : AsideResidues
unfolding AsideResidues round.AsideResidues filled
aside_residues before cs r own z is_signed xs x lent buffer o b rows =
    let a = arrays_behind before r cs in
    let others = without (replied_in a) z in
    let h = b.pooled in
    let held = sent_held before cs r own others is_signed xs x lent buffer o h (λ k lo m. (without_in (replied_in a) z k b.low b.inside lo m).1) in
    let w = formed before cs r own others is_signed xs x lent buffer o h in
    let f = finishing before cs r own others is_signed xs x lent buffer o h in
    finished_right a o _ _ (round-proved.aside_residues_sixteen (state a) z own (λ k. code_use (is_signed k)) xs x (λ k. (lent k).key_buffer)
    buffer w f.untested h.list rows h.room (record {
      low = b.low;
      high = b.high;
      inside = b.inside;
      many = b.many;
      others = held;
    }))

pub round_right : RoundRight
unfolding RoundRight RoundResidues filled
round_right before cs r own xs x lent buffer o h rows =
    let a = arrays_behind before r cs in
    let p = plan_of (plan_in a) in
    let v = (state a).head.survivors in
    let done = round_residues before cs r own (λ k. 0) xs x lent buffer o h rows in
    (done.0, done.1 ∙ ap (padded most_places) (totals_whole sixteen p x v rows sixteen_whole), total_fits sixteen p x v rows)

pub aside_right : AsideRight
unfolding AsideRight AsideResidues filled
aside_right before cs r own z xs x lent buffer o h rows =
    let a = arrays_behind before r cs in
    let p = plan_of (plan_in a) in
    let v = (state a).head.survivors in
    let done = aside_residues before cs r own z (λ k. 0) xs x lent buffer o h rows in
    (done.0, done.1 ∙ ap (padded most_places) (totals_whole sixteen p x v rows sixteen_whole), total_fits sixteen p x v rows)

totals_read : (p : Plan) (c : Changes) (v m : ℕ) (l : List ℕ) → changes_good sixteen p (in_set v) c
    → l ≡ filled most_places (places p) (total_at sixteen p (residues sixteen c) v)
    → map (total_read (suc m)) (take (places p) l) ≡ map (λ i. record { number = 0; value = change_total p c v i }) (span (places p) 0)
unfolding as_reading
totals_read p c v m l good e =
    ap (λ (l : List ℕ). map (total_read (suc m)) (take (places p) l)) e
    ∙ ap (map (total_read (suc m))) (filled_take most_places (total_at sixteen p (residues sixteen c) v) (places p))
    ∙ map-map (total_read (suc m)) (total_at sixteen p (residues sixteen c) v) (span (places p) 0)
    ∙ map_below_same _ _ (places p) (λ i l. ap as_reading (round-proved.total_is_read sixteen laws16 sixteen_whole p c v good i))

pub signed_total : SignedTotal
unfolding SignedTotal RoundResidues
signed_total before cs r own n m xs c lent buffer o h good =
    let a = arrays_behind before r cs in
    let p = plan_of (plan_in a) in
    let v = (state a).head.survivors in
    let done = round_residues before cs r own (λ k. suc (n k)) xs (residues sixteen c) lent buffer o h (changes_admissible sixteen p (in_set v) c good) in
    (done.0, totals_read p c v m _ good done.1)

pub aside_signed : AsideSigned
unfolding AsideSigned AsideResidues
aside_signed before cs r own z n m xs c lent buffer o h good =
    let a = arrays_behind before r cs in
    let p = plan_of (plan_in a) in
    let v = (state a).head.survivors in
    let done = aside_residues before cs r own z (λ k. suc (n k)) xs (residues sixteen c) lent buffer o h (changes_admissible sixteen p (in_set v) c good) in
    (done.0, totals_read p c v m _ good done.1)
