-- Demand 2 from end to end: the calls give rule-true messages, and finish gives the total of those.
--   sent_follows       what the calls gave, held by the service, follows the rules
--   totals_taken       the first L of the totals that finish hands back
--   total_is_read, totals_are_read    a total of signed figures within the bound, by the reader; all of them
--   round_residues, round_right, signed_total, aside_residues, aside_right, aside_signed
--                      the statements of specs/Round.antt, over an arithmetic with its laws
--   round_residues_sixteen, round_right_sixteen, signed_total_sixteen, aside_residues_sixteen, aside_right_sixteen, aside_signed_sixteen
--                      the same modulo 65521
-- Assumes nothing.
use mathlib.Core.Path.{◌≡◌, ap, ◌∙◌}
use mathlib.Core.Bool.{Bool, true, cond}
use mathlib.Core.List.{List, map, map-map}
use Prim.Native.Nat.{ℕ, ◌≤◌}
use lib.ListN.{get_or, take}
use borrow.Author.Tests.{lt-ltb}
use Rattle.scheme.specs.Limits.{most_users, most_threshold, most_places}
use Rattle.scheme.specs.Lists.{span, filled}
use Rattle.scheme.specs.Scheme as scheme
use Rattle.scheme.specs.Scheme.{Arithmetic, sixteen, places, signed, in_set, users_in, total_at}
use Rattle.scheme.specs.Laws.{Laws, AddsWhole}
use Rattle.scheme.specs.Promise.{Table, admissible, list_good, rows_good}
use Rattle.scheme.specs.Signed.{meant, Changes, changes_good, residues, change_total, SignedRead}
use Rattle.scheme.specs.Totals.{Follows}
use Rattle.scheme.specs.Aside.{without}
use Rattle.scheme.specs.Service.{finish_record, refusal, replied, values}
use Rattle.scheme.proofs.Padded.{filled_take}
use Rattle.scheme.proofs.Lists.{map_below_same}
use Rattle.scheme.proofs.Sums.{sum_small}
use Rattle.scheme.proofs.Signed.{sixteen_whole}
use Rattle.scheme.proofs.Whole.{total_fits, totals_whole, signed_read, changes_admissible}
use Rattle.scheme.proofs.Pooling.Without.{without_in}
use Rattle.scheme.proofs.Pooling.Well.{Finishing, finishing, replied_survives}
use Rattle.plan.specs.declared.Plan.{Plan}
use Rattle.plan.specs.declared.Use.{Use}
use Rattle.plan.specs.declared.Use.TheVariants.{Counts, Signed}
use Rattle.plan.specs.Plan.{plan_of, use_of}
use Rattle.client.proofs.Shown.{InputsRight, message_is_sent, part_is_sent}
use Rattle.solve.specs.Solve.{laws16}
use Rattle.service.specs.declared.Service.{Service}
use Rattle.service.specs.View.{view, Formed}
use Rattle.finish.specs.Promise as finish
use Rattle.finish.proofs.Steps as finish-proved
use Rattle.reading.specs.Read.{Refused, Value}
use Rattle.reading.specs.Reading.{reading}
use Rattle.round.specs.Round.{SentIn, Room, RoundResidues, RoundRight, SignedTotal, AsideResidues, AsideRight, AsideSigned}

-- ---- the calls follow the rules
module _ (A : Arithmetic) (L : Laws A most_users most_threshold) (s : Service) (own : ℕ) (uses : (k : ℕ) → Use) (xs : List ℕ) (x : Table)
    (ko o : (k : ℕ) → List ℕ) (w : Formed A s) (e : refusal A finish_record (view s) ≡ 0) (ok : list_good A (plan_of s.head.plan) xs ≡ true)
    (rows : admissible A (plan_of s.head.plan) (in_set s.head.survivors) (λ k. use_of (uses k)) x) (room : Room (plan_of s.head.plan) ko o) where
  abbrev p : Plan
  p = s.head.plan

  abbrev v : ℕ
  v = s.head.survivors

  f : Finishing (view s)
  f = finishing A (view s) e

  ready : (k : ℕ) → 1 ≤ k → k ≤ p.users → in_set v k ≡ true → InputsRight A p (uses k) xs k (x k) (ko k)
  unfolding rows_good view
  ready k lo hi m =
      record { good_plan = w.well.good f.planned; good_list = ok; user = (lo, hi); figures = rows k lo hi m; room = (room k lo hi).0 }

  survives : (k : ℕ) → 1 ≤ k → k ≤ p.users → in_set (replied (view s)) k ≡ true → in_set v k ≡ true
  unfolding view
  survives = replied_survives A (view s) w.well f.planned

  -- of users whose replies are complete
  sent_follows : (r : ℕ) → ((k : ℕ) → 1 ≤ k → in_set r k ≡ true → in_set (replied (view s)) k ≡ true) → SentIn A s r own uses xs x ko o
      → Follows A (plan_of p) xs x v r (values (view s).firsts) (values (view s).replies)
  unfolding view
  sent_follows r part held =
      record {
        first = λ k i lo hi m h.
            let sent = message_is_sent A L p (uses k) own v xs k (x k) (ko k) (ready k lo hi m) (o k) (room k lo hi).1 in
            held.first k i lo hi m h ∙ ap (λ (l : List ℕ). get_or l i 0) sent;
        survives = λ k lo hi m. survives k lo hi (part k lo m);
        answer = λ k b lo hi m h.
            let n = survives k lo hi (part k lo m) in
            let sent = part_is_sent A L p (uses k) own v xs k (x k) (ko k) (ready k lo hi n) (o k) (room k lo hi).1 (w.well.survive f.replying) n in
            held.answer k b lo hi m h ∙ ap (λ (l : List ℕ). get_or l b 0) sent;
      }

module _ (A : Arithmetic) (L : Laws A most_users most_threshold) where
  totals_taken : (q : scheme.Plan) (x : Table) (v : ℕ) (l : List ℕ) → l ≡ filled most_places (places q) (total_at A q x v)
      → take (places q) l ≡ map (total_at A q x v) (span (places q) 0)
  totals_taken q x v l e = ap (take (places q)) e ∙ filled_take most_places (total_at A q x v) (places q)

  pub round_residues : RoundResidues A L
  unfolding RoundResidues finish.FinishResidues
  round_residues s own uses xs x ko o w e ok rows room held =
      let done = finish-proved.finish_residues A L s xs x w e ok
      (sent_follows A L s own uses xs x ko o w e ok rows room (replied (view s)) (λ k lo m. m) held) in
      (done.0, done.1, totals_taken (plan_of s.head.plan) x s.head.survivors _ done.2)

  pub aside_residues : AsideResidues A L
  unfolding AsideResidues finish.AsideResidues
  aside_residues s z own uses xs x ko o w e ok rows room h =
      let r = replied (view s) in
      let done = finish-proved.aside_residues A L s xs x z w e ok h.many (record {
        low = h.low;
        high = h.high;
        inside = h.inside;
        survives = survives A L s own uses xs x ko o w e ok rows room z h.low h.high h.inside;
        others = sent_follows A L s own uses xs x ko o w e ok rows room (without r z) (λ k lo m. (without_in r z k h.low h.inside lo m).1) h.others;
      }) in
      (done.0, done.1, totals_taken (plan_of s.head.plan) x s.head.survivors _ done.2)

module _ (A : Arithmetic) (L : Laws A most_users most_threshold) (adds : AddsWhole A) where
  pub round_right : RoundRight A L
  unfolding RoundRight RoundResidues
  round_right s own xs x ko o w e ok rows room held =
      let p = plan_of s.head.plan in
      let v = s.head.survivors in
      let done = round_residues A L s own (λ k. Counts) xs x ko o w e ok rows room held in
      (done.0, done.1, done.2 ∙ totals_whole A p x v rows adds, total_fits A p x v rows)

  pub aside_right : AsideRight A L
  unfolding AsideRight AsideResidues
  aside_right s z own xs x ko o w e ok rows room h =
      let p = plan_of s.head.plan in
      let v = s.head.survivors in
      let done = aside_residues A L s z own (λ k. Counts) xs x ko o w e ok rows room h in
      (done.0, done.1, done.2 ∙ totals_whole A p x v rows adds, total_fits A p x v rows)

  module _ (p : scheme.Plan) (c : Changes) (v : ℕ) (good : changes_good A p (in_set v) c) where
    -- a total is an element, and is read
    pub total_is_read : (i : ℕ) → reading A signed (total_at A p (residues A c) v i) ≡ Value (change_total p c v i)
    unfolding reading SignedRead total_at
    total_is_read i =
        let t = total_at A p (residues A c) v i in
        ap (λ (b : Bool). cond b (Value (meant A signed t)) (Refused 3)) (lt-ltb t A.size (sum_small A _ _ L (users_in p v) _))
        ∙ ap Value (signed_read A p adds c v i good).0

    totals_are_read : (l : List ℕ) → l ≡ map (total_at A p (residues A c) v) (span (places p) 0)
        → map (reading A signed) l ≡ map (λ i. Value (change_total p c v i)) (span (places p) 0)
    totals_are_read l e =
        ap (map (reading A signed)) e ∙ map-map (reading A signed) (total_at A p (residues A c) v) (span (places p) 0)
        ∙ map_below_same _ _ (places p) (λ i h. total_is_read i)

  pub signed_total : SignedTotal A L
  unfolding SignedTotal RoundResidues
  signed_total s own xs c ko o w e ok good room held =
      let p = plan_of s.head.plan in
      let v = s.head.survivors in
      let done = round_residues A L s own (λ k. Signed) xs (residues A c) ko o w e ok (changes_admissible A p (in_set v) c good) room held in
      (done.0, done.1, totals_are_read p c v good _ done.2)

  pub aside_signed : AsideSigned A L
  unfolding AsideSigned AsideResidues
  aside_signed s z own xs c ko o w e ok good room h =
      let p = plan_of s.head.plan in
      let v = s.head.survivors in
      let done = aside_residues A L s z own (λ k. Signed) xs (residues A c) ko o w e ok (changes_admissible A p (in_set v) c good) room h in
      (done.0, done.1, totals_are_read p c v good _ done.2)

-- ---- modulo 65521
pub round_residues_sixteen : RoundResidues sixteen laws16
round_residues_sixteen = round_residues sixteen laws16

pub round_right_sixteen : RoundRight sixteen laws16
round_right_sixteen = round_right sixteen laws16 sixteen_whole

pub signed_total_sixteen : SignedTotal sixteen laws16
signed_total_sixteen = signed_total sixteen laws16 sixteen_whole

pub aside_residues_sixteen : AsideResidues sixteen laws16
aside_residues_sixteen = aside_residues sixteen laws16

pub aside_right_sixteen : AsideRight sixteen laws16
aside_right_sixteen = aside_right sixteen laws16 sixteen_whole

pub aside_signed_sixteen : AsideSigned sixteen laws16
aside_signed_sixteen = aside_signed sixteen laws16 sixteen_whole
