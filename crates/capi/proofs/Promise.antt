-- The promises to callers in C and Rust.
--   same_length          as many usable sets hold each user
--   ends_stand           call by call
--   part_is_reply        by the definitions
--   start_of_part        a lookup's tests are among those of a reply
--   same_part            test 19 at the stage that the array has then
-- Assumes nothing.
use Rattle.std.proofs.Common.{◌≡◌, refl, sym, ap, ◌∙◌, List, ℕ, zero, suc, ◌+◌, ◌*◌, arith, length, take, drop, set, set-set, eq-eqb, leb-true}
use mathlib.Core.Option.{some}
use native.Mathlib.Decide.{ℕ_discrete}
use Rattle.scheme.specs.Scheme as scheme
use Rattle.scheme.specs.Scheme.{sixteen, places, is_user, key_length, reply_start, reply, is_fresh, open_to, after}
use Rattle.scheme.proofs.Tests.{and_both}
use Rattle.scheme.proofs.Good.{good}
use Rattle.scheme.proofs.Refusals.{after_taken, after_refused, start_passes, lookup_passes}
use Rattle.plan.specs.declared.Plan as code
use Rattle.plan.specs.Plan.{plan_of, code_use}
use Rattle.plan.proofs.Counts.{with_same}
use Rattle.plan.specs.Lengths.{key_len}
use Rattle.client.specs.declared.Stage.{Stage}
use Rattle.client.specs.declared.Stage.TheVariants.{Sent, Answered}
use Rattle.client.specs.declared.Client.{Client}
use Rattle.client.specs.Client.{stage_of, stage_of_number, stage_number, fresh_end, begun_with, at_stage, moved, answer_refusal, reply_answer, part_of}
use Rattle.client.proofs.Laws.{reply_own, reply_answers, reply_taken}
use Rattle.capi.specs.Ends.{end_length, code_stage, end_at, fresh_numbers, start_left, kept, part_by, part_answer}
use Rattle.capi.specs.Promise.{SameLength, EndStands, EndsStand, PartIsReply, StartOfPart, SamePart}
use Rattle.capi.proofs.Laws.{stage_moved, kept_taken, part_taken, part_refused}

pub same_length : SameLength
unfolding SameLength is_user key_length key_len
same_length p k g u =
    let f = good p g in
    let r = and_both _ _ u in
    let e = sym (with_same p k (leb-true _ _ r.0) (leb-true _ _ r.1)) ∙ with_same p 1 (omega arith) (omega (arith, f.users_low)) in
    ap (λ (n : ℕ). places p + n * p.blocks) e ∙ sym (after_taken (start_passes p 1 (f, omega arith, omega (arith, f.users_low))) _ _)

-- ---- the airfield end on its array
module _ (e : List ℕ) (l : length e ≡ end_length) where
  started_stands : (n : ℕ) (p : code.Plan) (k m r : ℕ) → let s = begun_with n (fresh_end p k (code_use m) r) in
      s.number ≡ 0 → s.client ≡ some (end_at (after s.number (fresh_numbers p k m r) e))
  unfolding after end_at code_stage stage_of_number
  started_stands zero p k m r z = refl
  started_stands (suc n) p k m r z = absurd (omega arith)

  moved_stands : (n : ℕ) (g : Stage) → let a = moved n (end_at e) g in end_at (kept a e) ≡ a.client
  unfolding kept after
  moved_stands zero g = stage_moved e l g
  moved_stands (suc n) g = refl

  end_stands : EndStands e
  unfolding start_left
  end_stands =
      record {
        start_stands = λ p k n r. started_stands _ p k n r;
        first_stands = λ ks fs n. moved_stands _ Sent;
        reply_stands = λ ks v r. moved_stands _ (Answered v);
      }

pub ends_stand : EndsStand
unfolding EndsStand
ends_stand e l = end_stands e l

part_shares : (c : Client) (ks : List ℕ) (v r : ℕ) → let p = part_answer c ks v r in take p.count (drop p.start ks) ≡ part_of sixteen c ks v r
unfolding reply part_of
part_shares c ks v r = either (ℕ_discrete (answer_refusal sixteen c ks v r) 0)
  where
    either : Dec (answer_refusal sixteen c ks v r ≡ 0) → let p = part_answer c ks v r in take p.count (drop p.start ks) ≡ part_of sixteen c ks v r
    either (yes z) = rw (part_taken c v z) (sym (after_taken z _ _))
    either (no h) = rw (part_refused c v h) (sym (after_refused h _ _))

pub part_is_reply : PartIsReply
unfolding PartIsReply part_by
part_is_reply c ks v r = record { number = refl; shares = part_shares c ks v r }

pub start_of_part : StartOfPart
unfolding StartOfPart part_by
start_of_part c ks v r z =
    let t = reply_answers _ _ _ z in
    let n = lookup_passes _ _ _ t.begun t.whole t.member in
    let s = reply_start (plan_of c.plan) c.user v in
    λ i. record { number = n i; start = (after_taken n s 0 ∙ sym (after_taken z s 0)) i }

-- a taken reply leaves the end that has answered the set
module _ (e ks : List ℕ) (v r : ℕ) (l : length e ≡ end_length) (z : (part_answer (end_at e) ks v r).number ≡ 0) where
  taken : answer_refusal sixteen (end_at e) ks v r ≡ 0
  unfolding part_by
  taken = z

  asked : end_at (kept (reply_answer sixteen (end_at e) ks v r) e) ≡ at_stage (end_at e) (Answered v)
  asked = moved_stands e l _ (Answered v) ∙ after_taken taken _ _

  again : answer_refusal sixteen (end_at (kept (reply_answer sixteen (end_at e) ks v r) e)) ks v r ≡ 0
  unfolding stage_of is_fresh open_to
  again =
      ap (λ (c : Client). answer_refusal sixteen c ks v r) asked
      ∙ reply_taken (reply_answers _ _ _ taken) (scheme.answered v) _ _ refl (reply_own _ _ _ _ _ _ _ _ taken) (eq-eqb v v refl)

pub same_part : SamePart
unfolding SamePart
same_part e ks v r l z =
    let n = stage_number (stage_of (Answered v)) in
    let moved : kept (reply_answer sixteen (end_at e) ks v r) e ≡ set e 5 n = kept_taken _ _ e (taken e ks v r l z) in (
      part_taken _ v (again e ks v r l z)
          ∙ ap (λ (c : Client). record { number = 0; start = reply_start (plan_of c.plan) c.user v; count = c.plan.blocks }) (asked e ks v r l z)
          ∙ sym (part_taken _ v (taken e ks v r l z)),
      kept_taken _ _ _ (again e ks v r l z) ∙ ap (λ (d : List ℕ). set d 5 n) moved ∙ set-set e 5 n n ∙ sym moved,
    )
