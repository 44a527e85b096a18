-- What callers in C and Rust lean on.
--   SameLength       one length serves every user's key
--   EndStands, EndsStand    what the calls leave in an end's array stands for the end that the client's own calls hand back, so that
--                     what client/specs/Promise.antt says of those holds of the array
--   PartGiven, PartIsReply the part that a reply names is the one that the client's own reply hands back
--   StartOfPart     a lookup finds what a reply names
--   SamePart         "the same set asked again gets the same part", and the array stays
--   NewStands        arrays of zeros are those of a new service, and stand for it
--   CallsStand       what the calls leave in lent arrays stands for the state that the service's own calls hand back, so that what
--                     service/specs/Promise.antt and finish/specs/Promise.antt say of those holds of the arrays
-- Assumes nothing: these are definitions.
use Rattle.std.specs.Prelude.{◌≡◌, true, List, ℕ, length, take, drop}
use Rattle.std.proofs.Math.Option.{some}
use Rattle.scheme.specs.Scheme.{sixteen, Plan, plan_good, is_user, key_length}
use Rattle.solve.specs.Solve.{laws16}
use Rattle.plan.specs.declared.Plan as code
use Rattle.plan.specs.Plan.{plan_of, code_use}
use Rattle.plan.specs.Lengths.{key_len}
use Rattle.client.specs.declared.Client.{Client}
use Rattle.client.specs.Client.{begun, first_answer, reply_answer, part_of}
use Rattle.service.specs.Calls.{new_service, plan_step, open_step, first_left, first_step, close_step, reply_left, reply_step}
use Rattle.finish.specs.Finish.{finish_step}
use Rattle.capi.specs.Ends.{end_length, end_at, start_left, kept, part_answer}
use Rattle.capi.specs.Found.{start_found}
use Rattle.capi.specs.Lent.{Arrays, arrays, zeros, arrays_of, head_at, state, plan_left, open_left, close_left, finish_left}

unfoldable pub SameLength : Type 0
SameLength = (p : Plan) (k : ℕ) → plan_good p ≡ true → is_user p k ≡ true → key_length p k ≡ key_len p 1

-- an end that stands in an array: start from any content, and the stage moved by the calls
pub record EndStands (e : List ℕ) : Type 0 where
  pub start_stands : (p : code.Plan) (k n r : ℕ) → let b = begun p k (code_use n) r in b.number ≡ 0 → b.client ≡ some (end_at (start_left p k n r e))
  pub first_stands : (ks fs : List ℕ) (n : ℕ) → let a = first_answer sixteen (end_at e) ks fs n in end_at (kept a e) ≡ a.client
  pub reply_stands : (ks : List ℕ) (v r : ℕ) → let a = reply_answer sixteen (end_at e) ks v r in end_at (kept a e) ≡ a.client

unfoldable pub EndsStand : Type 0
EndsStand = (e : List ℕ) → length e ≡ end_length → EndStands e

pub record PartGiven (c : Client) (ks : List ℕ) (v r : ℕ) : Type 0 where
  pub number : (part_answer c ks v r).number ≡ (reply_answer sixteen c ks v r).number
  pub shares : let p = part_answer c ks v r in take p.count (drop p.start ks) ≡ part_of sixteen c ks v r

unfoldable pub PartIsReply : Type 0
PartIsReply = (c : Client) (ks : List ℕ) (v r : ℕ) → PartGiven c ks v r

-- without the key, and whatever stage and round were
unfoldable pub StartOfPart : Type 0
StartOfPart =
    (c : Client) (ks : List ℕ) (v r : ℕ) → (part_answer c ks v r).number ≡ 0 →
    start_found (plan_of c.plan) c.user v ≡ record { number = 0; start = (part_answer c ks v r).start }

unfoldable pub SamePart : Type 0
SamePart =
    (e ks : List ℕ) (v r : ℕ) → length e ≡ end_length → (part_answer (end_at e) ks v r).number ≡ 0 →
    let asked = kept (reply_answer sixteen (end_at e) ks v r) e in
    (part_answer (end_at asked) ks v r ≡ part_answer (end_at e) ks v r) × (kept (reply_answer sixteen (end_at asked) ks v r) asked ≡ asked)

unfoldable pub NewStands : Type 0
NewStands = (zeros ≡ arrays_of new_service) × (state zeros ≡ new_service)

pub record CallsStand (a : Arrays) : Type 0 where
  pub plan_stands : (p : code.Plan) → state (plan_left a p) ≡ (plan_step (state a) p).service
  pub open_stands : (r : ℕ) → state (open_left a r) ≡ (open_step (state a) r).service
  pub first_stands : (k i x : ℕ)
      → state (arrays a.head (first_left sixteen (head_at a.head) a.first k i x) a.reply) ≡ (first_step sixteen (state a) k i x).service
  pub close_stands : state (close_left a) ≡ (close_step (state a)).service
  pub reply_stands : (k b x : ℕ)
      → state (arrays a.head a.first (reply_left sixteen (head_at a.head) a.reply k b x)) ≡ (reply_step sixteen (state a) k b x).service
  pub finish_stands : state (finish_left a) ≡ (finish_step sixteen laws16 (state a)).service
