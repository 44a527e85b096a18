-- That the calls are the steps of document 01's service, over an arithmetic: demands 1 and 2 for the program's own functions.
--   told                     what a call's number answers
--   IsStep                  a call on a well-formed state is a step of scheme/specs/Service.antt, and its state is well-formed
--   PlanSteps, OpenSteps, FirstSteps, ReplySteps, CloseSteps     one for each kind of record
--   NewFormed               a new service is well-formed
--   RefusedUnchanged        "the state and every lent buffer stay as before the call", of any state; a refused close names no set
--   HeldRight, FirstHeld, ReplyHeld     of an element where one is held, of any array: a repeat is taken and leaves the array as it was, and
--                            13 is for another element alone
--   OpensAsNew             after an accepted open the whole state is that of a new service with the same plan, opened at that round
-- Assumes nothing: these are definitions.
use Rattle.std.specs.Prelude.{◌≡◌, ◌≢◌, ◌↔◌, List, ℕ, get_or}
use Rattle.std.proofs.Math.Option.{some}
use Rattle.scheme.specs.Limits.{most_blocks, most_places}
use Rattle.scheme.specs.Scheme.{Arithmetic, after}
use Rattle.scheme.specs.Service.{Answer, silent, refused, Record, plan_record, open_record, first_record, close_record, reply_record, Steps}
use Rattle.scheme.specs.Service as scheme
use Rattle.scheme.specs.Repeats.{HoldsOther}
use Rattle.plan.specs.declared.Plan.{Plan}
use Rattle.plan.specs.Plan.{plan_of}
use Rattle.service.specs.declared.Head.{Head}
use Rattle.service.specs.declared.Service.{Service}
use Rattle.service.specs.View.{stored, slot, view, Formed}
use Rattle.service.specs.Calls.{nothing_first, nothing_reply, new_service, planned, plan_step, open_step, first_refusal, first_left, first_step, close_step, reply_refusal, reply_left, reply_step}

unfoldable pub told : (number : ℕ) → Answer → Answer
told n a = after n a (refused n)

pub record IsStep (A : Arithmetic) (r : Record) (s : Service) (a : Answer) (t : Service) : Type 0 where
  pub step : Steps A r (view s) a (view t)
  pub formed : Formed A t

unfoldable pub NewFormed : Arithmetic → Type 0
NewFormed A = (view new_service ≡ scheme.new_state) × Formed A new_service

unfoldable pub PlanSteps : Arithmetic → Type 0
PlanSteps A =
    (s : Service) (p : Plan) → Formed A s →
    IsStep A (plan_record (plan_of p)) s (told (plan_step s p).number (scheme.planned (plan_of p))) (plan_step s p).service

unfoldable pub OpenSteps : Arithmetic → Type 0
OpenSteps A =
    (s : Service) (r : ℕ) → Formed A s → IsStep A (open_record r) s (told (open_step s r).number (scheme.opened r)) (open_step s r).service

unfoldable pub FirstSteps : Arithmetic → Type 0
FirstSteps A =
    (s : Service) (k i x : ℕ) → Formed A s →
    IsStep A (first_record k i x) s (told (first_step A s k i x).number silent) (first_step A s k i x).service

unfoldable pub ReplySteps : Arithmetic → Type 0
ReplySteps A =
    (s : Service) (k b x : ℕ) → Formed A s →
    IsStep A (reply_record k b x) s (told (reply_step A s k b x).number silent) (reply_step A s k b x).service

unfoldable pub CloseSteps : Arithmetic → Type 0
CloseSteps A =
    (s : Service) → Formed A s →
    IsStep A close_record s (told (close_step s).number (scheme.closed s.head.round (close_step s).set)) (close_step s).service

pub record RefusedUnchanged (A : Arithmetic) (s : Service) : Type 0 where
  pub plan : (p : Plan) → (plan_step s p).number ≢ 0 → (plan_step s p).service ≡ s
  pub «open» : (r : ℕ) → (open_step s r).number ≢ 0 → (open_step s r).service ≡ s
  pub first : (k i x : ℕ) → (first_step A s k i x).number ≢ 0 → (first_step A s k i x).service ≡ s
  pub close : (close_step s).number ≢ 0 → ((close_step s).set ≡ 0) × ((close_step s).service ≡ s)
  pub reply : (k b x : ℕ) → (reply_step A s k b x).number ≢ 0 → (reply_step A s k b x).service ≡ s

-- of a call's number and the array that it leaves, for any array; `number empty` is 0 where all tests before 13 are passed
pub record HeldRight (w : ℕ) (empty : List ℕ) (number : List ℕ → (k at element : ℕ) → ℕ) (left : List ℕ → (k at element : ℕ) → List ℕ) : Type 0 where
  pub repeated : (xs : List ℕ) (k i x : ℕ) → number empty k i x ≡ 0 → stored (get_or xs (slot w k i) 0) ≡ some x →
      (number xs k i x ≡ 0) × (left xs k i x ≡ xs)
  pub thirteen : (xs : List ℕ) (k i x : ℕ) → (number xs k i x ≡ 13) ↔ ((number empty k i x ≡ 0) × HoldsOther (stored (get_or xs (slot w k i) 0)) x)

unfoldable pub FirstHeld : Arithmetic → Type 0
FirstHeld A = (h : Head) → HeldRight most_places nothing_first (first_refusal A h) (first_left A h)

unfoldable pub ReplyHeld : Arithmetic → Type 0
ReplyHeld A = (h : Head) → HeldRight most_blocks nothing_reply (reply_refusal A h) (reply_left A h)

unfoldable pub OpensAsNew : Arithmetic → Type 0
OpensAsNew A =
    (s : Service) (r : ℕ) → Formed A s → (open_step s r).number ≡ 0 → open_step s r ≡ open_step (planned s.head.plan) r
