-- The exported service calls one after the other, over the arrays that the caller lends, as their contracts have them.
--   Call, record_of        a call with what it is given; the record of document 01 that it stands for
--   plan_in                the plan that arrays hold
--   finish_hands           what finish hands back: its number, and the user set aside
--   number_of, leaves      the number that a call hands back, and the arrays that it leaves
--   handed, answer_to      what it hands back beside the number, and with it: document 01's answer
--   run, answers           the arrays after a list of calls, and what the calls answered
--   RunRight, RunsRight  calls on arrays of zeros are a run of document 01's service, whatever they are given
--   OpensAsNew           an accepted open leaves the arrays that it leaves of zeros with the same plan
-- Assumes nothing: these are definitions.
use Rattle.std.specs.Prelude.{◌≡◌, List, [], ◌∷◌, map, ℕ, take}
use Rattle.scheme.specs.Scheme.{sixteen, places}
use Rattle.scheme.specs.Service.{new_state, Record, plan_record, open_record, first_record, close_record, reply_record, finish_record, Answer, silent, planned, opened, closed, totalled, Runs}
use Rattle.solve.specs.Solve.{laws16}
use Rattle.plan.specs.declared.Plan.{Plan}
use Rattle.plan.specs.Plan.{plan_of}
use Rattle.service.specs.View.{view, Formed}
use Rattle.service.specs.Calls.{plan_step, open_step, first_refusal, first_left, close_step, reply_refusal, reply_left}
use Rattle.service.specs.Promise.{told}
use Rattle.finish.specs.Finish.{finish_step}
use Rattle.capi.specs.declared.pooling.CutawhenoFinished.{CutawhenoFinished}
use Rattle.capi.specs.Lent.{Arrays, arrays, zeros, head_at, state, plan_left, open_left, closed_answer, close_left, finished_answer, finish_left, finish_totals}

-- finish is lent a buffer for the totals
pub data Call : Type 0 where
  plan_call : Plan → Call
  open_call : (round : ℕ) → Call
  first_call : (k place element : ℕ) → Call
  close_call : Call
  reply_call : (k block element : ℕ) → Call
  finish_call : (totals : List ℕ) → Call

unfoldable pub record_of : Call → Record
record_of (plan_call p) = plan_record (plan_of p)
record_of (open_call r) = open_record r
record_of (first_call k i x) = first_record k i x
record_of close_call = close_record
record_of (reply_call k b x) = reply_record k b x
record_of (finish_call o) = finish_record

abbrev pub plan_in : Arrays → Plan
plan_in a = (state a).head.plan

abbrev pub finish_hands : Arrays → CutawhenoFinished
finish_hands a = finished_answer (finish_step sixteen laws16 (state a))

unfoldable pub number_of : Call → Arrays → ℕ
number_of (plan_call p) a = (plan_step (state a) p).number
number_of (open_call r) a = (open_step (state a) r).number
number_of (first_call k i x) a = first_refusal sixteen (head_at a.head) a.first k i x
number_of close_call a = (closed_answer (close_step (state a))).number
number_of (reply_call k b x) a = reply_refusal sixteen (head_at a.head) a.reply k b x
number_of (finish_call o) a = (finish_hands a).number

unfoldable pub leaves : Call → Arrays → Arrays
leaves (plan_call p) a = plan_left a p
leaves (open_call r) a = open_left a r
leaves (first_call k i x) a = arrays a.head (first_left sixteen (head_at a.head) a.first k i x) a.reply
leaves close_call a = close_left a
leaves (reply_call k b x) a = arrays a.head a.first (reply_left sixteen (head_at a.head) a.reply k b x)
leaves (finish_call o) a = finish_left a

-- of a taken call: the set that close hands back; the user that finish sets aside; the totals are the first L of the lent buffer as it leaves it
unfoldable pub handed : Call → Arrays → Answer
handed (plan_call p) a = planned (plan_of p)
handed (open_call r) a = opened r
handed (first_call k i x) a = silent
handed close_call a = closed (state a).head.round (closed_answer (close_step (state a))).set
handed (reply_call k b x) a = silent
handed (finish_call o) a = totalled (state a).head.round (finish_hands a).aside (take (places (plan_of (plan_in a))) (finish_totals a o))

abbrev pub answer_to : Call → Arrays → Answer
answer_to c a = told (number_of c a) (handed c a)

unfoldable pub run : List Call → Arrays → Arrays
run [] a = a
run (c ∷ cs) a = run cs (leaves c a)

unfoldable pub answers : List Call → Arrays → List Answer
answers [] a = []
answers (c ∷ cs) a = answer_to c a ∷ answers cs (leaves c a)

-- what document 01 promises of every run (Demand2 of scheme/specs/ServicePromise.antt) is so promised of the calls
pub record RunRight (cs : List Call) : Type 0 where
  pub runs : Runs sixteen (map record_of cs) new_state (answers cs zeros) (view (state (run cs zeros)))
  pub formed : Formed sixteen (state (run cs zeros))

unfoldable pub RunsRight : Type 0
RunsRight = (cs : List Call) → RunRight cs

unfoldable pub OpensAsNew : Type 0
OpensAsNew =
    (cs : List Call) (r : ℕ) → let a = run cs zeros in
    number_of (open_call r) a ≡ 0 → leaves (open_call r) a ≡ run (plan_call (plan_in a) ∷ open_call r ∷ []) zeros
