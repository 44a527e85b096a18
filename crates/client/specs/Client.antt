-- What the calls of an airfield end answer and leave, by the refusals of scheme/specs/Scheme.antt, over an arithmetic as a parameter.
--   stage_of                 document 01's stage of the enum
--   stage_of_number, stage_number    the stage that a number stands for, where an end is kept as numbers; and the number of a stage
--   Begun, begun_by          what a start hands back in document 01's words: 0 and the end, or the refusal's number and none
--   fresh_end                an end that nothing has come to yet
--   begun_with, begun        what Client::start answers: 0 and a fresh end, or 1 or 4 alone
--   first_refusal, answer_refusal    0, or why a first message or a reply is refused
--   Moved                    what a call hands back: 0 or the refusal's number, and the end
--   moved_by, replied_by     what a first message and a reply say in these words: after a refusal the end is the caller's own
--   at_stage, moved          a client at another stage; number and client handed back: the next stage, or the client as it was
--   first_answer, message_left       what a first message hands back, and leaves in its buffer
--   reply_answer             what a reply hands back beside the part
--   part_of, part_start      the part that goes with a reply, and where in the key it starts
-- Assumes nothing: these are definitions.
use Rattle.std.specs.Prelude.{List, [], ℕ, zero, suc, ◌+◌, length, Result, Ok, Err}
use Rattle.std.proofs.Math.Option.{Option, none, some}
use Rattle.scheme.specs.Scheme as scheme
use Rattle.scheme.specs.Scheme.{Arithmetic, first_message, reply, reply_start, start_refusal, message_refusal, reply_refusal, after}
use Rattle.plan.specs.declared.Plan.{Plan}
use Rattle.plan.specs.declared.Use.{Use}
use Rattle.plan.specs.declared.refusal.Refusal.{Refusal}
use Rattle.plan.specs.Plan.{plan_of, use_of}
use Rattle.plan.specs.Numbers.{number_of}
use Rattle.client.specs.declared.Stage.{Stage}
use Rattle.client.specs.declared.Stage.TheVariants.{Fresh, Sent, Answered}
use Rattle.client.specs.declared.Client.{Client}
use Rattle.client.specs.declared.Replied.{Replied}

unfoldable pub stage_of : Stage → scheme.Stage
stage_of Fresh = scheme.fresh
stage_of Sent = scheme.sent
stage_of (Answered v) = scheme.answered v

-- 0 is fresh, 1 is sent, 2 + v has answered the set v
unfoldable pub stage_of_number : ℕ → scheme.Stage
stage_of_number zero = scheme.fresh
stage_of_number (suc zero) = scheme.sent
stage_of_number (suc (suc v)) = scheme.answered v

unfoldable pub stage_number : scheme.Stage → ℕ
stage_number scheme.fresh = 0
stage_number scheme.sent = 1
stage_number (scheme.answered v) = v + 2

-- what a start hands back in document 01's words: a number, and the end if there is one
pub record Begun : Type 0 where
  pub number : ℕ
  pub client : Option Client

abbrev pub begun_by : Result Client Refusal → Begun
begun_by (Ok c) = record { number = 0; client = some c }
begun_by (Err r) = record { number = number_of r; client = none }

abbrev pub fresh_end : Plan → (user : ℕ) → Use → (round : ℕ) → Client
fresh_end p k u r = record { plan = p; user = k; usage = u; round = r; stage = Fresh }

abbrev pub begun_with : (refusal : ℕ) → Client → Begun
begun_with n c = record { number = n; client = after n (some c) none }

abbrev pub begun : Plan → (user : ℕ) → Use → (round : ℕ) → Begun
begun p k u r = begun_with (start_refusal (plan_of p) k) (fresh_end p k u r)

abbrev pub first_refusal : Arithmetic → Client → (key figures : List ℕ) → (out : ℕ) → ℕ
first_refusal A c ks fs out = message_refusal A (plan_of c.plan) c.user (use_of c.usage) (stage_of c.stage) ks fs out

abbrev pub answer_refusal : Arithmetic → Client → (key : List ℕ) → (set round : ℕ) → ℕ
answer_refusal A c ks v r = reply_refusal A (plan_of c.plan) c.user (stage_of c.stage) c.round ks v r

abbrev pub at_stage : Client → Stage → Client
at_stage c g = record { plan = c.plan; user = c.user; usage = c.usage; round = c.round; stage = g }

pub record Moved : Type 0 where
  pub number : ℕ
  pub client : Client

abbrev pub moved_by : Client → Result Client Refusal → Moved
moved_by c (Ok d) = record { number = 0; client = d }
moved_by c (Err r) = record { number = number_of r; client = c }

abbrev pub moved : (refusal : ℕ) → Client → (next : Stage) → Moved
moved n c g = record { number = n; client = after n (at_stage c g) c }

abbrev pub first_answer : Arithmetic → Client → (key figures : List ℕ) → (out : ℕ) → Moved
first_answer A c ks fs out = moved (first_refusal A c ks fs out) c Sent

abbrev pub message_left : Arithmetic → Client → (key figures : List ℕ) → (buffer : List ℕ) → List ℕ
message_left A c ks fs o = after (first_refusal A c ks fs (length o)) (first_message A (plan_of c.plan) ks fs) o

abbrev pub replied_by : Client → Result Replied Refusal → Moved
replied_by c (Ok r) = record { number = 0; client = r.client }
replied_by c (Err r) = record { number = number_of r; client = c }

abbrev pub reply_answer : Arithmetic → Client → (key : List ℕ) → (set round : ℕ) → Moved
reply_answer A c ks v r = moved (answer_refusal A c ks v r) c (Answered v)

-- of the end before the call: "the part that goes with a refused reply is empty"
unfoldable pub part_of : Arithmetic → Client → (key : List ℕ) → (set round : ℕ) → List ℕ
part_of A c ks v r = after (answer_refusal A c ks v r) (reply (plan_of c.plan) ks c.user v) []

-- an empty part lies at the start of the key
unfoldable pub part_start : Arithmetic → Client → (key : List ℕ) → (set round : ℕ) → ℕ
part_start A c ks v r = after (answer_refusal A c ks v r) (reply_start (plan_of c.plan) c.user v) 0
