-- What the head of a state alone refuses, whatever is held.
--   early_refusal   the refusal of a record as far as the head alone decides it
-- Assumes nothing: this is a definition.
use Rattle.std.specs.Prelude.{ℕ}
use Rattle.scheme.specs.Service.{second_plan, not_gathering, not_replying, Record, plan_record, open_record, first_record, close_record, reply_record, finish_record}
use Rattle.service.specs.declared.Head.{Head}
use Rattle.service.specs.View.{phase_of}
use Rattle.service.specs.Calls.{open_refusal}

-- elements have their own calls
unfoldable pub early_refusal : Head → Record → ℕ
early_refusal h (plan_record p) = second_plan (phase_of h.phase)
early_refusal h (open_record r) = open_refusal h r
early_refusal h (first_record k i x) = 0
early_refusal h close_record = not_gathering (phase_of h.phase)
early_refusal h (reply_record k b x) = 0
early_refusal h finish_record = not_replying (phase_of h.phase)
