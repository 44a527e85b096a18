-- The airfield end where it stands in an array that the caller lends.
--   end_length                         how many numbers the array has
--   code_stage, end_at                 what the array stands for: an end of crate client
--   fresh_numbers                      the array of a new end
--   start_left                         what starting one leaves in the array
--   kept                               the array with the stage of the end that a call hands back, or after a refusal as it came
--   part_by, part_answer               the refusal's number, and where in the key the shares for a set lie
-- Assumes nothing: these are definitions.
use Rattle.std.specs.Prelude.{List, [], ◌∷◌, ℕ, get_or, set}
use Rattle.scheme.specs.Scheme as scheme
use Rattle.scheme.specs.Scheme.{sixteen, reply_start, after}
use Rattle.plan.specs.declared.Plan.{Plan}
use Rattle.plan.specs.Plan.{plan_of, code_plan, code_use}
use Rattle.client.specs.declared.Stage.{Stage}
use Rattle.client.specs.declared.Stage.TheVariants.{Fresh, Sent, Answered}
use Rattle.client.specs.declared.Client.{Client}
use Rattle.client.specs.Client.{stage_of, stage_of_number, stage_number, begun, Moved, answer_refusal}
use Rattle.capi.specs.declared.ends.CutawhenoPart.{CutawhenoPart}

abbrev pub end_length : ℕ
end_length = 8

unfoldable pub code_stage : scheme.Stage → Stage
code_stage scheme.fresh = Fresh
code_stage scheme.sent = Sent
code_stage (scheme.answered v) = Answered v

-- users, threshold, collusion, blocks, user, stage, use, round
unfoldable pub end_at : List ℕ → Client
end_at e =
    record {
      plan = code_plan (get_or e 0 0) (get_or e 1 0) (get_or e 2 0) (get_or e 3 0);
      user = get_or e 4 0;
      usage = code_use (get_or e 6 0);
      round = get_or e 7 0;
      stage = code_stage (stage_of_number (get_or e 5 0));
    }

-- the use stands as the number that was given
abbrev pub fresh_numbers : Plan → (user is_signed round : ℕ) → List ℕ
fresh_numbers p k n r = p.users ∷ p.threshold ∷ p.collusion ∷ p.blocks ∷ k ∷ 0 ∷ n ∷ r ∷ []

unfoldable pub start_left : Plan → (user is_signed round : ℕ) → (end : List ℕ) → List ℕ
start_left p k n r e = after (begun p k (code_use n) r).number (fresh_numbers p k n r) e

unfoldable pub kept : Moved → (end : List ℕ) → List ℕ
kept a e = after a.number (set e 5 (stage_number (stage_of a.client.stage))) e

-- the shares for the set are the `count` elements of the key from `start` on: none after a refusal
unfoldable pub part_by : (refusal : ℕ) → Client → (set : ℕ) → CutawhenoPart
part_by n c v = record { number = n; start = after n (reply_start (plan_of c.plan) c.user v) 0; count = after n c.plan.blocks 0 }

abbrev pub part_answer : Client → (key : List ℕ) → (set round : ℕ) → CutawhenoPart
part_answer c ks v r = part_by (answer_refusal sixteen c ks v r) c v
