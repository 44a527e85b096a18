-- Document 01's example round through the exported calls, on lent memory, computed.
--   example_plan, example_list      3 2 1 1, and the random list
--   example_given, message_of, share_of      what a user's calls give, for set 5 of round 7
--   example_calls      the service's calls: user 2 comes too late, and users 1 and 3 reply with what their calls gave
--   taken              what a taken call hands out
--   ExampleRight      keys, first messages and parts; what the service's calls answer, from zeros
-- Assumes nothing: these are definitions.
use Rattle.std.specs.Prelude.{◌≡◌, List, [], ◌∷◌, ℕ, ◌*◌, get_or, replicate}
use Rattle.scheme.specs.Limits.{most_places}
use Rattle.scheme.specs.Service.{silent, planned, opened, closed, totalled, refused}
use Rattle.plan.specs.declared.Plan.{Plan}
use Rattle.plan.specs.Plan.{plan_of}
use Rattle.client.specs.History.{Given, Handed, plainly, message_in, part_in}
use Rattle.capi.specs.Ends.{end_length}
use Rattle.capi.specs.Lent.{zeros}
use Rattle.exported.specs.Runs.{Call, plan_call, open_call, first_call, close_call, reply_call, finish_call, answers}
use Rattle.exported.specs.Shown.{calls}

abbrev pub example_plan : Plan
example_plan = record { users = 3; threshold = 2; collusion = 1; blocks = 1 }

abbrev pub example_list : List ℕ
example_list = 100 ∷ 200 ∷ 300 ∷ 12 ∷ 60 ∷ 40 ∷ 120 ∷ []

-- whatever the buffers and the array held before
unfoldable pub example_given : (k : ℕ) → Handed
example_given k =
    calls example_plan 0 7 example_list (k * 10 ∷ []) k (record { key_buffer = replicate 4 7; end = replicate end_length 7 }) (plainly 5 7 (7 ∷ []))

abbrev pub message_of : (k : ℕ) → ℕ
message_of k = get_or (message_in (example_given k)) 0 0

abbrev pub share_of : (k : ℕ) → ℕ
share_of k = get_or (part_in (example_given k)) 0 0

unfoldable pub example_calls : List Call
example_calls =
    plan_call example_plan ∷ open_call 7 ∷ first_call 1 0 (message_of 1) ∷ first_call 3 0 (message_of 3) ∷ close_call
    ∷ first_call 2 0 (message_of 2) ∷ reply_call 1 0 (share_of 1) ∷ reply_call 3 0 (share_of 3) ∷ finish_call (replicate most_places 7) ∷ []

abbrev pub taken : List ℕ → Given
taken l = record { number = 0; out = l }

pub record ExampleRight : Type 0 where
  pub user_1 : example_given 1 ≡ record { key = 100 ∷ 154 ∷ 220 ∷ 340 ∷ []; given = taken (110 ∷ []) ∷ taken (220 ∷ []) ∷ [] }
  pub user_2 : example_given 2 ≡ record { key = 200 ∷ 103 ∷ 22017 ∷ 230 ∷ []; given = taken (220 ∷ []) ∷ record { number = 6; out = [] } ∷ [] }
  pub user_3 : example_given 3 ≡ record { key = 300 ∷ 112 ∷ 133 ∷ 174 ∷ []; given = taken (330 ∷ []) ∷ taken (112 ∷ []) ∷ [] }
  pub answered : answers example_calls zeros
      ≡ planned (plan_of example_plan) ∷ opened 7 ∷ silent ∷ silent ∷ closed 7 5 ∷ refused 12 ∷ silent ∷ silent ∷ totalled 7 0 (40 ∷ []) ∷ []
