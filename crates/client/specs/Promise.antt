-- What document 01 says of the calls of an airfield end, one after the other, over an arithmetic as a parameter.
--   SamePart           "the same set asked again gets the same part"
--   FirstUnchanged, ReplyUnchanged, RefusedUnchanged
--                       "the part that goes with a refused reply is empty; the state and every lent buffer stay as before the call"
-- Assumes nothing: these are definitions.
use Rattle.std.specs.Prelude.{◌≡◌, ◌≢◌, List, [], ℕ, length}
use Rattle.scheme.specs.Scheme.{Arithmetic, reply}
use Rattle.plan.specs.Plan.{plan_of}
use Rattle.client.specs.declared.Client.{Client}
use Rattle.client.specs.Client.{first_answer, message_left, reply_answer, part_of, part_start}

-- a taken reply gives the set's shares; the client that it hands back, asked again, is handed back as it is, with the same part at the same place
unfoldable pub SamePart : Arithmetic → Type 0
SamePart A =
    (c : Client) (ks : List ℕ) (v r : ℕ) → (reply_answer A c ks v r).number ≡ 0 →
    let answered = (reply_answer A c ks v r).client in
    (part_of A c ks v r ≡ reply (plan_of c.plan) ks c.user v) × (reply_answer A answered ks v r ≡ record { number = 0; client = answered })
    × (part_of A answered ks v r ≡ part_of A c ks v r) × (part_start A answered ks v r ≡ part_start A c ks v r)

unfoldable pub FirstUnchanged : Arithmetic → Type 0
FirstUnchanged A =
    (c : Client) (ks fs o : List ℕ) → (first_answer A c ks fs (length o)).number ≢ 0 →
    ((first_answer A c ks fs (length o)).client ≡ c) × (message_left A c ks fs o ≡ o)

unfoldable pub ReplyUnchanged : Arithmetic → Type 0
ReplyUnchanged A =
    (c : Client) (ks : List ℕ) (v r : ℕ) → (reply_answer A c ks v r).number ≢ 0 → ((reply_answer A c ks v r).client ≡ c) × (part_of A c ks v r ≡ [])

unfoldable pub RefusedUnchanged : Arithmetic → Type 0
RefusedUnchanged A = FirstUnchanged A × ReplyUnchanged A
