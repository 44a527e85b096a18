-- Demand 3 over whole histories of the exported calls, on the memory that callers lend; client/specs/Shown.antt has the words of it.
--   Lent              what one user lends: a buffer for the key and an array for the end, with any contents
--   end_call, given   the exported call that comes to the end's array, and what it hands out
--   history           what the calls of a list hand out, each of them
--   calls_of, calls   cutawheno_make_key, cutawheno_end_start with the user's use and the round; and, unless start is refused, a history
--   SameGiven        they give what the program's own calls give, also where calls are refused
--   ShownIsSent     what they hand out, told by the end's first message and its shares for one set
--   seen, SameSeen   what a random list and a table show; and that two lists, each with its table, show the same
--   Demand3          THE THIRD DEMAND over what the exported calls give; Demand3OfBytes: from raw bytes on
-- Assumes nothing: these are definitions.
use Rattle.std.specs.Prelude.{◌≡◌, true, List, [], ◌∷◌, map, ℕ, ◌≤◌, length, take, drop}
use Rattle.scheme.specs.Lists.{span}
use Rattle.scheme.specs.Scheme.{sixteen, plan_good, places, figures_good, users_in, after, key_left}
use Rattle.scheme.specs.Promise.{Table, everyone, admissible, list_good, MatchingUnder, OfAlike}
use Rattle.scheme.specs.Evenly.{ByteMatchingUnder}
use Rattle.plan.specs.declared.Plan.{Plan}
use Rattle.plan.specs.Plan.{plan_of, use_of, code_use}
use Rattle.client.specs.Client.{begun, message_left}
use Rattle.client.specs.History as client
use Rattle.client.specs.History.{Call, send, ask, Given, Handed}
use Rattle.client.specs.Shown.{OneSet, Announced, KeyRoom, KeyRooms, told_by, Seen}
use Rattle.capi.specs.Ends.{end_at, start_left, part_answer}
use Rattle.exported.specs.Ends.{EndCall, message_call, answer_call, end_number, end_leaves}

pub record Lent : Type 0 where
  pub key_buffer : List ℕ
  pub end : List ℕ

-- ---- one end's array, with its key and its figures
unfoldable pub end_call : (key figures : List ℕ) → Call → EndCall
end_call ks fs (send o) = message_call ks fs o
end_call ks fs (ask v r) = answer_call ks v r

-- the buffer as the call leaves it; or the part of the key that it names
unfoldable pub given : (key figures : List ℕ) → Call → (end : List ℕ) → Given
given ks fs (send o) e = record { number = end_number (message_call ks fs o) e; out = message_left sixteen (end_at e) ks fs o }
given ks fs (ask v r) e =
    let part = part_answer (end_at e) ks v r in record { number = part.number; out = take part.count (drop part.start ks) }

unfoldable pub history : (key figures : List ℕ) → List Call → (end : List ℕ) → List Given
history ks fs [] e = []
history ks fs (c ∷ cs) e = given ks fs c e ∷ history ks fs cs (end_leaves (end_call ks fs c) e)

-- an end that was not started hands out nothing
unfoldable pub calls_of : (refusal : ℕ) → (end key figures : List ℕ) → List Call → Handed
calls_of n e ks fs cs = record { key = ks; given = after n (history ks fs cs e) [] }

unfoldable pub calls : Plan → (is_signed round : ℕ) → (list figures : List ℕ) → (user : ℕ) → Lent → List Call → Handed
calls p n r xs fs k l cs =
    calls_of (begun p k (code_use n) r).number (start_left p k n r l.end) (key_left sixteen (plan_of p) k xs l.key_buffer) fs cs

unfoldable pub SameGiven : Type 0
SameGiven =
    (p : Plan) (n r : ℕ) (xs fs : List ℕ) (k : ℕ) (l : Lent) (cs : List Call) →
    calls p n r xs fs k l cs ≡ client.calls sixteen p (code_use n) r xs fs k l.key_buffer cs

unfoldable pub ShownIsSent : Type 0
ShownIsSent =
    (p : Plan) (n own v k : ℕ) (xs fs : List ℕ) (l : Lent) (cs : List Call) →
    plan_good (plan_of p) ≡ true → list_good sixteen (plan_of p) xs ≡ true → 1 ≤ k → k ≤ p.users →
    (length fs ≡ places (plan_of p)) × (figures_good sixteen (use_of (code_use n)) (plan_of p) fs ≡ true) →
    KeyRoom p k l.key_buffer → OneSet own v cs →
    calls p n own xs fs k l cs ≡ told_by sixteen p own v k xs fs cs

-- ---- what all ends show
unfoldable pub seen : Plan → (is_signed : (k : ℕ) → ℕ) → (own colluders : ℕ) → (list : List ℕ) → Table
    → (lent : (k : ℕ) → Lent) → (calls : (k : ℕ) → List Call) → Seen
seen p n own c xs x l cs =
    record {
      handed = map (λ k. (calls p (n k) own xs (x k) k (l k) (cs k)).given) (span p.users 1);
      keys = map (λ k. (calls p (n k) own xs (x k) k (l k) (cs k)).key) (users_in (plan_of p) c);
    }

unfoldable pub SameSeen : Plan → (is_signed : (k : ℕ) → ℕ) → (own set colluders : ℕ) → (x y : Table) → (xs ys : List ℕ) → Type 0
SameSeen p n own v c x y xs ys =
    (l : (k : ℕ) → Lent) (cs : (k : ℕ) → List Call) →
    KeyRooms p (λ k. (l k).key_buffer) → Announced p own v c cs →
    seen p n own c xs x l cs ≡ seen p n own c ys y l cs

-- THE THIRD DEMAND
unfoldable pub Demand3 : Type 0
Demand3 =
    (p : Plan) (n : (k : ℕ) → ℕ) (own : ℕ) → plan_good (plan_of p) ≡ true →
    OfAlike sixteen (plan_of p) (admissible sixteen (plan_of p) everyone (λ k. use_of (code_use (n k)))) (λ v c x y.
    MatchingUnder sixteen (plan_of p) (SameSeen p n own v c x y))

-- THE THIRD DEMAND FROM RAW BYTES: m of them
unfoldable pub Demand3OfBytes : Type 0
Demand3OfBytes =
    (p : Plan) (n : (k : ℕ) → ℕ) (own m : ℕ) → plan_good (plan_of p) ≡ true →
    OfAlike sixteen (plan_of p) (admissible sixteen (plan_of p) everyone (λ k. use_of (code_use (n k)))) (λ v c x y.
    ByteMatchingUnder sixteen (plan_of p) m (SameSeen p n own v c x y))
