-- The whole history of an airfield end: whatever comes to it behind its start, in any order and number, over an arithmetic as a parameter.
--   Call               a first message is asked for, into a lent buffer; or a reply, to a set of a round
--   Given, given       what a call hands out: its number, and the elements of the buffer as it leaves it, or of the part
--   left               the end that a call leaves
--   history, behind    what the calls of a list hand out, each of them, and the end behind them
--   Handed, calls_of, calls    key maker, start and a history: the key, and what the calls hand out
--   plainly            the plain history: a first message and one request for the own round
--   out_at, message_in, part_in    what a call of a history hands out; those two
--   own_calls, own_given       a history without its requests for other rounds than the end's, and what its other calls hand out
--   OtherRound        a request for another round hands out nothing, and leaves the end as it is
--   OtherRounds       and whatever of them a history has: the end behind it, and what its other calls hand out, are those without them
-- An end keeps to one key and one row of figures. Assumes nothing: these are definitions.
use Rattle.std.specs.Prelude.{◌≡◌, ◌≢◌, cond, List, [], ◌∷◌, ℕ, zero, suc, eqb, length}
use Rattle.std.proofs.Math.Option.{Option, none, some}
use Rattle.scheme.specs.Scheme.{Arithmetic, key_left}
use Rattle.plan.specs.declared.Plan.{Plan}
use Rattle.plan.specs.declared.Use.{Use}
use Rattle.plan.specs.Plan.{plan_of}
use Rattle.client.specs.declared.Client.{Client}
use Rattle.client.specs.Client.{begun, first_answer, message_left, reply_answer, part_of}

pub data Call : Type 0 where
  send : (buffer : List ℕ) → Call
  ask : (set round : ℕ) → Call

pub record Given : Type 0 where
  pub number : ℕ
  pub out : List ℕ

-- ---- one end, with its key and its figures
unfoldable pub given : Arithmetic → (key figures : List ℕ) → Call → Client → Given
given A ks fs (send o) c = record { number = (first_answer A c ks fs (length o)).number; out = message_left A c ks fs o }
given A ks fs (ask v r) c = record { number = (reply_answer A c ks v r).number; out = part_of A c ks v r }

unfoldable pub left : Arithmetic → (key figures : List ℕ) → Call → Client → Client
left A ks fs (send o) c = (first_answer A c ks fs (length o)).client
left A ks fs (ask v r) c = (reply_answer A c ks v r).client

unfoldable pub history : Arithmetic → (key figures : List ℕ) → List Call → Client → List Given
history A ks fs [] c = []
history A ks fs (e ∷ es) c = given A ks fs e c ∷ history A ks fs es (left A ks fs e c)

unfoldable pub behind : Arithmetic → (key figures : List ℕ) → List Call → Client → Client
behind A ks fs [] c = c
behind A ks fs (e ∷ es) c = behind A ks fs es (left A ks fs e c)

-- ---- from the random list on: the key is made into a buffer, and a fresh end takes it
pub record Handed : Type 0 where
  pub key : List ℕ
  pub given : List Given

-- an end that was not started hands out nothing
unfoldable pub calls_of : Arithmetic → Option Client → (key figures : List ℕ) → List Call → Handed
calls_of A none ks fs es = record { key = ks; given = [] }
calls_of A (some c) ks fs es = record { key = ks; given = history A ks fs es c }

unfoldable pub calls : Arithmetic → Plan → Use → (round : ℕ) → (list figures : List ℕ) → (user : ℕ) → (key_buffer : List ℕ) → List Call → Handed
calls A p u r xs fs k ko es = calls_of A (begun p k u r).client (key_left A (plan_of p) k xs ko) fs es

-- ---- the plain history
abbrev pub plainly : (set own : ℕ) → (buffer : List ℕ) → List Call
plainly v own o = send o ∷ ask v own ∷ []

unfoldable pub out_at : (i : ℕ) → List Given → List ℕ
out_at i [] = []
out_at zero (g ∷ gs) = g.out
out_at (suc i) (g ∷ gs) = out_at i gs

abbrev pub message_in : Handed → List ℕ
message_in h = out_at 0 h.given

abbrev pub part_in : Handed → List ℕ
part_in h = out_at 1 h.given

-- ---- requests for other rounds
unfoldable pub own_calls : (own : ℕ) → List Call → List Call
own_calls own [] = []
own_calls own (send o ∷ es) = send o ∷ own_calls own es
own_calls own (ask v r ∷ es) = cond (eqb r own) (ask v r ∷ own_calls own es) (own_calls own es)

unfoldable pub own_given : (own : ℕ) → List Call → List Given → List Given
own_given own [] gs = []
own_given own (e ∷ es) [] = []
own_given own (send o ∷ es) (g ∷ gs) = g ∷ own_given own es gs
own_given own (ask v r ∷ es) (g ∷ gs) = cond (eqb r own) (g ∷ own_given own es gs) (own_given own es gs)

-- whatever else the request is, and whatever key is lent
unfoldable pub OtherRound : Arithmetic → Type 0
OtherRound A =
    (c : Client) (ks : List ℕ) (v r : ℕ) → r ≢ c.round →
    ((reply_answer A c ks v r).number ≢ 0) × ((reply_answer A c ks v r).client ≡ c) × (part_of A c ks v r ≡ [])

unfoldable pub OtherRounds : Arithmetic → Type 0
OtherRounds A =
    (c : Client) (ks fs : List ℕ) (es : List Call) →
    (behind A ks fs es c ≡ behind A ks fs (own_calls c.round es) c)
    × (own_given c.round es (history A ks fs es c) ≡ history A ks fs (own_calls c.round es) c)
