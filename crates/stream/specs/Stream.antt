-- The record stream of document 01: bytes, records with their offsets, answers, lines.
--   code_of                      the number of a kind
--   record_length, length_at     how long a record of a kind is, and the one at a place
--   two_bytes, four_bytes        numbers of two and of four bytes, the low byte first
--   plan_at, record_at           the plan and the record that stand at a place
--   Whole                        a whole record stands at a place
--   Item, items                  the records of an input, each with its offset, and where it breaks off
--   Outcome, outcome, step       one record on the service's state: the answer and the next state
--   Placed, answers              the answers to a list of records, each with its record's offset; 7 ends the run
--   text, lines                  what is printed for a list of answers, and for an input
--   ready_at, stop_at            whether a record is taken at a place, and why none is
--   Fed, fed_by                  what feed hands back and leaves: the state, the bytes used and written, and why it stops; as the code says it
--   fed_from, fed                so it hands back
--   Turns                        one record: the state before and after it, and its lines written
--   HeldIn                       an element held in a place that is free or holds the same
--   SilentAt, SilentRun        records that are taken in silence: one, and one upon another
--   Takes                        one record with its lines, or one in silence and a run of such behind it
--   cut_length, cut_left         the line of refusal 7
-- Assumes nothing: these are definitions.
use Rattle.std.specs.Prelude.{◌≡◌, ◌≢◌, Bool, cond, not, ◌&&◌, List, [], ◌∷◌, ◌++◌, ℕ, zero, suc, ◌+◌, ◌*◌, ◌-◌, ◌^◌, ◌≤◌, ◌<◌, ltb, leb, eqb, length, get_or, set, take, drop}
use Rattle.std.proofs.lemmas.List.Edits.{sets}
use Rattle.scheme.specs.Scheme as scheme
use Rattle.scheme.specs.Scheme.{q, sixteen, places}
use Rattle.scheme.specs.Service.{Record, plan_record, open_record, first_record, close_record, reply_record, finish_record, Answer, silent, planned, opened, closed, totalled, refused}
use Rattle.solve.specs.Solve.{laws16}
use Rattle.plan.specs.Plan.{plan_of, plan_from}
use Rattle.service.specs.declared.Service.{Service}
use Rattle.service.specs.View.{held_as, left_in}
use Rattle.service.specs.Calls.{plan_step, open_step, first_step, close_step, reply_step}
use Rattle.service.specs.Promise.{told}
use Rattle.finish.specs.Finish.{finish_step}
use Rattle.stream.specs.declared.Stop.{Stop}
use Rattle.stream.specs.declared.Stop.TheVariants.{Used, Unknown, Partial, Full, Far}
use Rattle.stream.specs.declared.Kind.{Kind}
use Rattle.stream.specs.declared.Kind.TheVariants as kind
use Rattle.stream.specs.declared.Fed as code
use Rattle.lines.specs.Text.{line}
use Rattle.lines.specs.Put.{room, Put}

-- ---- BYTES TO RECORDS
abbrev pub code_of : Kind → ℕ
code_of kind.Plan = 1
code_of kind.Open = 2
code_of kind.First = 3
code_of kind.Close = 4
code_of kind.Reply = 5
code_of kind.Finish = 6

-- a record's length with its kind: 5, 5, 6, 1, 5, 1 for the kinds 01 to 06; 0 for every other kind
unfoldable pub record_length : (kind : ℕ) → ℕ
record_length k =
    cond (eqb k 1) 5 (cond (eqb k 2) 5 (cond (eqb k 3) 6 (cond (eqb k 4) 1 (cond (eqb k 5) 5 (cond (eqb k 6) 1 0)))))

abbrev pub length_at : List ℕ → (at : ℕ) → ℕ
length_at b i = record_length (get_or b i 0)

-- numbers have their low byte first
abbrev pub two_bytes : List ℕ → (at : ℕ) → ℕ
two_bytes b i = get_or b i 0 + get_or b (i + 1) 0 * 256

abbrev pub four_bytes : List ℕ → (at : ℕ) → ℕ
four_bytes b i = two_bytes b i + two_bytes b (i + 2) * 65536

abbrev pub plan_at : List ℕ → (at : ℕ) → scheme.Plan
plan_at b i = record { users = get_or b (i + 1) 0; threshold = get_or b (i + 2) 0; collusion = get_or b (i + 3) 0; blocks = get_or b (i + 4) 0 }

-- the whole record that starts at a place
unfoldable pub record_at : List ℕ → (at : ℕ) → Record
record_at b i =
    cond (eqb (get_or b i 0) 1) (plan_record (plan_at b i))
    (cond (eqb (get_or b i 0) 2) (open_record (four_bytes b (i + 1)))
    (cond (eqb (get_or b i 0) 3) (first_record (get_or b (i + 1) 0) (two_bytes b (i + 2)) (two_bytes b (i + 4)))
    (cond (eqb (get_or b i 0) 4) close_record
    (cond (eqb (get_or b i 0) 5) (reply_record (get_or b (i + 1) 0) (get_or b (i + 2) 0) (two_bytes b (i + 3))) finish_record))))

pub record Whole (b : List ℕ) (at : ℕ) : Type 0 where
  pub inside : at < length b
  pub whole : at + length_at b at ≤ length b

-- a record at its offset, or an unknown kind or a cut record there
pub data Item : Type 0 where
  taken : (offset : ℕ) → Record → Item
  broken : (offset : ℕ) → Item

-- of the bytes b, the first of which stands at the offset o
unfoldable pub items_from : (most o : ℕ) → (b : List ℕ) → List Item
items_from zero o b = []
items_from (suc n) o [] = []
items_from (suc n) o (k ∷ b) =
    cond (eqb (record_length k) 0) (broken o ∷ [])
    (cond (ltb (length (k ∷ b)) (record_length k)) (broken o ∷ [])
    (taken o (record_at (k ∷ b) 0) ∷ items_from n (o + record_length k) (drop (record_length k) (k ∷ b))))

unfoldable pub items : (o : ℕ) → (b : List ℕ) → List Item
items o b = items_from (length b) o b

-- ---- RECORDS TO ANSWERS
pub record Outcome : Type 0 where
  pub answer : Answer
  pub service : Service

-- the answer where a call's number is 0, and the state that it leaves
abbrev pub outcome : (number : ℕ) → Answer → Service → Outcome
outcome n a s = record { answer = told n a; service = s }

unfoldable pub step : Service → Record → Outcome
step s (plan_record p) = outcome (plan_step s (plan_from p)).number (planned p) (plan_step s (plan_from p)).service
step s (open_record r) = outcome (open_step s r).number (opened r) (open_step s r).service
step s (first_record k i x) = outcome (first_step sixteen s k i x).number silent (first_step sixteen s k i x).service
step s close_record = outcome (close_step s).number (closed s.head.round (close_step s).set) (close_step s).service
step s (reply_record k b x) = outcome (reply_step sixteen s k b x).number silent (reply_step sixteen s k b x).service
step s finish_record =
    let t = finish_step sixteen laws16 s in
    outcome t.number (totalled s.head.round t.aside (take (places (plan_of s.head.plan)) t.totals)) t.service

pub record Placed : Type 0 where
  pub offset : ℕ
  pub answer : Answer

unfoldable pub answers : Service → List Item → List Placed
answers s [] = []
answers s (taken o r ∷ l) = record { offset = o; answer = (step s r).answer } ∷ answers (step s r).service l
answers s (broken o ∷ l) = record { offset = o; answer = refused 7 } ∷ []

-- ---- ANSWERS TO LINES
unfoldable pub text : List Placed → List ℕ
text [] = []
text (t ∷ l) = line t.offset t.answer ++ text l

unfoldable pub lines : Service → (o : ℕ) → (b : List ℕ) → List ℕ
lines s o b = text (answers s (items o b))

-- ---- A CHUNK AT A TIME
pub record Fed : Type 0 where
  pub service : Service
  pub at : ℕ
  pub wrote : ℕ
  pub stop : Stop

abbrev pub fed_by : Service → code.Fed → Fed
fed_by s r = record { service = s; at = r.at; wrote = r.wrote; stop = r.stop }

abbrev pub halt : Service → (at wrote : ℕ) → Stop → Fed
halt s i w e = record { service = s; at = i; wrote = w; stop = e }

-- a record is taken at the place i of a chunk: it is of a known kind and whole, and the text of any answer fits into what is left of the buffer
unfoldable pub ready_at : List ℕ → (at left : ℕ) → Bool
ready_at b i left = ltb i (length b) && not (eqb (length_at b i) 0) && leb (length_at b i) (length b - i) && leb room left

-- why none is: there the chunk ends, or there is an unknown kind, or a record that is not whole, or else no room for an answer's text
unfoldable pub stop_at : List ℕ → (at : ℕ) → Stop
stop_at b i =
    cond (leb (length b) i) Used (cond (eqb (length_at b i) 0) Unknown (cond (leb (length_at b i) (length b - i)) Full Partial))

-- from the place i of a chunk on, where w bytes of n are written: it stops, or it takes a record and goes on behind it, and behind its lines
unfoldable pub fed_from : (most : ℕ) → Service → (b : List ℕ) → (offset n i w : ℕ) → Fed
fed_from zero s b o n i w = halt s i w (stop_at b i)
fed_from (suc m) s b o n i w =
    cond (ready_at b i (n - w))
    (fed_from m (step s (record_at b i)).service b o n (i + length_at b i) (w + length (line (o + i) (step s (record_at b i)).answer)))
    (halt s i w (stop_at b i))

-- of a chunk whose offsets would pass 64 bits no record is taken
unfoldable pub fed : Service → (b : List ℕ) → (offset n : ℕ) → Fed
fed s b o n = cond (leb (2 ^ 64) (o + length b)) (halt s 0 0 Far) (fed_from (length b) s b o n 0 0)

-- one record, at an offset: the state before and after it, and its lines written behind what was written before
pub record Turns (r : Record) (o : ℕ) (s t : Service) (out out-now : List ℕ) (wrote next : ℕ) : Type 0 where
  pub state : t ≡ (step s r).service
  pub put : Put out out-now wrote next (line o (step s r).answer)

-- of the places behind `row` there are `limit`; elements are held as `held_as` says
pub record HeldIn (before after : List ℕ) (row limit place element : ℕ) : Type 0 where
  pub inside : place < limit
  pub small : element < q
  pub stays : left_in (get_or before (row + place) 0) (held_as element) ≡ held_as element
  pub put : after ≡ set before (row + place) (held_as element)

-- the record at a place, taken in silence: where the next one starts, and the state before and after it
pub record SilentAt (b : List ℕ) (at next : ℕ) (s t : Service) : Type 0 where
  pub whole : Whole b at
  pub known : length_at b at ≢ 0
  pub long : next ≡ at + length_at b at
  pub state : t ≡ (step s (record_at b at)).service
  pub quiet : (step s (record_at b at)).answer ≡ silent

-- none or more of them, from a place to another
pub data SilentRun (b : List ℕ) : (start end : ℕ) (s t : Service) → Type 0 where
  stays : (at : ℕ) (s : Service) → SilentRun b at at s s
  goes_on : (start at next : ℕ) (s t u : Service) → SilentRun b start at s t → SilentAt b at next t u → SilentRun b start next s u

-- the record at a place, at an offset; behind a silent one there may be a run
pub data Takes (b : List ℕ) (o start end : ℕ) (s t : Service) (out out-now : List ℕ) (wrote next : ℕ) : Type 0 where
  alone : end ≡ start + length_at b start → Turns (record_at b start) o s t out out-now wrote next → Takes b o start end s t out out-now wrote next
  in_silence : (at : ℕ) (u : Service) → SilentAt b start at s u → SilentRun b at end u t → out-now ≡ out → next ≡ wrote
      → Takes b o start end s t out out-now wrote next

-- the line of refusal 7, where there is room for a line
unfoldable pub cut_length : (offset out : ℕ) → ℕ
cut_length o n = cond (leb room n) (length (line o (refused 7))) 0

unfoldable pub cut_left : (offset : ℕ) → List ℕ → List ℕ
cut_left o out = cond (leb room (length out)) (sets out 0 (line o (refused 7))) out
