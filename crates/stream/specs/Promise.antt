-- That the lines of the record stream are those of document 01's service: demands 1 and 2 for the program's input and output.
--   StepRight                      each record is one step of scheme/specs/Service.antt
--   records_of, answers_of          the records of items; the answers without their offsets
--   all_taken, last_state           every item is a whole record; the state after them
--   IsRun, AnswersRun             the answers to whole records are a run of scheme/specs/Service.antt
--   whole_of, ending                the items before one that is broken; the line of refusal 7 where one is
--   SaysRun, LinesRight           the lines of any input: those of a run, then perhaps refusal 7
--   CutFree                        lines do not depend on where the input is cut into records
--   Stops, FedSays, FedRight      what feed hands back: the state and the lines of the bytes used, and why no more were
--   OpensAsNew                    after an accepted open every line is that of a new service with the same plan, opened at that round
--   breaks_off, SevenEnds          an unknown kind, or a record that the end cuts short, is the last line: refusal 7 at its offset
-- Assumes nothing: these are definitions.
use Rattle.std.specs.Prelude.{◌≡◌, Bool, true, false, ◌||◌, List, [], ◌∷◌, ◌++◌, map, ℕ, ◌+◌, ◌-◌, ◌^◌, ◌≤◌, ◌<◌, ltb, eqb, length, take, drop}
use Rattle.scheme.specs.Scheme.{sixteen}
use Rattle.scheme.specs.Service.{Record, Answer, refused, Runs}
use Rattle.service.specs.declared.Service.{Service}
use Rattle.service.specs.View.{view, Formed}
use Rattle.service.specs.Calls.{planned, open_step}
use Rattle.service.specs.Promise.{IsStep}
use Rattle.lines.specs.Text.{line}
use Rattle.lines.specs.Put.{room}
use Rattle.stream.specs.declared.Stop.{Stop}
use Rattle.stream.specs.declared.Stop.TheVariants.{Used, Unknown, Partial, Full, Far}
use Rattle.stream.specs.Stream.{record_length, length_at, Item, taken, broken, items, step, Placed, answers, text, lines, Fed, fed}

unfoldable pub StepRight : Type 0
StepRight = (s : Service) (r : Record) → Formed sixteen s → IsStep sixteen r s (step s r).answer (step s r).service

-- ---- whole records
unfoldable pub records_of : List Item → List Record
records_of [] = []
records_of (taken o r ∷ l) = r ∷ records_of l
records_of (broken o ∷ l) = []

unfoldable pub answers_of : List Placed → List Answer
answers_of l = map (λ (t : Placed). t.answer) l

unfoldable pub all_taken : List Item → Bool
all_taken [] = true
all_taken (taken o r ∷ l) = all_taken l
all_taken (broken o ∷ l) = false

unfoldable pub last_state : Service → List Item → Service
last_state s [] = s
last_state s (taken o r ∷ l) = last_state (step s r).service l
last_state s (broken o ∷ l) = s

pub record IsRun (s : Service) (l : List Item) : Type 0 where
  pub run : Runs sixteen (records_of l) (view s) (answers_of (answers s l)) (view (last_state s l))
  pub formed : Formed sixteen (last_state s l)

unfoldable pub AnswersRun : Type 0
AnswersRun = (s : Service) (l : List Item) → Formed sixteen s → all_taken l ≡ true → IsRun s l

-- ---- any input
unfoldable pub whole_of : List Item → List Item
whole_of [] = []
whole_of (taken o r ∷ l) = taken o r ∷ whole_of l
whole_of (broken o ∷ l) = []

unfoldable pub ending : List Item → List Placed
ending [] = []
ending (taken o r ∷ l) = ending l
ending (broken o ∷ l) = record { offset = o; answer = refused 7 } ∷ []

pub record SaysRun (s : Service) (o : ℕ) (b : List ℕ) : Type 0 where
  pub steps : IsRun s (whole_of (items o b))
  pub said : lines s o b ≡ text (answers s (whole_of (items o b))) ++ text (ending (items o b))

unfoldable pub LinesRight : Type 0
LinesRight = (s : Service) (o : ℕ) (b : List ℕ) → Formed sixteen s → SaysRun s o b

-- ---- the input cut in two after whole records
unfoldable pub CutFree : Type 0
CutFree =
    (s : Service) (o : ℕ) (a c : List ℕ) → all_taken (items o a) ≡ true →
    lines s o (a ++ c) ≡ lines s o a ++ lines (last_state s (items o a)) (o + length a) c

-- ---- a chunk at a time
-- why feed stops: all bytes used; an unknown kind, or a record that is not whole, at the place; no room for the lines of a record; an offset past 64 bits
unfoldable pub Stops : Stop → (b : List ℕ) → (offset n at wrote : ℕ) → Type 0
Stops Used b o n i w = i ≡ length b
Stops Unknown b o n i w = (i < length b) × (length_at b i ≡ 0)
Stops Partial b o n i w = (i < length b) × (length b - i < length_at b i)
Stops Full b o n i w = (i < length b) × (n - w < room)
Stops Far b o n i w = (2 ^ 64 ≤ o + length b) × (i ≡ 0)

-- the bytes used are whole records, the state is that behind them, and their lines are what is written; the lines of the input are
-- these, and then those of the rest from that state on, whatever bytes follow the chunk
pub record FedSays (s : Service) (b : List ℕ) (o n : ℕ) (r : Fed) : Type 0 where
  pub inside : r.at ≤ length b
  pub fits : r.wrote ≤ n
  pub whole : all_taken (items o (take r.at b)) ≡ true
  pub state : r.service ≡ last_state s (items o (take r.at b))
  pub formed : Formed sixteen s → Formed sixteen r.service
  pub written : r.wrote ≡ length (lines s o (take r.at b))
  pub same : (rest : List ℕ) → lines s o (b ++ rest) ≡ lines s o (take r.at b) ++ lines r.service (o + r.at) (drop r.at b ++ rest)
  pub why : Stops r.stop b o n r.at r.wrote

unfoldable pub FedRight : Type 0
FedRight = (s : Service) (b : List ℕ) (o n : ℕ) → FedSays s b o n (fed s b o n)

-- ---- a round keeps nothing of what was before
unfoldable pub OpensAsNew : Type 0
OpensAsNew =
    (s : Service) (r o : ℕ) (b : List ℕ) → Formed sixteen s → (open_step s r).number ≡ 0 →
    lines (open_step s r).service o b ≡ lines (open_step (planned s.head.plan) r).service o b

-- ---- refusal 7
unfoldable pub breaks_off : List ℕ → Bool
breaks_off [] = false
breaks_off (k ∷ b) = eqb (record_length k) 0 || ltb (length (k ∷ b)) (record_length k)

unfoldable pub SevenEnds : Type 0
SevenEnds =
    (s : Service) (o : ℕ) (a c : List ℕ) → all_taken (items o a) ≡ true → breaks_off c ≡ true →
    lines s o (a ++ c) ≡ lines s o a ++ line (o + length a) (refused 7)
