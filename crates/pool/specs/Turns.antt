-- The program turn by turn, as a function of what its reads bring. The code's contracts and the promises share it.
--   Came, came_bytes                what a read brings
--   Turn, first_turn                what a turn leaves: the state, the bytes that wait, the offset of the first, what comes next, the text
--   comes, fed_turn                 a turn that feeds the bytes that are there
--   at_end, silent                  what comes where the input ends; a turn that writes nothing
--   step_by, step                   one turn, by what comes next and what a read brings
--   written_of, sent                how far a text is written; a turn of whose text only the first bytes could be written
--   Due, GivesUp, Turns             a read is made only where one is due; a text is given up only where some of it is not written; turns from
--                                   the start on, with what they read and wrote
--   next_came, left_reads           what a list of reads brings
--   printed_from, whole, printed    what is printed over a list of reads, and the whole input
-- Assumes nothing: these are definitions.
use Rattle.std.specs.Prelude.{◌≡◌, List, [], ◌∷◌, ◌++◌, ℕ, zero, suc, ◌+◌, ◌<◌, length, take, drop, Result, Ok, Err, IfErr}
use Rattle.std.specs.declared.io.Error.{Error}
use Rattle.scheme.specs.Service.{refused}
use Rattle.service.specs.declared.Service.{Service}
use Rattle.service.specs.Calls.{new_service}
use Rattle.lines.specs.Text.{line}
use Rattle.stream.specs.declared.Stop.{Stop}
use Rattle.stream.specs.declared.Stop.TheVariants.{Used, Unknown, Partial, Full, Far}
use Rattle.stream.specs.Stream.{lines, fed}
use Rattle.pool.specs.declared.Why.TheVariants.{EndOfInput, CutShort, UnknownKind, TooFar, ReadFailed, WriteFailed}
use Rattle.pool.specs.declared.Next.{Next}
use Rattle.pool.specs.declared.Next.TheVariants.{Await, Feed, Refuse, Over}
use Rattle.pool.specs.declared.GivenUp.{GivenUp}

-- bytes, the end of the input, an interruption, or a failure with its error
pub data Came : Type 0 where
  bytes : (more : List ℕ) → Came
  ended : Came
  again : Came
  failed : (error : Error) → Came

unfoldable pub came_bytes : Came → List ℕ
came_bytes (bytes r) = r
came_bytes ended = []
came_bytes again = []
came_bytes (failed e) = []

pub record Turn : Type 0 where
  pub service : Service
  pub waiting : List ℕ
  pub offset : ℕ
  pub next : Next
  pub text : List ℕ

abbrev pub first_turn : Turn
first_turn = record { service = new_service; waiting = []; offset = 0; next = Await; text = [] }

-- ---- ONE TURN
-- a record that is not whole waits for a read; where there was no room for a record's lines the rest is fed again; an unknown kind is refused; past
-- 64 bits all is over
abbrev pub comes : Stop → Next
comes Used = Await
comes Partial = Await
comes Full = Feed
comes Unknown = Refuse UnknownKind
comes Far = Over TooFar

-- the bytes b, the first of which stands at the offset o, are fed; n bytes of output fit
unfoldable pub fed_turn : (n : ℕ) → Service → (b : List ℕ) → (o : ℕ) → Turn
fed_turn n s b o =
    record {
      service = (fed s b o n).service;
      waiting = drop (fed s b o n).at b;
      offset = o + (fed s b o n).at;
      next = comes (fed s b o n).stop;
      text = lines s o (take (fed s b o n).at b);
    }

-- the end of the input, where these bytes wait
unfoldable pub at_end : List ℕ → Next
at_end [] = Over EndOfInput
at_end (k ∷ b) = Refuse CutShort

abbrev pub silent : Next → Service → (b : List ℕ) → (o : ℕ) → Turn
silent x s b o = record { service = s; waiting = b; offset = o; next = x; text = [] }

unfoldable pub step_by : (n : ℕ) → Next → Came → Service → (b : List ℕ) → (o : ℕ) → Turn
step_by n Await (bytes r) s b o = fed_turn n s (b ++ r) o
step_by n Await ended s b o = silent (at_end b) s b o
step_by n Await again s b o = silent Await s b o
step_by n Await (failed e) s b o = silent (Over (ReadFailed e)) s b o
step_by n Feed c s b o = fed_turn n s b o
step_by n (Refuse y) c s b o = record { service = s; waiting = b; offset = o; next = Over y; text = line o (refused 7) }
step_by n (Over y) c s b o = silent (Over y) s b o

-- n bytes of output fit
abbrev pub step : (n : ℕ) → Came → Turn → Turn
step n c t = step_by n t.next c t.service t.waiting t.offset

-- of a text of n bytes: all are written, or it was given up
abbrev pub written_of : (n : ℕ) → Result Unit GivenUp → ℕ
written_of n (Ok u) = n
written_of n (Err g) = g.at

-- its text is written; or only these first bytes of it are, for a write failed with this error
unfoldable pub sent : Result Unit GivenUp → Turn → Turn
sent (Ok u) t = t
sent (Err g) t =
    record { service = t.service; waiting = t.waiting; offset = t.offset; next = Over (WriteFailed g.error); text = take g.at t.text }

-- ---- MANY TURNS
unfoldable pub Due : Next → Came → Type 0
Due Await c = Unit {0}
Due Feed c = c ≡ again
Due (Refuse y) c = c ≡ again
Due (Over y) c = c ≡ again

-- a text of n bytes is given up only where some of them are not written
abbrev pub GivesUp : (n : ℕ) → Result Unit GivenUp → Type 0
GivesUp n r = IfErr r (λ g. g.at < n)

-- so many turns from the start on, whatever their reads bring and their writes take, read and wrote these bytes, and the last left this
pub data Turns (n : ℕ) : (count : ℕ) (read written : List ℕ) → Turn → Type 0 where
  none : Turns n 0 [] [] first_turn
  more : (k : ℕ) (read written : List ℕ) (t : Turn) (c : Came) (p : Result Unit GivenUp) → Turns n k read written t → Due t.next c
      → GivesUp (length (step n c t).text) p
      → Turns n (k + 1) (read ++ came_bytes c) (written ++ take (written_of (length (step n c t).text) p) (step n c t).text) (sent p (step n c t))

-- ---- A LIST OF READS
unfoldable pub next_came : Next → (reads : List (List ℕ)) → Came
next_came Await [] = ended
next_came Await (r ∷ l) = bytes r
next_came Feed l = again
next_came (Refuse y) l = again
next_came (Over y) l = again

unfoldable pub left_reads : Next → (reads : List (List ℕ)) → List (List ℕ)
left_reads Await [] = []
left_reads Await (r ∷ l) = l
left_reads Feed l = l
left_reads (Refuse y) l = l
left_reads (Over y) l = l

-- what so many turns write where these reads come
unfoldable pub printed_from : (n most : ℕ) → Turn → (reads : List (List ℕ)) → List ℕ
printed_from n zero t l = []
printed_from n (suc m) t l =
    (step n (next_came t.next l) t).text ++ printed_from n m (step n (next_came t.next l) t) (left_reads t.next l)

unfoldable pub whole : (reads : List (List ℕ)) → List ℕ
whole [] = []
whole (r ∷ l) = r ++ whole l

-- each turn uses a read or a byte, but for the last two
unfoldable pub printed : (n : ℕ) → (reads : List (List ℕ)) → List ℕ
printed n l = printed_from n (length (whole l) + length l + 2) first_turn l
