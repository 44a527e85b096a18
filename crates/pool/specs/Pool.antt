-- What the code leaves in its values and its two buffers.
--   live_of                 what a turn leaves, as the code's value
--   silent_live, is_over    nothing to write; the run is over
--   Leaves                  what a step leaves: its value, and both buffers whole
--   brought, Untouched      what a read brings; no read is made where none is due
--   is_interruption, interrupted     what the error tells behind a call that failed
--   Moves                   an answer of read or of write counts no more bytes than were lent
--   read_as, Fills          one read: the bytes that waited stay in front
--   ReadFits               what was read stands within the input's buffer, and the lines of a record fit into the output's
--   step_of, stepped        one step of the code's value
--   WriteAs, WritesFrom    one write of the bytes that are left
--   most_turns              how often a loop is made at most
--   Written, Last, Writes   how far a text is written, by writes of which each goes on where the one before ended, and why it is given up
--   sent_live               the value behind that
--   longest, Sound          there is room for a read where one is due, and for the lines of a record
--   Turned, TurnMoved       one turn: a read, its step, and how far its text was written; the bytes that went through it
--   Ran, RunMoved           a run from the start on; the bytes that went through it
-- Of the bytes that come from and go to the system no contract speaks: a reader and a writer may know theirs, as those over memory do.
-- Assumes nothing: these are definitions.
use Rattle.std.specs.Prelude.{◌≡◌, Bool, true, false, cond, List, ◌⊎◌, ℕ, zero, suc, ◌+◌, ◌-◌, ◌^◌, ◌≤◌, ◌<◌, eqb, length, take, drop, Result, Ok, Err, IfOk, IfErr, IsErrAnd}
use Rattle.std.proofs.lemmas.List.Edits.{sets}
use Rattle.std.specs.declared.option.Option.{Option}
use Rattle.std.specs.declared.io.Error.{Error}
use Rattle.std.specs.declared.io.ErrorKind.{ErrorKind}
use Rattle.std.specs.declared.io.ErrorKind.TheVariants.{Interrupted, WriteZero}
use Rattle.std.specs.IoError.{error_kind}
use Rattle.std.specs.Io.KnownBytes.{Consumes, Appends}
use Rattle.lines.specs.Put.{room}
use Rattle.pool.specs.declared.Read.{Read}
use Rattle.pool.specs.declared.Read.TheVariants.{Bytes, End, Again}
use Rattle.pool.specs.declared.Why.TheVariants.{WriteFailed}
use Rattle.pool.specs.declared.Next.{Next}
use Rattle.pool.specs.declared.Next.TheVariants.{Await, Feed, Refuse, Over}
use Rattle.pool.specs.declared.Live.{Live}
use Rattle.pool.specs.declared.GivenUp.{GivenUp}
use Rattle.pool.specs.Turns.{Came, bytes, ended, again, failed, came_bytes, Turn, step_by, written_of, sent, GivesUp, Turns}

abbrev pub live_of : Turn → Live
live_of t = record { service = t.service; have = length t.waiting; offset = t.offset; next = t.next; wrote = length t.text }

abbrev pub silent_live : Live → Next → Live
silent_live l x = record { service = l.service; have = l.have; offset = l.offset; next = x; wrote = 0 }

abbrev pub is_over : Next → Bool
is_over Await = false
is_over Feed = false
is_over (Refuse y) = false
is_over (Over y) = true

-- the bytes that wait stand at the front of the input's buffer, the text at the front of the output's, and all behind is as before
pub record Leaves (t : Turn) (b b-now out out-now : List ℕ) (r : Live) : Type 0 where
  pub result : r ≡ live_of t
  pub input : b-now ≡ sets b 0 t.waiting
  pub output : out-now ≡ sets out 0 t.text
  pub inside : length t.waiting ≤ length b
  pub fits : length t.text ≤ length out

-- ---- ONE READ
-- where the buffer had `have` bytes before the read, and has b behind it
unfoldable pub brought : Result Read Error → (have : ℕ) → (b : List ℕ) → Came
brought (Ok (Bytes n)) h b = bytes (drop h (take n b))
brought (Ok End) h b = ended
brought (Ok Again) h b = again
brought (Err e) h b = failed e

unfoldable pub Untouched : Next → Result Read Error → (b b-now : List ℕ) → Type 0
Untouched Await r b b' = Unit {0}
Untouched Feed r b b' = (r ≡ Ok Again) × (b' ≡ b)
Untouched (Refuse y) r b b' = (r ≡ Ok Again) × (b' ≡ b)
Untouched (Over y) r b b' = (r ≡ Ok Again) × (b' ≡ b)

-- the kind of error where a call was interrupted before it moved a byte
abbrev pub is_interruption : ErrorKind → Bool
is_interruption Interrupted = true
is_interruption k = false

unfoldable pub interrupted : (error : Error) → Bool
interrupted e = is_interruption (error_kind e)

-- so many bytes were lent
abbrev pub Moves : (lent : ℕ) → Result ℕ Error → Type 0
Moves n r = IfOk r (λ k. k ≤ n)

-- an answer of read: an interruption or a failure, as its error tells; the end, where no more bytes came; or that many bytes are there
unfoldable pub read_as : (have : ℕ) → (got : Result ℕ Error) → Result Read Error
read_as h (Ok n) = cond (eqb n 0) (Ok End) (Ok (Bytes (h + n)))
read_as h (Err e) = cond (interrupted e) (Ok Again) (Err e)

-- a read leaves in front what waited; `got` is its answer, and it counts no more than there is room for
pub record Fills (b b-now : List ℕ) (have : ℕ) (r : Result Read Error) : Type 0 where
  pub got : Result ℕ Error
  pub front : take have b-now ≡ take have b
  pub inside : have ≤ length b
  pub moved : Moves (length b - have) got
  pub result : r ≡ read_as have got

pub record ReadFits (l : Live) (r : Result Read Error) (b out : List ℕ) : Type 0 where
  pub have : l.have ≤ length b
  pub line : room ≤ length out
  pub inside : (n : ℕ) → r ≡ Ok (Bytes n) → (l.have < n) × (n ≤ length b)

-- the bytes that wait stand at the front of the input's buffer b; n bytes of output fit
abbrev pub step_of : (n : ℕ) → Next → Came → Live → (b : List ℕ) → Turn
step_of n x c l b = step_by n x c l.service (take l.have b) l.offset

-- what a read brought, and the buffer b behind it, make of a value
abbrev pub stepped : (n : ℕ) → Live → Result Read Error → (b : List ℕ) → Turn
stepped n l r b = step_of n l.next (brought r l.have b) l b

-- ---- ONE TURN
-- an answer of write, and how far the text is written: one that counts no byte fails, for this reason; or it goes on behind so many more
-- bytes; behind an error it goes on where it was, if that tells an interruption, and else it fails with the error
abbrev pub WriteAs : (at : ℕ) → (put : Result ℕ Error) → (there : Result ℕ GivenUp) → Type 0
WriteAs i (Ok zero) r = IsErrAnd r (λ g. (g.at ≡ i) × (error_kind g.error ≡ WriteZero))
WriteAs i (Ok (suc n)) r = r ≡ Ok (i + suc n)
WriteAs i (Err e) r = r ≡ cond (interrupted e) (Ok i) (Err (record { at = i; error = e }))

-- of n bytes those behind the first `at` are lent; `put` is the answer
pub record WritesFrom (at n : ℕ) (there : Result ℕ GivenUp) : Type 0 where
  pub put : Result ℕ Error
  pub inside : at ≤ n
  pub moved : Moves (n - at) put
  pub result : WriteAs at put there

-- a loop counts its turns in 64 bits
abbrev pub most_turns : ℕ
most_turns = 2 ^ 64 - 1

-- so many writes of n bytes went on, each where the one before ended, the last up to `at`
pub data Written (n : ℕ) : (count at : ℕ) → Type 0 where
  unwritten : Written n 0 0
  goes_on : (k i j : ℕ) → Written n k i → WritesFrom i n (Ok j) → Written n (k + 1) j

-- a text of n bytes is given up behind so many writes: the next failed with this error, or no more are made and an interruption is told
abbrev pub Last : (n count : ℕ) → GivenUp → Type 0
Last n k g = WritesFrom g.at n (Err g) ⊎ ((k ≡ most_turns) × (error_kind g.error ≡ Interrupted))

-- of n bytes: all; or fewer where it is given up
pub record Writes (n : ℕ) (r : Result Unit GivenUp) : Type 0 where
  pub count : ℕ
  pub written : Written n count (written_of n r)
  pub fewer : GivesUp n r
  pub last : IfErr r (λ g. Last n count g)

unfoldable pub sent_live : Live → Result Unit GivenUp → Live
sent_live l (Ok u) = l
sent_live l (Err g) = record { service = l.service; have = l.have; offset = l.offset; next = Over (WriteFailed g.error); wrote = g.at }

-- the longest record, that of a first element
abbrev pub longest : ℕ
longest = 6

-- there is room for a read where one is due, and for the lines of a record
pub record Sound (l : Live) (b out : List ℕ) : Type 0 where
  pub have : l.have ≤ length b
  pub space : l.next ≡ Await → l.have < length b
  pub line : room ≤ length out

pub record Turned (l : Live) (b b-now out out-now : List ℕ) (r : Live) : Type 0 where
  pub read : Result Read Error
  pub got : List ℕ
  pub put : Result Unit GivenUp
  pub fills : Fills b got l.have read
  pub due : Untouched l.next read b got
  pub writes : Writes (length (stepped (length out) l read got).text) put
  pub result : r ≡ live_of (sent put (stepped (length out) l read got))
  pub input : b-now ≡ sets got 0 (stepped (length out) l read got).waiting
  pub output : out-now ≡ sets out 0 (stepped (length out) l read got).text
  pub kept : length (stepped (length out) l read got).waiting ≤ length got

-- a turn, where `rest` is what the reader had left, and `held` what the writer held: what came was taken from the one, and what was
-- written of the text was added to the other
pub record TurnMoved (l : Live) (b b-now out out-now : List ℕ) (r : Live) (rest rest-now held held-now : Option (List ℕ)) : Type 0 where
  pub turned : Turned l b b-now out out-now r
  pub took : Consumes rest rest-now (came_bytes (brought turned.read l.have turned.got))
  pub gave : Appends held held-now
      (take (written_of (length (stepped (length out) l turned.read turned.got).text) turned.put) (stepped (length out) l turned.read turned.got).text)

-- ---- A RUN
-- so many turns were made, and what the last left is handed back; it stops only where the run is over, or behind `most_turns`
pub record Ran (n : ℕ) (r : Live) : Type 0 where
  pub count : ℕ
  pub read : List ℕ
  pub written : List ℕ
  pub turn : Turn
  pub turns : Turns n count read written turn
  pub result : r ≡ live_of turn
  pub ends : is_over r.next ≡ false → count ≡ most_turns

-- a run, where `rest` is what the reader had left, and `held` what the writer held: what was read was taken from the one, and what was
-- written was added to the other
pub record RunMoved (n : ℕ) (r : Live) (rest rest-now held held-now : Option (List ℕ)) : Type 0 where
  pub ran : Ran n r
  pub took : Consumes rest rest-now ran.read
  pub gave : Appends held held-now ran.written
