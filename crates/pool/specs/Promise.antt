-- That what the program writes are the lines of what it reads, however the input is cut into reads.
--   said                     the lines of an input from the start on
--   Unfinished, Broken       bytes that are no whole record yet; bytes that refusal 7 is for
--   Ends, Stands, SoFar     where a run stands: what is used, what waits and what is written, by what comes next, or by why it is over
--   RunRight                every run stands so, whatever its reads bring and its writes take
--   by_itself, OutputRight  what `run` ensures: a run that no failure ended has written the lines of all that it read
--   RepeatsQuiet            and where it read another input with repeats added: the answers to that one, at the offsets of the same records
--   ReadsRight              what is printed over any reads are the lines of the whole input
-- Assumes nothing: these are definitions.
use Rattle.std.specs.Prelude.{◌≡◌, Bool, true, false, List, [], ◌++◌, ℕ, ◌+◌, ◌^◌, ◌≤◌, ◌<◌, length, get_or}
use Rattle.scheme.specs.Service.{Answer}
use Rattle.service.specs.Calls.{new_service}
use Rattle.lines.specs.Put.{room}
use Rattle.stream.specs.Stream.{record_length, items, text, lines}
use Rattle.stream.specs.Promise.{all_taken, last_state}
use Rattle.stream.specs.Repeats.{placed, WithRepeats}
use Rattle.pool.specs.declared.Why.{Why}
use Rattle.pool.specs.declared.Why.TheVariants.{EndOfInput, CutShort, UnknownKind, TooFar, ReadFailed, WriteFailed}
use Rattle.pool.specs.declared.Next.{Next}
use Rattle.pool.specs.declared.Next.TheVariants.{Await, Feed, Refuse, Over}
use Rattle.pool.specs.declared.Live.{Live}
use Rattle.pool.specs.Turns.{Turn, Turns, whole, printed}
use Rattle.pool.specs.Pool.{Ran}

abbrev pub said : (input : List ℕ) → List ℕ
said b = lines new_service 0 b

-- nothing, or the first bytes of a record of a known kind
unfoldable pub Unfinished : List ℕ → Type 0
Unfinished b = 0 < length b → length b < record_length (get_or b 0 0)

unfoldable pub Broken : Why → (b : List ℕ) → Type 0
Broken CutShort b = (0 < length b) × Unfinished b
Broken UnknownKind b = (0 < length b) × (record_length (get_or b 0 0) ≡ 0)
Broken EndOfInput b = ⊥
Broken TooFar b = ⊥
Broken (ReadFailed e) b = ⊥
Broken (WriteFailed e) b = ⊥

-- why the run is over, where whole records are used, the bytes b wait, and w is written: all lines of the input, with refusal 7 where it
-- is broken; the lines of what is used; or, behind a failed write, the first bytes of the input's lines
unfoldable pub Ends : Why → (used b w : List ℕ) → Type 0
Ends EndOfInput u b w = (b ≡ []) × (w ≡ said u)
Ends CutShort u b w = Broken CutShort b × (w ≡ said (u ++ b))
Ends UnknownKind u b w = Broken UnknownKind b × (w ≡ said (u ++ b))
Ends TooFar u b w = (2 ^ 64 ≤ length u + length b) × (w ≡ said u)
Ends (ReadFailed e) u b w = w ≡ said u
Ends (WriteFailed e) u b w = (rest : List ℕ) × (w ++ rest ≡ said (u ++ b))

unfoldable pub Stands : Next → (used b w : List ℕ) → Type 0
Stands Await u b w = Unfinished b × (w ≡ said u)
Stands Feed u b w = w ≡ said u
Stands (Refuse y) u b w = Broken y b × (w ≡ said u)
Stands (Over y) u b w = Ends y u b w

-- what is read are whole records, which are used, and then the bytes that wait; the state is that behind these records
pub record SoFar (t : Turn) (read written : List ℕ) : Type 0 where
  pub used : List ℕ
  pub same : used ++ t.waiting ≡ read
  pub taken : all_taken (items 0 used) ≡ true
  pub state : t.service ≡ last_state new_service (items 0 used)
  pub place : t.offset ≡ length used
  pub stands : Stands t.next used t.waiting written

unfoldable pub RunRight : Type 0
RunRight = (n count : ℕ) (read written : List ℕ) (t : Turn) → room ≤ n → Turns n count read written t → SoFar t read written

unfoldable pub by_itself : Why → Bool
by_itself EndOfInput = true
by_itself CutShort = true
by_itself UnknownKind = true
by_itself TooFar = false
by_itself (ReadFailed e) = false
by_itself (WriteFailed e) = false

unfoldable pub OutputRight : Type 0
OutputRight = (n : ℕ) (r : Live) (y : Why) → room ≤ n → (g : Ran n r) → r.next ≡ Over y → by_itself y ≡ true → g.written ≡ said g.read

unfoldable pub RepeatsQuiet : Type 0
RepeatsQuiet =
    (n : ℕ) (r : Live) (y : Why) (b : List ℕ) (m : List Answer) → room ≤ n → (g : Ran n r) → r.next ≡ Over y → by_itself y ≡ true →
    WithRepeats new_service 0 b 0 g.read m → g.written ≡ text (placed (items 0 g.read) m)

unfoldable pub ReadsRight : Type 0
ReadsRight = (n : ℕ) (reads : List (List ℕ)) → room ≤ n → length (whole reads) < 2 ^ 64 → printed n reads ≡ said (whole reads)
