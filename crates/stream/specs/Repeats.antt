-- The radio link repeats records: bytes in, lines out.
--   placed           answers to the records of an input, each at the offset of its record; where the input breaks off stands 7
--   bare             what is printed for answers, with 0 for every offset
--   whole_in         the whole records of an input
--   WithRepeats     an input, and another whose records are the same with repeats added, each of an element that the first has accepted
--   Quiet            what the lines of the second are: at its own offsets, and offsets apart
--   RepeatsQuiet    so they are
--   ExampleRepeats  two inputs of which it speaks
-- Assumes nothing: these are definitions.
use Rattle.std.specs.Prelude.{◌≡◌, List, [], ◌∷◌, ◌++◌, ℕ}
use Rattle.scheme.specs.Scheme.{sixteen}
use Rattle.scheme.specs.Service.{Answer, silent, planned, opened, refused}
use Rattle.scheme.specs.Repeats.{Repeats}
use Rattle.service.specs.declared.Service.{Service}
use Rattle.service.specs.View.{view, Formed}
use Rattle.service.specs.Calls.{new_service}
use Rattle.lines.specs.Text.{line}
use Rattle.stream.specs.Stream.{Item, taken, broken, items, Placed, answers, text, lines}
use Rattle.stream.specs.Promise.{records_of, answers_of, all_taken, last_state, whole_of}

unfoldable pub placed : List Item → List Answer → List Placed
placed [] m = []
placed (taken o r ∷ l) [] = []
placed (taken o r ∷ l) (a ∷ m) = record { offset = o; answer = a } ∷ placed l m
placed (broken o ∷ l) m = record { offset = o; answer = refused 7 } ∷ []

unfoldable pub bare : List Answer → List ℕ
bare [] = []
bare (a ∷ l) = line 0 a ++ bare l

abbrev pub whole_in : (o : ℕ) → (b : List ℕ) → List Item
whole_in o b = whole_of (items o b)

-- of b, whose first byte stands at the offset o, and c at p; m are the answers to b, each at the same record of c, and silence to each repeat.
-- "Right behind a whole record" is what `items` makes of bytes
abbrev pub WithRepeats : Service → (o : ℕ) → (b : List ℕ) → (p : ℕ) → (c : List ℕ) → (m : List Answer) → Type 0
WithRepeats s o b p c m = Repeats [] (records_of (whole_in o b)) (answers_of (answers s (whole_in o b))) (records_of (whole_in p c)) m

-- offsets apart they are the lines of b, where both break off or neither does
pub record Quiet (s : Service) (o : ℕ) (b : List ℕ) (p : ℕ) (c : List ℕ) (m : List Answer) : Type 0 where
  pub printed : lines s p c ≡ text (placed (items p c) m)
  pub same : all_taken (items p c) ≡ all_taken (items o b) → bare (answers_of (answers s (items p c))) ≡ bare (answers_of (answers s (items o b)))
  pub state : view (last_state s (whole_in p c)) ≡ view (last_state s (whole_in o b))

-- from any state on that calls make
unfoldable pub RepeatsQuiet : Type 0
RepeatsQuiet =
    (s : Service) (o : ℕ) (b : List ℕ) (p : ℕ) (c : List ℕ) (m : List Answer) → Formed sixteen s → WithRepeats s o b p c m → Quiet s o b p c m

-- ---- AN EXAMPLE: plan 3 2 1 1 and round 7; for airfield 1's place 110 and then 111, which is 13; and the same with 110 again behind each
abbrev pub example_head : List ℕ
example_head = 1 ∷ 3 ∷ 2 ∷ 1 ∷ 1 ∷ 2 ∷ 7 ∷ 0 ∷ 0 ∷ 0 ∷ []

abbrev pub example_element : (x : ℕ) → List ℕ
example_element x = 3 ∷ 1 ∷ 0 ∷ 0 ∷ x ∷ 0 ∷ []

unfoldable pub ExampleRepeats : Type 0
ExampleRepeats =
    WithRepeats new_service 0 (example_head ++ example_element 110 ++ example_element 111)
    0 (example_head ++ example_element 110 ++ example_element 110 ++ example_element 111 ++ example_element 110)
    (planned (record { users = 3; threshold = 2; collusion = 1; blocks = 1 }) ∷ opened 7 ∷ silent ∷ silent ∷ refused 13 ∷ silent ∷ [])
