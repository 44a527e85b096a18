-- The radio link repeats records: what an element does where one is held, and streams to which repeats are added.
--   emptied                     a state without its elements: an element that it refuses is refused before 13
--   element_in, held_for        the element that a record carries, and what is held where that belongs
--   HoldsOther                 another element is held in a place
--   OtherHeld, ThirteenExactly     13 is the answer where that is so, and to nothing else
--   Repeat, RepeatSilent       a repeat has one answer, silence, and leaves the state as it was
--   accepted_after              the elements of a list that are accepted while the phase lasts, behind one record more
--   Repeats                     records, and the same with repeats added, with the answers to both
--   RepeatsQuiet               then the second answers are those to the second records, and the state behind both is the same
--   twice, all_twice, TwiceRepeats     so it is where every accepted element comes twice: there are such records for every run
-- Assumes nothing: these are definitions.
use Rattle.std.specs.Prelude.{◌≡◌, ◌≢◌, ◌↔◌, List, [], ◌∷◌, ℕ}
use Rattle.std.proofs.Math.Option.{Option, none, some}
use Rattle.algebra.specs.Sums.{In}
use Rattle.scheme.specs.Scheme.{Arithmetic}
use Rattle.scheme.specs.Service.{State, nothing, Record, plan_record, open_record, first_record, close_record, reply_record, finish_record, Answer, silent, planned, opened, closed, totalled, refused, refusal, Steps, Runs}

-- ---- one record
unfoldable pub emptied : State → State
emptied s = record { phase = s.phase; plan = s.plan; round = s.round; survivors = s.survivors; firsts = nothing; replies = nothing }

unfoldable pub element_in : Record → ℕ
element_in (first_record k i x) = x
element_in (reply_record k b x) = x
element_in (plan_record p) = 0
element_in (open_record r) = 0
element_in close_record = 0
element_in finish_record = 0

unfoldable pub held_for : Record → State → Option ℕ
held_for (first_record k i x) s = s.firsts k i
held_for (reply_record k b x) s = s.replies k b
held_for (plan_record p) s = none
held_for (open_record r) s = none
held_for close_record s = none
held_for finish_record s = none

pub record HoldsOther (place : Option ℕ) (element : ℕ) : Type 0 where
  pub other : ℕ
  pub held : place ≡ some other
  pub differs : other ≢ element

-- the record would be taken if nothing were held, and another element is held where its own belongs
pub record OtherHeld (A : Arithmetic) (r : Record) (s t : State) : Type 0 where
  pub fits : refusal A r (emptied s) ≡ 0
  pub held : HoldsOther (held_for r s) (element_in r)
  pub unchanged : t ≡ s

unfoldable pub ThirteenExactly : Arithmetic → Type 0
ThirteenExactly A = (r : Record) (s t : State) → Steps A r s (refused 13) t ↔ OtherHeld A r s t

pub record Repeat (A : Arithmetic) (r : Record) (s : State) : Type 0 where
  pub fits : refusal A r (emptied s) ≡ 0
  pub held : held_for r s ≡ some (element_in r)

unfoldable pub RepeatSilent : Arithmetic → Type 0
RepeatSilent A = (r : Record) (s t : State) (a : Answer) → Repeat A r s → Steps A r s a t ↔ ((a ≡ silent) × (t ≡ s))

-- ---- many records
-- only an accepted element is answered by silence; an accepted plan, open, close or finish ends the phase; a refusal changes nothing
unfoldable pub accepted_after : (accepted : List Record) → Record → Answer → List Record
accepted_after h r silent = r ∷ h
accepted_after h r (refused n) = h
accepted_after h r (planned p) = []
accepted_after h r (opened n) = []
accepted_after h r (closed n v) = []
accepted_after h r (totalled n k x) = []

-- records with the answers to them; and, with repeats added, the same answers where the records are the same, and silence to each repeat,
-- which is of an element accepted earlier, the phase having lasted since
pub data Repeats : (accepted : List Record) → List Record → List Answer → (more : List Record) → (said : List Answer) → Type 0 where
  over : (h : List Record) → Repeats h [] [] [] []
  own : (h : List Record) (r : Record) (a : Answer) (rs : List Record) (l : List Answer) (more : List Record) (m : List Answer)
      → Repeats (accepted_after h r a) rs l more m → Repeats h (r ∷ rs) (a ∷ l) (r ∷ more) (a ∷ m)
  again : (h : List Record) (r : Record) (rs : List Record) (l : List Answer) (more : List Record) (m : List Answer)
      → In r h → Repeats h rs l more m → Repeats h rs l (r ∷ more) (silent ∷ m)

-- from any state on
unfoldable pub RepeatsQuiet : Arithmetic → Type 0
RepeatsQuiet A =
    (rs more : List Record) (l m : List Answer) (s t : State) → Repeats [] rs l more m → Runs A rs s l t → Runs A more s m t

-- by its answer: an accepted element twice, all else once
unfoldable pub twice : {X : Type 0} → Answer → X → List X → List X
twice silent x l = x ∷ x ∷ l
twice (planned p) x l = x ∷ l
twice (opened n) x l = x ∷ l
twice (closed n v) x l = x ∷ l
twice (totalled n k t) x l = x ∷ l
twice (refused n) x l = x ∷ l

unfoldable pub all_twice : {X : Type 0} → List Answer → List X → List X
all_twice [] xs = []
all_twice (a ∷ l) [] = []
all_twice (a ∷ l) (x ∷ xs) = twice a x (all_twice l xs)

unfoldable pub TwiceRepeats : Arithmetic → Type 0
TwiceRepeats A = (rs : List Record) (l : List Answer) (s t : State) → Runs A rs s l t → Repeats [] rs l (all_twice l rs) (all_twice l l)
