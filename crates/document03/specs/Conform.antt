-- Our statements about document 03's service, beside its own in Promise.antt.
--   Sound, StaysSound         if there is a plan, it is good: so it is of a new state, and of every state that records lead to
--   Small, StaysSmall         the replies held are elements: likewise
--   Answered, AlwaysAnswers   every record has an answer in every sound state
--   Met, StepsSame            for a step there, our service has the step that belongs beside it
--   Stepped, StepsOurs        a step of our service, from a state that stands for one of document 03's, belongs beside a step there
-- Assumes nothing: these are definitions.
use Rattle.std.specs.Prelude.{◌≡◌, true, ℕ, ◌<◌}
use Rattle.scheme.specs.Scheme.{sixteen}
use Rattle.scheme.specs.Service.{State, Answer, Steps}
use Rattle.document03.specs.Scheme as D
use Rattle.document03.specs.Service as S
use Rattle.document03.specs.Ours.{our_state, our_record, Beside}

abbrev pub Sound : S.State → Type 0
Sound s = (s.phase ≡ 0 → ⊥) → D.plan_good s.plan_of ≡ true

unfoldable pub StaysSound : Type 0
StaysSound = Sound S.new_state × ((r : S.Record) (s t : S.State) (l : S.Line) → Sound s → S.Steps r s l t → Sound t)

abbrev pub Small : S.State → Type 0
Small s = (k b : ℕ) → S.held_value k b s.replies < D.q

unfoldable pub StaysSmall : Type 0
StaysSmall = Small S.new_state × ((r : S.Record) (s t : S.State) (l : S.Line) → Small s → S.Steps r s l t → Small t)

pub record Answered (r : S.Record) (s : S.State) : Type 0 where
  pub line : S.Line
  pub state : S.State
  pub step : S.Steps r s line state

unfoldable pub AlwaysAnswers : Type 0
AlwaysAnswers = (r : S.Record) (s : S.State) → Sound s → Answered r s

pub record Met (r : S.Record) (s : S.State) (l : S.Line) (t : S.State) : Type 0 where
  pub answer : Answer
  pub state : S.State
  pub beside : Beside s r l t answer state
  pub step : Steps sixteen (our_record r) (our_state s) answer (our_state state)

unfoldable pub StepsSame : Type 0
StepsSame = (r : S.Record) (s t : S.State) (l : S.Line) → Sound s → Small s → S.Steps r s l t → Met r s l t

pub record Stepped (r : S.Record) (s : S.State) (a : Answer) (t : State) : Type 0 where
  pub line : S.Line
  pub state : S.State
  pub step : S.Steps r s line state
  pub ours : S.State
  pub beside : Beside s r line state a ours
  pub leads : our_state ours ≡ t

unfoldable pub StepsOurs : Type 0
StepsOurs =
    (r : S.Record) (s : S.State) (a : Answer) (t : State) → Sound s → Steps sixteen (our_record r) (our_state s) a t → Stepped r s a t
