-- Document 01's number of each refusal.
--   number_of   of a reason
--   numbered    of an answer: 0 where the call is taken
-- Assumes nothing: these are definitions.
use Rattle.std.specs.Prelude.{ℕ, Result, Ok, Err}
use Rattle.plan.specs.declared.refusal.Refusal.{Refusal}
use Rattle.plan.specs.declared.refusal.Refusal.TheVariants.{BadPlan, BadLength, BadElement, BadUser, SetUnusable, NotInSet, BadRecord, BadPlace}
use Rattle.plan.specs.declared.refusal.Refusal.TheVariants.{PlanOrder, OtherPhase, Held, NoSurvivor, TooFew, Unexplained, OldRound, OutOfTurn, OtherSet}
use Rattle.plan.specs.declared.refusal.Refusal.TheVariants.{BytesRunOut, FigureBeyond, OtherRound}

abbrev pub number_of : Refusal → ℕ
number_of BadPlan = 1
number_of BadLength = 2
number_of BadElement = 3
number_of BadUser = 4
number_of SetUnusable = 5
number_of NotInSet = 6
number_of BadRecord = 7
number_of BadPlace = 8
number_of PlanOrder = 11
number_of OtherPhase = 12
number_of Held = 13
number_of NoSurvivor = 14
number_of TooFew = 15
number_of Unexplained = 16
number_of OldRound = 17
number_of OutOfTurn = 18
number_of OtherSet = 19
number_of BytesRunOut = 31
number_of FigureBeyond = 32
number_of OtherRound = 33

abbrev pub numbered : {A : Type 0} → Result A Refusal → ℕ
numbered (Ok a) = 0
numbered (Err r) = number_of r
