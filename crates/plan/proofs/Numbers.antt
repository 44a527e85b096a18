-- Document 01's numbers of the refusals.
--   refused_ne0   none of them is 0, which is for a call that is taken
-- Assumes nothing.
use Rattle.std.proofs.Common.{◌≢◌}
use Rattle.plan.specs.declared.refusal.Refusal.{Refusal}
use Rattle.plan.specs.declared.refusal.Refusal.TheVariants.{BadPlan, BadLength, BadElement, BadUser, SetUnusable, NotInSet, BadRecord, BadPlace}
use Rattle.plan.specs.declared.refusal.Refusal.TheVariants.{PlanOrder, OtherPhase, Held, NoSurvivor, TooFew, Unexplained, OldRound, OutOfTurn, OtherSet}
use Rattle.plan.specs.declared.refusal.Refusal.TheVariants.{BytesRunOut, FigureBeyond, OtherRound}
use Rattle.plan.specs.Numbers.{number_of}

pub refused_ne0 : (r : Refusal) → number_of r ≢ 0
refused_ne0 BadPlan = λ e. cc
refused_ne0 BadLength = λ e. cc
refused_ne0 BadElement = λ e. cc
refused_ne0 BadUser = λ e. cc
refused_ne0 SetUnusable = λ e. cc
refused_ne0 NotInSet = λ e. cc
refused_ne0 BadRecord = λ e. cc
refused_ne0 BadPlace = λ e. cc
refused_ne0 PlanOrder = λ e. cc
refused_ne0 OtherPhase = λ e. cc
refused_ne0 Held = λ e. cc
refused_ne0 NoSurvivor = λ e. cc
refused_ne0 TooFew = λ e. cc
refused_ne0 Unexplained = λ e. cc
refused_ne0 OldRound = λ e. cc
refused_ne0 OutOfTurn = λ e. cc
refused_ne0 OtherSet = λ e. cc
refused_ne0 BytesRunOut = λ e. cc
refused_ne0 FigureBeyond = λ e. cc
refused_ne0 OtherRound = λ e. cc
