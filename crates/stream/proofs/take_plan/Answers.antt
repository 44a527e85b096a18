-- `stream::take_plan` meets its contract: the call's answer decides the line.
-- Assumes nothing.
use Rattle.stream.proofs.Turns.{turn_taken, turn_refused, plan_says}
use Rattle.stream.proofs.take_plan.Goals as goal

pub returns-in-Ok : goal.returns-in-Ok
returns-in-Ok c = turn_taken _ (plan_says _ _ c.in-Ok.ensures) (c.put_plan.ensures.put _)

pub returns-in-Err : goal.returns-in-Err
returns-in-Err c = turn_refused _ _ (plan_says _ _ c.in-Err.ensures) c.put_refusal.ensures.put
