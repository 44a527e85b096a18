-- `stream::take_open` meets its contract: the call's answer decides the line.
-- Assumes nothing.
use Rattle.stream.proofs.Turns.{turn_taken, turn_refused, open_says}
use Rattle.stream.proofs.take_open.Goals as goal

pub returns-in-Ok : goal.returns-in-Ok
returns-in-Ok c = turn_taken _ (open_says _ _ c.in-Ok.ensures) (c.put_open.ensures.put _)

pub returns-in-Err : goal.returns-in-Err
returns-in-Err c = turn_refused _ _ (open_says _ _ c.in-Err.ensures) c.put_refusal.ensures.put
