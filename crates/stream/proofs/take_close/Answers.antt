-- `stream::take_close` meets its contract: the call's answer decides the line.
-- Assumes nothing.
use Rattle.stream.proofs.Turns.{turn_taken, turn_refused, close_says}
use Rattle.stream.proofs.take_close.Goals as goal

pub returns-in-Ok : goal.returns-in-Ok
returns-in-Ok c = turn_taken _ (close_says _ c.in-Ok.ensures) (c.put_survivors.ensures.put _)

pub returns-in-Err : goal.returns-in-Err
returns-in-Err c = turn_refused _ _ (close_says _ c.in-Err.ensures) c.put_refusal.ensures.put
