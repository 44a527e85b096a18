-- `stream::take_finish` meets its contract: what the phase refuses a finish refuses.
-- Assumes nothing.
use Rattle.stream.proofs.Early.{finish_early}
use Rattle.stream.proofs.take_finish.Goals as goal

pub returns-in-Err : goal.returns-in-Err
returns-in-Err c = finish_early _ _ c.in-Err.ensures c.put_refusal.ensures.put
