-- `service::open_lent` meets its contract: `check_open` decides between the two states.
-- Assumes nothing.
use Rattle.service.specs.Calls.{open_step, opened}
use Rattle.service.proofs.Refused.{step_taken, step_handed}
use Rattle.service.proofs.open_lent.Goals as goal

pub returns-in_err-check_open : goal.returns-in_err-check_open
unfolding open_step
returns-in_err-check_open c = step_handed _ _ c.from_residual.ensures.1 c.in_err-check_open.ensures _ _

pub returns : goal.returns
unfolding open_step opened
returns c = step_taken c.in_ok-check_open.ensures (simp (c.clear.ensures.0, c.clear.ensures.1)) _
