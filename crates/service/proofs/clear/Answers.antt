-- `service::clear` meets its contract: the arrays are written out as the definitions are.
-- Assumes nothing.
use Rattle.std.proofs.Common.{refl}
use Rattle.service.specs.Calls.{nothing_first, nothing_reply}
use Rattle.service.proofs.clear.Goals as goal

pub returns : goal.returns
unfolding nothing_first nothing_reply
returns c = (refl, refl)
