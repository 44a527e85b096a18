-- `service::Service::new` meets its contract: nothing is held.
-- Assumes nothing.
use Rattle.std.proofs.Common.{refl}
use Rattle.service.specs.Calls.{nothing_first, nothing_reply, new_service}
use Rattle.service.proofs.Service.new.Goals as goal

pub returns : goal.returns
unfolding new_service nothing_first nothing_reply
returns c = refl
