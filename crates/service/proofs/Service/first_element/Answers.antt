-- `service::Service::first_element` meets its contract: the rest of the state stays, and `put_first` ensures the array.
-- Assumes nothing.
use Rattle.service.specs.Calls.{first_step}
use Rattle.service.proofs.Service.first_element.Goals as goal

pub returns : goal.returns
unfolding first_step
returns c = cc (c.put_first.ensures.number, c.put_first.ensures.left)
