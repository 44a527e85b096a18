-- `service::Service::reply_element` meets its contract: the rest of the state stays, and `put_reply` ensures the array.
-- Assumes nothing.
use Rattle.service.specs.Calls.{reply_step}
use Rattle.service.proofs.Service.reply_element.Goals as goal

pub returns : goal.returns
unfolding reply_step
returns c = cc (c.put_reply.ensures.number, c.put_reply.ensures.left)
