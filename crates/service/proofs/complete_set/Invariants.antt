-- `service::complete_set` meets its contract. The loop's invariant, `Completing`: the set so far and what is to come make the whole.
-- Assumes nothing.
use Rattle.service.proofs.Complete.{all_held, Completing}
use Rattle.service.proofs.complete_set.Given as goal

abbrev pub invariant-loop-k : goal.invariant-loop-k
invariant-loop-k l = Completing (all_held l.held l.stride l.each) l.fn.p.users l.set l.k
