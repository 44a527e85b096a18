-- `plan::set_place` meets its contract. The loop's invariant: the place so far is the rank of the set that comes next.
-- The measure is how many sets are left. Assumes nothing.
use Rattle.std.proofs.Common.{◌-◌}
use Rattle.scheme.specs.Scheme.{usable_with}
use Rattle.plan.specs.Plan.{plan_of}
use Rattle.plan.proofs.Laws.{Counting}
use Rattle.plan.proofs.set_place.Given as goal

abbrev pub invariant-loop-v : goal.invariant-loop-v
invariant-loop-v l = Counting (usable_with (plan_of l.p) l.user) l.set l.v l.place

abbrev pub decreases-loop-v : goal.decreases-loop-v
decreases-loop-v l = l.set - l.v
