-- `finish::explain` meets its contract. The loop's invariant is Searching: proofs/Searching.antt has what each end of a turn shows.
-- The measure is how many rows are left. Assumes nothing.
use Rattle.std.proofs.Common.{◌-◌, ◌≤◌}
use Rattle.scheme.specs.Scheme.{sixteen, ones}
use Rattle.scheme.specs.Good.{Good}
use Rattle.plan.specs.Plan.{plan_of}
use Rattle.solve.specs.Solve.{laws16}
use Rattle.finish.proofs.Searching.{Searching}
use Rattle.finish.proofs.explain.Given as goal

abbrev pub invariant-loop-cleared : goal.invariant-loop-cleared
invariant-loop-cleared l = (good : Good (plan_of l.plan)) (many : l.plan.threshold ≤ ones l.plan.users l.set)
    → Searching sixteen laws16 (plan_of l.plan) good l.set many l.reply l.count l.rows l.values l.cleared

abbrev pub decreases-loop-cleared : goal.decreases-loop-cleared
decreases-loop-cleared l = l.count - l.cleared
