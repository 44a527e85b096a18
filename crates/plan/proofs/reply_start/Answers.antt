-- `plan::reply_start` meets its contract: at most most_sets sets of at most most_blocks shares each.
-- Assumes nothing.
use Rattle.std.proofs.Common.{◌≤◌, arith}
use Rattle.scheme.specs.Limits.{most_sets}
use Rattle.scheme.specs.Scheme.{reply_start}
use Rattle.plan.specs.Plan.{plan_of}
use Rattle.scheme.proofs.PlanBounds.{sets_le, shares_le}
use Rattle.plan.proofs.reply_start.Goals as goal

pub returns : goal.returns
unfolding reply_start
returns c =
    let few : c.set_place.result ≤ most_sets = omega (arith, sets_le (plan_of c.args.p) c.requires.0) in
    (cc, omega (arith, shares_le c.requires.0 few))
