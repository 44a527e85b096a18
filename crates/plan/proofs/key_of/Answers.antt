-- `plan::key_of` meets its contract: masks and shares are each bounded for a good plan. Assumes nothing.
use Rattle.std.proofs.Common.{arith}
use Rattle.scheme.specs.Scheme.{key_length}
use Rattle.scheme.proofs.PlanBounds.{shares_le}
use Rattle.plan.proofs.key_of.Goals as goal

pub returns : goal.returns
unfolding key_length
returns c =
    (cc, omega (arith, shares_le c.requires.0 c.count_holding.ensures.1))
