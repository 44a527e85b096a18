-- `plan::list_of` meets its contract: each of its two summands is bounded for a good plan.
-- Assumes nothing.
use Rattle.std.proofs.Common.{arith}
use Rattle.scheme.specs.Scheme.{list_length}
use Rattle.scheme.proofs.PlanBounds.{masks_le, noise_le}
use Rattle.plan.proofs.list_of.Goals as goal

pub returns : goal.returns
unfolding list_length
returns c =
    (cc, omega (arith, masks_le c.requires c.places_of.ensures.1, noise_le c.requires c.count_usable-sets.ensures.1))
