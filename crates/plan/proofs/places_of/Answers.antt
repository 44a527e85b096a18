-- `plan::places_of` meets its contract: at most most_blocks blocks of at most most_items items.
-- Assumes nothing.
use Rattle.std.proofs.Common.{refl}
use Rattle.scheme.specs.Scheme.{places, items}
use Rattle.scheme.proofs.PlanBounds.{places_le}
use Rattle.plan.proofs.places_of.Goals as goal

pub returns : goal.returns
unfolding places items
returns c = (refl, places_le _ c.requires)
