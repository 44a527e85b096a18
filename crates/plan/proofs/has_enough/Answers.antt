-- `plan::has_enough` meets its contract: of a set below 2 ^ K the machine counts the ones that the definition counts. Assumes nothing.
use Rattle.std.proofs.Common.{lt-ltb}
use Rattle.scheme.specs.Scheme.{usable}
use Rattle.plan.proofs.Laws.{ones_same}
use Rattle.plan.proofs.has_enough.Goals as goal

pub returns : goal.returns
unfolding usable
returns c = rw (lt-ltb _ _ c.requires, ← ones_same _ _ c.requires)
