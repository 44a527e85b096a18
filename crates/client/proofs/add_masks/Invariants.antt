-- `client::add_masks` meets its contract. The loop's invariant: what is written so far is the first i places (Lists.sets_more).
-- Assumes nothing.
use Rattle.std.proofs.Common.{◌≡◌}
use lib.Seq.{sets}
use Rattle.scheme.specs.Lists.{each}
use Rattle.scheme.specs.Scheme.{sixteen}
use Rattle.client.proofs.add_masks.Given as goal

abbrev pub invariant-loop-i : goal.invariant-loop-i
invariant-loop-i l = l.out ≡ sets l.initial.out 0 (each sixteen.add l.i l.figures l.key)
