-- `solve::add_row` meets its contract. The loop's invariant: the sums of the first b blocks are new, and the others old. Assumes nothing.
use Rattle.std.proofs.Common.{◌≡◌, map}
use lib.Seq.{sets}
use Rattle.scheme.specs.Lists.{span}
use Rattle.scheme.specs.Scheme.{sixteen}
use Rattle.scheme.specs.Solve.{scaled_on}
use Rattle.solve.proofs.add_row.Given as goal

abbrev pub invariant-loop-b : goal.invariant-loop-b
invariant-loop-b l = l.sums ≡ sets l.initial.sums 0 (map (scaled_on sixteen l.initial.sums l.factor l.grid l.at) (span l.b 0))
