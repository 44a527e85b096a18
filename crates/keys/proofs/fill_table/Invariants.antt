-- `keys::fill_table` meets its contract: one set a turn (Making.Tables.Filling). Assumes nothing.
use Rattle.scheme.specs.Scheme.{sixteen}
use Rattle.scheme.specs.KeyParts.{Table}
use Rattle.keys.proofs.fill_table.Given as goal

abbrev pub invariant-loop-set : goal.invariant-loop-set
invariant-loop-set l = Table sixteen l.products l.first l.set l.sums
