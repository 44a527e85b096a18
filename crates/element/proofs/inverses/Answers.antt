-- `element::inverses` meets its contract: antt computes the rule at each number. Assumes nothing.
use Rattle.std.proofs.Common.{refl}
use Rattle.algebra.specs.Residue.{inverse, inverse_from}
use Rattle.element.proofs.inverses.Goals as goal

pub returns : goal.returns
unfolding inverse inverse_from
returns c = refl
