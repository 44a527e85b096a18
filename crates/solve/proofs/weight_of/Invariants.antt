-- `solve::weight_of` meets its contract. The loop's invariant: the product so far times the weight over the positions that are left is the
-- whole weight. Assumes nothing.
use Rattle.std.proofs.Common.{lit<, ◌*◌}
use Rattle.algebra.proofs.Primes.{prime_65521}
use Rattle.scheme.proofs.Solving.Modular.{Factoring}
use Rattle.solve.proofs.weight_of.Given as goal

abbrev pub invariant-loop-pair : goal.invariant-loop-pair
invariant-loop-pair l = Factoring prime_65521 (lit< tt) l.own l.other l.n l.at (2 * l.pair) l.weight
