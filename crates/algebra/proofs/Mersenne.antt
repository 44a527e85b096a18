-- A prime of 31 bits, by the same trial division: nothing in the algebra is tied to one prime.
use lib.Dec.{lit<, lit≤}
use Rattle.algebra.specs.Residue.{Prime}
use Rattle.algebra.proofs.Primes.{prime_by_root}

pub prime_2147483647 : Prime 2147483647
prime_2147483647 = prime_by_root 2147483647 46340 (lit≤ tt) (lit< tt) tt
