-- The theorems of the algebra: read Field, Sums, Weights, Cauchy for systems, then Residue, Primes, Mersenne for numbers.
pub mod Field
pub mod Sums
pub mod Weights
pub mod Cauchy
pub mod Residue
pub mod Primes
pub mod Mersenne
