-- Demand 3. Add: keys are additive in the random list. Delta: the translation. Told: the demand for every arithmetic with the laws.
-- Demand: modulo a prime, and modulo 65521. Sharp, Settled, FirstUsers, Collusion: that the premises are needed.
pub mod Add
pub mod Delta
pub mod Told
pub mod Demand
pub mod Sharp
pub mod Settled
pub mod FirstUsers
pub mod Collusion
