-- Ends: the airfield end where it stands in a lent array.
-- Lent: the service where its state stands in lent arrays.
-- Found: where in a user's key the shares for a set start.
-- Meaning: what a total means, and what stands for a signed figure.
-- Promise: what callers in C and Rust lean on.
pub mod Ends
pub mod Lent
pub mod Found
pub mod Meaning
pub mod Promise
