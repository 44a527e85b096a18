-- Laws: what the proofs of the calls share. Lent: laws of the service on lent arrays.
-- Promise: the promises to callers in C and Rust. Stands: those on lent arrays.
pub mod Laws
pub mod Lent
pub mod Promise
pub mod Stands
