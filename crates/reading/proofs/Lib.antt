-- Laws: what the proofs of the two functions share. Promise: the statements of specs/Promise.antt.
pub mod Laws
pub mod Promise
