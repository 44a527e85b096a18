-- Promise: the statement of specs/Promise.antt. What the proofs of the functions cite is in scheme's proofs.
pub mod Promise
