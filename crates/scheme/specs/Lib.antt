-- Read Scheme, then Promise: the definitions of document 01 and the promise of demand 3. Laws and Delta serve its proof, and Modular is
-- the arithmetic with its laws. Totals, Aside, Service, Repeats and ServicePromise are demands 1 and 2, and Signed is what totals of
-- signed figures mean. Weighed and Solve are what key maker and solver compute, and KeyParts the parts of a key. Drawn is the random list from
-- raw bytes, DrawnParts how it is filled, Evenly its promises.
pub mod Limits
pub mod Lists
pub mod Scheme
pub mod Promise
pub mod Signed
pub mod Good
pub mod Drawn
pub mod DrawnParts
pub mod Evenly
pub mod Totals
pub mod Aside
pub mod Service
pub mod Repeats
pub mod ServicePromise
pub mod Laws
pub mod Modular
pub mod Weighed
pub mod Solve
pub mod Delta
pub mod Sharp
pub mod KeyParts
