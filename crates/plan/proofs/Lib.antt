-- Laws: the count of ones, and loops that count. Counts: how many sets are usable. Promise: a lookup that is taken finds the shares.
pub mod Laws
pub mod Numbers
pub mod Counts
pub mod Promise
