-- Stream: the record stream of document 01. Early: what the head of a state alone refuses. Promise: that its lines are those of document 01's
-- service. Repeats: that repeats add none.
pub mod Stream
pub mod Early
pub mod Promise
pub mod Repeats
