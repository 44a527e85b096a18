-- Plan: the plan and the use of the code as those of the definitions. Limits: the limits of the code. Counts: how many sets are usable, by a
-- table. Lengths: how long the lists are that a caller lends, and how far from zero a figure may lie. Found: what a lookup answers.
-- Promise: what holds of a lookup that is taken.
pub mod Plan
pub mod Numbers
pub mod Limits
pub mod Counts
pub mod Lengths
pub mod Found
pub mod Promise
