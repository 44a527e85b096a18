-- Records: the records of an input. Turns: one record's answer and line.
-- Runs: records taken in silence. Feeding: what holds at each turn of feed. Promise: the theorems of specs/Promise.antt.
-- Repeats: those of specs/Repeats.antt.
pub mod Records
pub mod Turns
pub mod Early
pub mod Runs
pub mod Feeding
pub mod Promise
pub mod Repeats
