-- The laws of finish, in reading order; Steps has the theorems of specs/Promise.antt.
pub mod Turns
pub mod Blocks
pub mod Systems
pub mod Seeking
pub mod Searching
pub mod Totalling
pub mod Answers
pub mod Steps
