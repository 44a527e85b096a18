-- The laws of solve.
pub mod Rows
