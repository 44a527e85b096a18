-- The instance of scheme's closed solution that the code computes.
pub mod Solve
