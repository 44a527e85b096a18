-- The table of examples holds.
pub mod Cases
