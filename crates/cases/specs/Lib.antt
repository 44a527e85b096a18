-- The starred examples of document 01's example round, as one table.
pub mod Cases
