-- The key maker. Rows: numbers written row by row. Places: where masks, noise and shares lie. Tables: sums over sets from two tables. Sums: blocks
-- from sums and noise. Shares: from products and noise. Writing: the loop over all sets.
pub mod Rows
pub mod Places
pub mod Shares
pub mod Sums
pub mod Tables
pub mod Writing
