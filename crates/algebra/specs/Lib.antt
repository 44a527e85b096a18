-- The definitions of the algebra: read Field, Sums, Cauchy, Residue in this order.
pub mod Field
pub mod Sums
pub mod Cauchy
pub mod Residue
