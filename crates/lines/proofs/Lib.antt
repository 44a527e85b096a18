-- Decimals: how many digits. Lines: texts behind one another.
pub mod Decimals
pub mod Lines
