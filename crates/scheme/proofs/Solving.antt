-- The solver. Grids: a row for each user, a number for each block. Closed: the closed solution. Explains: in the words of demand 2.
-- Modular: as code computes it modulo a prime.
pub mod Grids
pub mod Closed
pub mod Explains
pub mod Modular
