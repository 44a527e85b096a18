-- Demands 1 and 2. Totals, Fits: what explains the replies of a round. Held, Choices: what a state holds, and explains. Without, Aside,
-- Turns: one reply set aside, and the search for it. Well, Repeats, Service: the service record by record. Threshold: that U is needed.
pub mod Totals
pub mod Fits
pub mod Held
pub mod Choices
pub mod Without
pub mod Aside
pub mod Turns
pub mod Well
pub mod Repeats
pub mod Service
pub mod Threshold
