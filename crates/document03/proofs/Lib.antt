-- Our definitions modulo 65521 are document 03's; its demands 2 and 3, its statements of the service and its contracts follow from ours.
pub mod Sets
pub mod Shares
pub mod Keys
pub mod Shown
pub mod Refusals
pub mod Says
pub mod State
pub mod Repeats
pub mod Explains
pub mod Fits
pub mod Answers
pub mod Counts
pub mod Steps
pub mod Always
