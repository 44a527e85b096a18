-- Lists: the lists that are lent, and the round of a line. Replied: what the line r shows.
-- Judged: what a line shows.
pub mod Lists
pub mod Replied
pub mod Judged
