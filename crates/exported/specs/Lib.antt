-- Runs: the exported service calls one after the other, over lent arrays. Ends: those of an airfield end: it sends one first message and
-- answers one set of its own round, whatever is called. Shown: demand 3 over whole histories of the exported calls.
-- Round: whole rounds on lent memory, from the random list to the totals. Example: document 01's round, computed.
-- Refused: a refused exported call changes nothing. Repeats: a repeat changes nothing, and is taken in silence.
-- Longest: how long the lists can be that callers lend.
pub mod Runs
pub mod Refused
pub mod Repeats
pub mod Shown
pub mod Ends
pub mod Round
pub mod Example
pub mod Longest
