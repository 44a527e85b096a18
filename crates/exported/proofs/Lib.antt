-- Runs: calls on lent arrays are document 01's runs. Ends: an airfield end sends one first message and answers one set of its own round,
-- whatever is called. Shown: demand 3 over whole histories of the exported calls, from that of the program's own calls.
-- Carried: what is held was put in. Round: demand 2 from end to end on lent memory. Example: document 01's round, computed.
-- Refused: a refused exported call changes nothing. Repeats: a repeat changes nothing, and is taken in silence.
-- Longest: how long the lists can be that callers lend.
pub mod Runs
pub mod Refused
pub mod Repeats
pub mod Shown
pub mod Ends
pub mod Carried
pub mod Round
pub mod Example
pub mod Longest
