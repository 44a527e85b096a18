-- Round: the proof of demand 2 from end to end.
pub mod Round
