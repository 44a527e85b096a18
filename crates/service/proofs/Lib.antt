-- View: laws of the view. Phases: the refusals of a phase. Refused: what the calls hand back, refused and taken. Complete: who is complete. Held: an element where one is
-- held.
-- Same: on a well-formed state the calls refuse and leave what document 01 says. Steps: the promises.
pub mod View
pub mod Phases
pub mod Refused
pub mod Complete
pub mod Held
pub mod Same
pub mod Steps
