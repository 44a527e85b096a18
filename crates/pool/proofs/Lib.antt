-- Standing: where a run stands behind each turn. Promise: the statements of specs/Promise.antt.
-- Leaving: what the code leaves in its values and buffers. Carrying: the bytes of reader and writer. Running: the turns of a run.
pub mod Standing
pub mod Promise
pub mod Leaving
pub mod Carrying
pub mod Running
