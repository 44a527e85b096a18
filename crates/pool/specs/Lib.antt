-- Turns: the program turn by turn, as a function of what its reads bring. Pool: what the code leaves in its values and buffers.
-- Promise: that what is written are the lines of what is read.
pub mod Turns
pub mod Pool
pub mod Promise
