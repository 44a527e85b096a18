-- Finish: what the call answers and leaves. Promise: that it is the step of document 01's service. Parts: what the functions under it answer.
pub mod Finish
pub mod Promise
pub mod Parts
