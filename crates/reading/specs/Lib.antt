-- Read, Given: a total that is read, and a figure that is given, or their refusals. Reading: what a total means and what stands for a signed figure. Promise: that every whole number within reach is read back.
pub mod Read
pub mod Given
pub mod Reading
pub mod Promise
