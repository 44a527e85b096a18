-- Tests: laws of the tests of lists. Copies: a list in a part of another. Started, Replied, Values: the lines s and r, and those of values.
pub mod Tests
pub mod Copies
pub mod Started
pub mod Replied
pub mod Values
