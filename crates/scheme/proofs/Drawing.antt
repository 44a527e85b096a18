-- Random lists from raw bytes: that the call finds them, and that no list is favoured.
--   Refusal             what list_refusal takes
--   Reading, DrawnTo    bytes read two at a time; a list filled from them
--   Bytes, Refill       the elements that bytes hold; the bytes with a list's elements in their places
--   Draws, Partners     what a byte string draws; partners of lists made partners of byte strings
--   Evenly, Told        the promises of specs/Evenly.antt
pub mod Refusal
pub mod Reading
pub mod DrawnTo
pub mod Bytes
pub mod Refill
pub mod Draws
pub mod Partners
pub mod Evenly
pub mod Told
