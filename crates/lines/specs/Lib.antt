-- Text: the lines, byte for byte. Put: a text written into a buffer.
pub mod Text
pub mod Put
