-- Word: the laws of numbers of 16 bits. Halves: those of products in the halves of a word. Those of test 3 are scheme's,
-- proofs/Elements.antt.
pub mod Halves
pub mod Word
