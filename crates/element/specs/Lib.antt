-- Word: numbers of 16 bits. Halves: products in the halves of a word. The contracts cite the definitions of scheme and algebra besides.
pub mod Halves
pub mod Word
