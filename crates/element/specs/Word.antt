-- The numbers of 16 bits.
--   word, most_word, most_product    how many there are, the largest of them, and of their products
--   reducible                        the high and the low half of a number below it add up to less than 2 * q, the high one times word - q
-- Assumes nothing: these are definitions.
use Rattle.std.specs.Prelude.{ℕ, ◌-◌, ◌*◌, ◌^◌}

abbrev pub word : ℕ
word = 2 ^ 16

abbrev pub most_word : ℕ
most_word = word - 1

abbrev pub most_product : ℕ
most_product = most_word * most_word

abbrev pub reducible : ℕ
reducible = 2 ^ 28
