-- The numbers of 16 bits.
--   product_low   a product of two of them
-- Assumes nothing.
use Rattle.std.proofs.Common.{ℕ, ◌*◌, ◌≤◌, mul-le-mul}
use Rattle.element.specs.Word.{most_word, most_product}

pub product_low : {a b : ℕ} → a ≤ most_word → b ≤ most_word → a * b ≤ most_product
product_low h l = mul-le-mul {n₂ = most_word} {m₂ = most_word} h l
