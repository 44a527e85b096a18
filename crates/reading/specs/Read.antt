-- How a total is read: refused by a number, or as a whole number.
-- Assumes nothing: this is a definition.
use Rattle.std.specs.Prelude.{ℕ, ℤ}

pub data Reading : Type 0 where
  Refused : (number : ℕ) → Reading
  Value : (value : ℤ) → Reading
