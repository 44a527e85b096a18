-- What stands for a signed figure: an element, or a refusal's number.
-- Assumes nothing: this is a definition.
use Rattle.std.specs.Prelude.{ℕ}

pub data Residue : Type 0 where
  Refused : (number : ℕ) → Residue
  Element : (element : ℕ) → Residue
