-- Products in the halves of a word of w numbers (Montgomery).
--   Scales   the two numbers by which a factor a is prepared
-- Assumes nothing: these are definitions.
use Rattle.std.specs.Prelude.{◌≡◌, ℕ, ◌*◌, ◌%◌, ◌<◌}

pub record Scales (w q a by key : ℕ) : Type 0 where
  pub by_low : by < q
  pub by_right : by ≡ a * w % q
  pub key_right : key * q % w ≡ by % w
