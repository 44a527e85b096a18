-- A field, as one record: its elements, its operations and their laws.
--   Field   the record; a law with a premise is only that of the inverse
--   sub     a difference
-- Assumes nothing: these are definitions.
use Rattle.std.specs.Prelude.{◌≡◌, ◌≢◌}

pub record Field : Type 1 where
  pub F : Type 0
  pub 𝟘 : F
  pub 𝟙 : F
  pub add : F → F → F
  pub mul : F → F → F
  pub neg : F → F
  pub inv : F → F
  pub add_comm : (a b : F) → add a b ≡ add b a
  pub add_assoc : (a b c : F) → add (add a b) c ≡ add a (add b c)
  pub add-zero : (a : F) → add a 𝟘 ≡ a
  pub add_neg : (a : F) → add a (neg a) ≡ 𝟘
  pub mul_comm : (a b : F) → mul a b ≡ mul b a
  pub mul_assoc : (a b c : F) → mul (mul a b) c ≡ mul a (mul b c)
  pub mul-one : (a : F) → mul a 𝟙 ≡ a
  pub mul-add : (a b c : F) → mul a (add b c) ≡ add (mul a b) (mul a c)
  pub mul_inv : (a : F) → a ≢ 𝟘 → mul a (inv a) ≡ 𝟙

unfoldable pub sub : (K : Field) → K.F → K.F → K.F
sub K a b = K.add a (K.neg b)
