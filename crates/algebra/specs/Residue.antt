-- Residues modulo q.
--   El, el    the numbers below q; the residue of a number
--   Prime     no divisor from 2 to q - 1
--   inverse   modulo a prime, by descending remainders
-- Assumes nothing: these are definitions.
use Rattle.std.specs.Prelude.{◌≢◌, ℕ, zero, suc, ◌-◌, ◌*◌, ◌/◌, ◌%◌, ◌≤◌, ◌<◌}
use Rattle.std.proofs.Common.{mod-lt}

pub record El (q : ℕ) : Type 0 where
  pub val : ℕ
  pub small : val < q

abbrev pub el : (q : ℕ) → 0 < q → ℕ → El q
el q positive n = record { val = n % q; small = mod-lt n positive }

pub record Prime (q : ℕ) : Type 0 where
  pub two : 2 ≤ q
  pub no_divisor : (a : ℕ) → 1 < a → a < q → q % a ≢ 0

-- q = s a + b gives a (- s / b) = 1: from the inverse of the remainder b to that of a
unfoldable pub inverse_from : (q fuel a : ℕ) → ℕ
inverse_from q zero a = 1
inverse_from q (suc n) zero = 1
inverse_from q (suc n) (suc zero) = 1
inverse_from q (suc n) (suc (suc a)) = (q - q / suc (suc a) * inverse_from q n (q % suc (suc a)) % q) % q

unfoldable pub inverse : (q a : ℕ) → ℕ
inverse q a = inverse_from q a a
