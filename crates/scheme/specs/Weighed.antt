-- Numbers times factors, over an arithmetic, and sums modulo q that are reduced at their end.
--   weighed_by, weighed     what f says of the first n numbers, times what c says, or times a list of factors
--   Unreduced               a total modulo q, of summands up to `most`
-- Assumes nothing: these are definitions.
use Rattle.std.specs.Prelude.{◌≡◌, List, ℕ, ◌*◌, ◌%◌, ◌≤◌, get_or}
use Rattle.scheme.specs.Lists.{span}
use Rattle.scheme.specs.Scheme.{Arithmetic, modular, sum}

unfoldable pub weighed_by : Arithmetic → (factor : ℕ → ℕ) → (n : ℕ) → (value : ℕ → ℕ) → ℕ
weighed_by A c n f = sum A (span n 0) (λ i. A.multiply (c i) (f i))

abbrev pub weighed : Arithmetic → (factors : List ℕ) → (n : ℕ) → (value : ℕ → ℕ) → ℕ
weighed A cs n f = weighed_by A (λ i. get_or cs i 0) n f

-- of the n numbers from k on
pub record Unreduced (q most : ℕ) (f : ℕ → ℕ) (k n total : ℕ) : Type 0 where
  pub small : total ≤ n * most
  pub right : total % q ≡ sum (modular q) (span n k) f
