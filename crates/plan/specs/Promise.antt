-- What holds of a lookup that is taken, over an arithmetic as a parameter.
--   FoundShares, FoundRight   from the start on lie the shares for the set, inside the user's key, whichever the random list
-- Assumes nothing: these are definitions.
use Rattle.std.specs.Prelude.{◌≡◌, List, ℕ, ◌+◌, ◌≤◌, take, drop}
use Rattle.scheme.specs.Scheme.{Arithmetic, Plan, shares, key, key_length}
use Rattle.plan.specs.Found.{found}

pub record FoundShares (A : Arithmetic) (p : Plan) (k v : ℕ) : Type 0 where
  pub inside : (found p k v).start + p.blocks ≤ key_length p k
  pub part : (xs : List ℕ) → take p.blocks (drop (found p k v).start (key A p xs k)) ≡ shares A p xs k v

unfoldable pub FoundRight : Arithmetic → Type 0
FoundRight A = (p : Plan) (k v : ℕ) → (found p k v).number ≡ 0 → FoundShares A p k v
