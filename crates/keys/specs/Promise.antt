-- What a refused call leaves in the lent buffer.
--   RefusedUnchanged   "every lent buffer stays as before the call": of the key maker, and of the list from bytes
-- Assumes nothing: these are definitions.
use Rattle.std.specs.Prelude.{◌≡◌, ◌≢◌, List, ℕ, length}
use Rattle.scheme.specs.Scheme.{Arithmetic, Plan, key_refusal, key_left}
use Rattle.scheme.specs.Drawn.{list_refusal, list_left}

pub record RefusedUnchanged (A : Arithmetic) : Type 0 where
  pub key_kept : (p : Plan) (k : ℕ) (xs o : List ℕ) → key_refusal A p k xs (length o) ≢ 0 → key_left A p k xs o ≡ o
  pub list_kept : (p : Plan) (s o : List ℕ) → list_refusal A p s (length o) ≢ 0 → list_left A p s o ≡ o
