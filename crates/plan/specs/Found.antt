-- What a lookup answers: where the shares for a set start in a user's key.
--   Found            document 01's number, and the start: 0 after a refusal
--   found_by         what the answer says in these words
--   found            what a lookup answers
-- Assumes nothing: these are definitions.
use Rattle.std.specs.Prelude.{ℕ, Result, Ok, Err}
use Rattle.scheme.specs.Scheme.{Plan, reply_start, lookup_refusal, after}
use Rattle.plan.specs.declared.refusal.Refusal.{Refusal}
use Rattle.plan.specs.Numbers.{number_of}

pub record Found : Type 0 where
  pub number : ℕ
  pub start : ℕ

abbrev pub found_by : Result ℕ Refusal → Found
found_by (Ok s) = record { number = 0; start = s }
found_by (Err r) = record { number = number_of r; start = 0 }

abbrev pub found_at : (refusal start : ℕ) → Found
found_at n s = record { number = n; start = after n s 0 }

abbrev pub found : Plan → (k set : ℕ) → Found
found p k v = found_at (lookup_refusal p k v) (reply_start p k v)
