-- Where in a user's key the shares for a set start, as callers in C and Rust are told it: a number, and 0 behind a refusal.
--   as_start, start_found   what a lookup answers
-- Assumes nothing: these are definitions.
use Rattle.std.specs.Prelude.{ℕ}
use Rattle.scheme.specs.Scheme.{Plan}
use Rattle.plan.specs.Found.{Found, found}
use Rattle.capi.specs.declared.CutawhenoStart.{CutawhenoStart}

abbrev pub as_start : Found → CutawhenoStart
as_start f = record { number = f.number; start = f.start }

abbrev pub start_found : Plan → (k set : ℕ) → CutawhenoStart
start_found p k v = as_start (found p k v)
