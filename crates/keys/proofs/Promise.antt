-- A refused call leaves the lent buffer as it was.
--   refused_unchanged   the statement of specs/Promise.antt
-- Assumes nothing.
use Rattle.scheme.specs.Scheme.{Arithmetic}
use Rattle.scheme.proofs.Refusals.{after_refused}
use Rattle.keys.specs.Promise.{RefusedUnchanged}

pub refused_unchanged : (A : Arithmetic) → RefusedUnchanged A
refused_unchanged A = record { key_kept = λ p k xs o h. after_refused h _ o; list_kept = λ p s o h. after_refused h _ o }
