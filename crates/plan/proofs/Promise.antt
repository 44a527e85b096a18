-- A lookup that is taken finds the shares.
--   found_right   from the start on they lie in the key, by the law of replies
-- Assumes nothing.
use Rattle.std.proofs.Common.{ap, ◌∙◌, ℕ, arith, take, drop}
use Rattle.scheme.specs.Scheme.{Arithmetic, usable_with, key, reply_start, reply}
use Rattle.scheme.proofs.Tests.{and_joined}
use Rattle.scheme.proofs.Refusals.{lookup_taken, after_taken}
use Rattle.scheme.proofs.PlanBounds.{reply_inside}
use Rattle.scheme.proofs.Keys.{key_reply}
use Rattle.plan.specs.Promise.{FoundRight}

pub found_right : (A : Arithmetic) → FoundRight A
unfolding FoundRight usable_with reply
found_right A p k v z =
    let t = lookup_taken p k v z in
    let s = after_taken z (reply_start p k v) 0 in
    record {
      inside = omega (arith, s, reply_inside p k v (and_joined t.1 t.2));
      part = λ xs. ap (λ (n : ℕ). take p.blocks (drop n (key A p xs k))) s ∙ key_reply A p xs k v t.1 t.2;
    }
