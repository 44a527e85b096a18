-- `service::row_held` meets its contract. The loop's invariant: what was found so far, and the answer for the elements that are left, is the
-- answer for all. Assumes nothing.
use Rattle.std.proofs.Common.{◌≡◌, ◌-◌, ◌&&◌}
use Rattle.scheme.specs.Lists.{span, all_of}
use Rattle.service.specs.View.{row_held}
use Rattle.service.proofs.Complete.{held_at}
use Rattle.service.proofs.row_held.Given as goal

abbrev pub invariant-loop-place : goal.invariant-loop-place
invariant-loop-place l = (l.good && all_of (held_at l.held l.start) (span (l.each - l.place-index) l.place-index)) ≡ row_held l.held l.start l.each
