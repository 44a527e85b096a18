-- `stream::run_first` meets its contract: each turn takes one record more in silence.
-- Assumes nothing.
use Rattle.std.proofs.Common.{List, ℕ, ◌+◌, ◌-◌, ◌≤◌, length}
use Rattle.service.specs.Calls.{lent}
use Rattle.stream.specs.Stream.{SilentRun}
use Rattle.stream.proofs.Runs.{Tagged}
use Rattle.stream.proofs.run_first.Given as goal

abbrev pub invariant-loop-at : goal.invariant-loop-at
invariant-loop-at l = (l.at ≤ length l.b) × ((reply : List ℕ) → SilentRun l.b l.start l.at (lent l.head l.fn.first reply) (lent l.head l.first reply))

abbrev pub decreases-loop-at : goal.decreases-loop-at
decreases-loop-at l = length l.b - l.at

-- the records of one user
abbrev pub invariant-loop-head : goal.invariant-loop-head
invariant-loop-head l = (l.at + 6 ≤ length l.b) × (l.initial.at ≤ l.at) × Tagged l.b l.at l.tag × ((reply : List ℕ) → SilentRun l.b l.start l.at (lent l.head l.fn.first reply) (lent l.head l.first reply))

abbrev pub decreases-loop-head : goal.decreases-loop-head
decreases-loop-head l = length l.b - l.at
