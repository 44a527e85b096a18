-- `stream::run_first` meets its contract: each turn takes one record more in silence.
-- Assumes nothing.
use Rattle.std.proofs.Common.{List, ℕ, ◌+◌, refl, arith}
use Rattle.service.specs.Calls.{lent}
use Rattle.stream.specs.Stream.{SilentRun, stays, goes_on}
use Rattle.stream.proofs.Runs.{row_of, tagged, first_silent}
use Rattle.stream.proofs.run_first.Goals as goal
use Rattle.stream.proofs.run_first.Goals.{Else-not-hold_in}

pub returns-then-row_start-limit-gt-FIRSTS : goal.returns-then-row_start-limit-gt-FIRSTS
returns-then-row_start-limit-gt-FIRSTS c reply = stays _ _

pub loop-at-init : goal.loop-at-init
loop-at-init c = (omega arith, λ reply. stays _ _)

pub loop-head-init : goal.loop-head-init
loop-head-init c = (omega arith, omega arith, tagged _ (c.two_at-tag.ensures.1, c.two_at-tag.ensures.2) refl, c.loop-at.invariant.1)

-- the record of this turn is taken
taken : (c : Else-not-hold_in) (reply : List ℕ)
    → SilentRun c.args.b.now c.args.start (c.loop-head.at + 6) (lent c.args.head c.args.first.now reply) (lent c.args.head c.hold_in.new.held reply)
taken c reply =
    let i = c.loop-head.invariant in
    let row = row_of c.in-Some.ensures c.row_start-row.ensures in
    goes_on _ _ _ _ _ _ (i.3 reply)
    (first_silent c.requires.1 (omega (arith, c.row_start.ensures)) row i.2 i.0 c.two_at-place.ensures.0 c.two_at.ensures.0
    (c.hold_in.ensures.taken c.if-not-hold_in.false) reply)

pub loop-head-preserved : goal.loop-head-preserved
loop-head-preserved c =
    let read = c.two_at-else-b-at-lt6.ensures in
    (omega arith, omega arith, tagged _ (read.1, read.2) c.if-two_at-tag.false, taken (goal.at.loop-head-preserved c).Else-not-hold_in)

pub loop-at-preserved : goal.loop-at-preserved
loop-at-preserved c = (omega arith, taken (goal.at.loop-at-preserved c).Else-not-hold_in)
