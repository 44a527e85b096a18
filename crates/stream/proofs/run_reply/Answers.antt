-- `stream::run_reply` meets its contract: each turn takes one record more in silence.
-- Assumes nothing.
use Rattle.std.proofs.Common.{List, ℕ, ◌+◌, refl, sym, ap, ◌∙◌, arith}
use Rattle.scheme.specs.Scheme.{in_set}
use Rattle.service.specs.Calls.{lent}
use Rattle.stream.specs.Stream.{SilentRun, stays, goes_on}
use Rattle.stream.proofs.Runs.{row_of, tagged, reply_silent}
use Rattle.stream.proofs.run_reply.Goals as goal
use Rattle.stream.proofs.run_reply.Goals.{Else-not-hold_in}

pub returns-then-row_start-limit-gt-CELLS : goal.returns-then-row_start-limit-gt-CELLS
returns-then-row_start-limit-gt-CELLS c first = stays _ _

pub loop-at-init : goal.loop-at-init
loop-at-init c = (omega arith, λ first. stays _ _)

pub loop-head-init : goal.loop-head-init
loop-head-init c = (omega arith, omega arith, tagged _ (c.two_at-tag.ensures.1, c.two_at-tag.ensures.2) refl, c.loop-at.invariant.1)

-- the record of this turn is taken
taken : (c : Else-not-hold_in) (first : List ℕ)
    → SilentRun c.args.b.now c.args.start (c.loop-head.at + 5) (lent c.args.head first c.args.reply.now) (lent c.args.head first c.hold_in.new.held)
taken c first =
    let i = c.loop-head.invariant in
    let row = row_of c.in-Some.ensures c.row_start-row.ensures in
    let member = ap (in_set c.args.head.survivors) c.in-Some.ensures.1 ∙ sym c.holds.ensures ∙ c.if-not-holds.false in
    goes_on _ _ _ _ _ _ (i.3 first)
    (reply_silent c.requires.1 (omega (arith, c.row_start.ensures)) row member i.2 i.0 c.byte_at-block.ensures c.two_at.ensures.0
    (c.hold_in.ensures.taken c.if-not-hold_in.false) first)

pub loop-head-preserved : goal.loop-head-preserved
loop-head-preserved c =
    let read = c.two_at-else-b-at-lt5.ensures in
    (omega arith, omega arith, tagged _ (read.1, read.2) c.if-two_at-tag.false, taken (goal.at.loop-head-preserved c).Else-not-hold_in)

pub loop-at-preserved : goal.loop-at-preserved
loop-at-preserved c = (omega arith, taken (goal.at.loop-at-preserved c).Else-not-hold_in)
