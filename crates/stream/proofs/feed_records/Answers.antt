-- `stream::feed_records` meets its contract: at each turn what fed answers from here on is its answer, and the lines of the bytes used are written.
-- Assumes nothing.
use Rattle.std.proofs.Common.{arith}
use Rattle.stream.proofs.Feeding.{kinded, tested, stop_used, stop_unknown, stop_partial, stop_full, going_start, going_end, going_takes, takes_onward}
use Rattle.stream.proofs.feed_records.Goals as goal

pub loop-at-init : goal.loop-at-init
loop-at-init c = going_start _ _ _ _ (omega arith)

-- ---- a turn that stops
pub returns-in_default-clause-result : goal.returns-in_default-clause-result
returns-in_default-clause-result c =
    rw (stop_unknown _ _ c.loop-at-test.true c.in_default.ensures) (going_end c.loop-at.invariant (λ r. r.known c.in_default.ensures))

pub returns-then-b-at-clause-result : goal.returns-then-b-at-clause-result
returns-then-b-at-clause-result c =
    let kind = kinded c.loop-at.at _ c.in-Some.ensures c.length-n.ensures in
    rw (stop_partial kind c.loop-at-test.true c.if-b-at.true)
    (going_end c.loop-at.invariant (λ r. omega (arith, r.whole.whole, kind.long)))

pub returns-then-out-wrote-lt-LINE-clause-result : goal.returns-then-out-wrote-lt-LINE-clause-result
returns-then-out-wrote-lt-LINE-clause-result c =
    let kind = kinded c.loop-at.at _ c.in-Some.ensures c.length-n.ensures in
    rw (stop_full kind c.loop-at-test.true c.if-b-at.false) (going_end c.loop-at.invariant (λ r. omega (arith, r.fits)))

-- ---- a turn that takes a record
pub loop-at-smaller : goal.loop-at-smaller
loop-at-smaller c =
    let kind = kinded c.loop-at.at _ c.in-Some.ensures c.length-n.ensures in
    let r = tested kind c.loop-at-test.true c.if-b-at.false c.if-out-wrote-lt-LINE.false in
    omega (arith, takes_onward r.known c.take_record-reached.ensures, r.whole.inside)

pub loop-at-preserved : goal.loop-at-preserved
loop-at-preserved c =
    let kind = kinded c.loop-at.at _ c.in-Some.ensures c.length-n.ensures in
    let r = tested kind c.loop-at-test.true c.if-b-at.false c.if-out-wrote-lt-LINE.false in
    going_takes c.loop-at.invariant r c.take_record-reached.ensures

-- ---- the chunk's end
pub returns-clause-result : goal.returns-clause-result
returns-clause-result c =
    rw (stop_used _ _ c.loop-at-test.false) (going_end c.loop-at.invariant (λ r. omega (arith, r.whole.inside)))
