-- `lines::Writer::put_totals` meets its contract: what is written so far is the numbers so far, each within its room.
use Rattle.std.proofs.Common.{sym, arith}
use Rattle.lines.specs.Text.{numbers}
use Rattle.lines.proofs.Lines.{wrote_none, wrote_append, wrote_as, numbers_more}
use Rattle.lines.proofs.Writer.put_totals.Goals as goal

pub loop-total-init : goal.loop-total-init
unfolding numbers
loop-total-init c = (omega arith, wrote_none _)

pub loop-total-preserved : goal.loop-total-preserved
loop-total-preserved c =
    let i = c.loop-total.total-index in
    (omega arith, wrote_as (wrote_append c.loop-total.invariant.1 c.put_short.ensures.wrote) (sym (numbers_more c.args.totals.now i c.loop-total-test.true)))
