-- `rounds::calls::meaning::check_total` meets its contract: what its calls answer, put together.
use Rattle.std.proofs.Common.{w32, SFits, rules}
use Rattle.rounds.proofs.Values.{total_told}
use Rattle.rounds.proofs.calls.meaning.check_total.Goals as goal

pub returns : goal.returns
returns c =
    let value_fits : SFits w32 c.unwrap_or.result = search rules in
    let fits : SFits w32 c.value_of-expected.result = search rules in
    total_told c.args.case.now c.args.line.now c.number_at-5.ensures.0 c.read_total-read.result
    (cc (c.read_total-read.ensures, c.number_at-2.ensures.0, c.from-usage.ensures, c.number_at.ensures.0))
    (cc (c.value_of-expected.ensures, c.number_at-3.ensures.0, c.number_at-4.ensures.0))
    c.number_of.ensures c.unwrap_or.ensures value_fits fits c.judge_second.ensures
