-- `lines::Writer::put_low` meets its contract: the high part and the last four digits.
use Rattle.std.proofs.Common.{arith}
use Rattle.lines.proofs.Lines.{wrote_decimal}
use Rattle.lines.proofs.Writer.put_low.Goals as goal

pub returns-clause-wrote : goal.returns-clause-wrote
returns-clause-wrote c =
    let n = c.args.n in
    wrote_decimal 4 n (omega arith) (omega arith) c.put_few-2.ensures.wrote c.put_four.ensures.wrote
