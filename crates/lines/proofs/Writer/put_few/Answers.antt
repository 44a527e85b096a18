-- `lines::Writer::put_few` meets its contract: how large the number is says how many digits it has.
use Rattle.std.proofs.Common.{arith}
use Rattle.lines.proofs.Decimals.{decimal_one, decimal_whole}
use Rattle.lines.proofs.Lines.{wrote_as, wrote_spell}
use Rattle.lines.proofs.Writer.put_few.Goals as goal

pub returns-then-n-lt10-clause-wrote : goal.returns-then-n-lt10-clause-wrote
returns-then-n-lt10-clause-wrote c = wrote_as c.put_one.ensures.wrote (decimal_one c.args.n (omega arith))

pub returns-then-n-lt100-clause-wrote : goal.returns-then-n-lt100-clause-wrote
returns-then-n-lt100-clause-wrote c =
    let n = c.args.n in
    wrote_as c.put_two.ensures.wrote (decimal_whole 1 n (omega arith) (omega arith) (omega arith))

pub returns-then-n-lt1000-clause-wrote : goal.returns-then-n-lt1000-clause-wrote
returns-then-n-lt1000-clause-wrote c =
    let n = c.args.n in
    let p = wrote_spell 1 2 n c.put_one-then-n-lt1000.ensures.wrote c.put_two-then-n-lt1000.ensures.wrote in
    wrote_as p (decimal_whole 2 n (omega arith) (omega arith) (omega arith))

pub returns-clause-wrote : goal.returns-clause-wrote
returns-clause-wrote c =
    let n = c.args.n in
    wrote_as c.put_four.ensures.wrote (decimal_whole 3 n (omega arith) (omega arith) (omega arith))
