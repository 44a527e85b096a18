-- `lines::Writer::put_number` meets its contract: the space, then the digits.
use Rattle.std.proofs.Common.{arith}
use Rattle.lines.proofs.Decimals.{decimal_twenty}
use Rattle.lines.proofs.Writer.put_number.Goals as goal

pub returns-clause-short : goal.returns-clause-short
returns-clause-short c = omega (arith, decimal_twenty c.args.n)
