-- `lines::Writer::put_short` meets its contract: 16 bits are 5 digits at most.
use Rattle.std.proofs.Common.{arith}
use Rattle.lines.proofs.Decimals.{decimal_most}
use Rattle.lines.proofs.Writer.put_short.Goals as goal

pub returns-clause-short : goal.returns-clause-short
returns-clause-short c = omega (arith, decimal_most 5 c.args.n (omega arith) (omega arith))
