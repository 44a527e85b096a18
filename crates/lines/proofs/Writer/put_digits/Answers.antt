-- `lines::Writer::put_digits` meets its contract: the high part, and then eight digits once or twice.
use Rattle.std.proofs.Common.{◌/◌, arith}
use Rattle.lines.proofs.Lines.{wrote_decimal}
use Rattle.lines.proofs.Writer.put_digits.Goals as goal

pub returns-then-high-lt-EIGHT_DIGITS : goal.returns-then-high-lt-EIGHT_DIGITS
returns-then-high-lt-EIGHT_DIGITS c =
    let n = c.args.n in
    wrote_decimal 8 n (omega arith) (omega arith) c.put_low-then-high-lt-EIGHT_DIGITS.ensures.wrote c.put_eight.ensures.wrote

pub returns : goal.returns
returns c =
    let n = c.args.n in
    let front = wrote_decimal 8 (n / 100000000) (omega arith) (omega arith) c.put_few.ensures.wrote c.put_eight-2.ensures.wrote in
    wrote_decimal 8 n (omega arith) (omega arith) front c.put_eight-3.ensures.wrote
