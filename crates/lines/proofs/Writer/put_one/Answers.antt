-- `lines::Writer::put_one` meets its contract: one digit is its own last digit.
use Rattle.std.proofs.Common.{◌≡◌, ◌%◌, refl, rules, arith}
use Rattle.lines.specs.Text.{spell}
use Rattle.lines.proofs.Writer.put_one.Goals as goal

pub returns-clause-wrote : goal.returns-clause-wrote
unfolding spell
returns-clause-wrote c =
    let e : c.args.n % 10 ≡ c.args.n = omega arith in
    record { same = refl; long = search rules; put = record { place = refl; bytes = rw e } }
