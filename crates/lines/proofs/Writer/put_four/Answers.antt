-- `lines::Writer::put_four` meets its contract: the hundredth part and the last two digits.
use Rattle.lines.proofs.Lines.{wrote_spell}
use Rattle.lines.proofs.Writer.put_four.Goals as goal

pub returns-clause-wrote : goal.returns-clause-wrote
returns-clause-wrote c = wrote_spell 2 2 _ c.put_two.ensures.wrote c.put_two-2.ensures.wrote
