-- `lines::Writer::put_two` meets its contract: the tenth part and the last digit.
use Rattle.lines.proofs.Lines.{wrote_spell}
use Rattle.lines.proofs.Writer.put_two.Goals as goal

pub returns-clause-wrote : goal.returns-clause-wrote
returns-clause-wrote c = wrote_spell 1 1 _ c.put_one.ensures.wrote c.put_one-2.ensures.wrote
