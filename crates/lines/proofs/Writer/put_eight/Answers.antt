-- `lines::Writer::put_eight` meets its contract: four digits and the last four.
use Rattle.lines.proofs.Lines.{wrote_spell}
use Rattle.lines.proofs.Writer.put_eight.Goals as goal

pub returns-clause-wrote : goal.returns-clause-wrote
returns-clause-wrote c = wrote_spell 4 4 _ c.put_four.ensures.wrote c.put_four-2.ensures.wrote
