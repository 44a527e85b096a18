-- `pool::ask` meets its contract: a read is made only where one is due.
use Rattle.pool.specs.Turns.{came_bytes}
use Rattle.pool.specs.Pool.{brought}
use Rattle.pool.proofs.Leaving.{asked, asked_due}
use Rattle.std.proofs.KnownBytes.{Consumes-nil}
use Rattle.pool.proofs.ask.Goals as goal

pub returns-in-Await-clause-fills : goal.returns-in-Await-clause-fills
returns-in-Await-clause-fills g c = (c.fill.ensures.fills, asked_due c.args.next c.fill.result c.args.buf.now c.fill.new.buf c.in-Await.is)

pub returns-in-Feed-clause-fills : goal.returns-in-Feed-clause-fills
returns-in-Feed-clause-fills g c = asked c.args.next c.requires.0 c.in-Feed.is

pub returns-in-Feed-clause-bytes : goal.returns-in-Feed-clause-bytes
unfolding brought came_bytes
returns-in-Feed-clause-bytes g c = Consumes-nil _
