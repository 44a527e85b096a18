-- `pool::turn` meets its contract: a read, its step, and how far its text was written.
use Rattle.std.proofs.Common.{arith}
use Rattle.pool.proofs.Leaving.{fills_inside}
use Rattle.pool.proofs.Running.{turned, turn_moved}
use Rattle.pool.proofs.turn.Goals as goal

pub step-requires : goal.step-requires
step-requires g c =
    let f = c.ask-read.ensures.fills.0 in
    record { have = omega arith; line = omega arith; inside = λ n e. let i = fills_inside _ _ _ _ f n e in (i.0, omega (arith, i.1)) }

pub returns-clause-turned : goal.returns-clause-turned
returns-clause-turned g c = turned c.ask-read.ensures.fills c.step.ensures c.write-put.ensures.result c.sent.ensures

pub returns-clause-bytes : goal.returns-clause-bytes
returns-clause-bytes g c =
    turn_moved c.ask-read.ensures.fills c.step.ensures c.write-put.ensures.result c.sent.ensures c.ask-read.ensures.bytes c.write-put.ensures.bytes
