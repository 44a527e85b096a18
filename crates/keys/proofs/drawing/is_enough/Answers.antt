-- `keys::drawing::is_enough` meets its contract: what is missing, with the elements that the bytes hold, is what is wanted and the elements from there on.
use Rattle.std.proofs.Common.{sym, arith}
use Rattle.scheme.specs.Scheme.{sixteen}
use Rattle.scheme.proofs.Drawing.Reading.{fills_right, fills_wrong}
use Rattle.keys.proofs.drawing.is_enough.Goals as goal

pub returns-then-left-missing : goal.returns-then-left-missing
returns-then-left-missing c = let l = c.loop-missing in sym (fills_wrong sixteen _ _ l.at _ l.invariant.3 l.left c.if-left-missing.true (omega arith))

pub returns : goal.returns
returns c = let l = c.loop-missing in sym (fills_right sixteen _ _ l.at _ l.invariant.3 (omega arith))
