-- `pool::write`: each write goes on where the one before ended, within the text.
use Rattle.std.proofs.Common.{◌≤◌, length, take}
use Rattle.std.specs.Io.KnownBytes.{Appends}
use Rattle.pool.specs.Pool.{Written}
use Rattle.pool.proofs.write.Given as goal

abbrev pub invariant-loop : goal.invariant-loop
invariant-loop g l = record {
  inside : l.at ≤ length l.text;
  written : Written (length l.text) l.counter l.at;
  bytes : Appends (g.W.Write.contents l.fn.output) (g.W.Write.contents l.output) (take l.at l.text);
}
