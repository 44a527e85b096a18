-- `pool::run`: so many turns are made.
use Rattle.std.proofs.Common.{◌≡◌, length}
use Rattle.pool.proofs.Running.{MadeMoved}
use Rattle.pool.proofs.run.Given as goal

abbrev pub invariant-loop : goal.invariant-loop
invariant-loop g l = record {
  made : MadeMoved (length l.fn.out) l.counter l.live l.buf
      (g.R.Read.remaining l.fn.input) (g.R.Read.remaining l.input) (g.W.Write.contents l.fn.output) (g.W.Write.contents l.output);
  buffer : length l.buf ≡ length l.fn.buf;
  room : length l.out ≡ length l.fn.out;
}
