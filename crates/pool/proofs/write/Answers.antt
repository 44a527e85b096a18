-- `pool::write` meets its contract: each write goes on where the one before ended.
use Rattle.std.proofs.Common.{refl, arith}
use Rattle.std.proofs.lemmas.Result.{err_from_is_err_and}
use Rattle.pool.specs.Pool.{unwritten}
use Rattle.pool.proofs.Running.{writes_from_inside, written_more, failed_write}
use Rattle.pool.proofs.Carrying.{written_bytes}
use Rattle.std.proofs.KnownBytes.{Appends-nil}
use Rattle.pool.proofs.write.Goals as goal

pub loop-init : goal.loop-init
loop-init g c = record { inside = omega arith; written = unwritten; bytes = Appends-nil _ }

pub returns-in_err-at-clause-result : goal.returns-in_err-at-clause-result
returns-in_err-at-clause-result g c =
    let p = err_from_is_err_and c.from_residual.result c.from_residual.ensures.1 in
    rw (p.1, p.2) (failed_write c.loop.invariant.written c.in_err-at.ensures.result (omega arith))

pub loop-preserved : goal.loop-preserved
loop-preserved g c =
    let i = c.loop.invariant in let w = c.in_ok-at.ensures in let h = writes_from_inside w.result in record {
      inside = h.1;
      written = written_more i.written w.result refl;
      bytes = written_bytes _ _ _ _ _ c.args.text.now h.0 i.bytes w.bytes;
    }
