-- `stream::free_or_same` meets its contract: products of two 16-bit numbers fit 32 bits, and equal ones have nothing held or the same.
-- Assumes nothing.
use Rattle.std.proofs.Common.{eqb-true}
use Rattle.stream.proofs.Runs.{free_or_same}
use Rattle.stream.proofs.free_or_same.Goals as goal

pub returns : goal.returns
returns c e = free_or_same _ _ (eqb-true _ _ e)
