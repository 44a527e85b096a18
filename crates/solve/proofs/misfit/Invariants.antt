-- `solve::misfit` meets its contract. The loop's invariant: the rows so far fit. Assumes nothing.
use Rattle.std.proofs.Common.{◌≡◌, true, ℕ, ◌≤◌, ◌<◌}
use Rattle.scheme.specs.Scheme.{sixteen}
use Rattle.scheme.specs.Solve.{row_fits}
use Rattle.solve.proofs.misfit.Given as goal

abbrev pub invariant-loop-a : goal.invariant-loop-a
invariant-loop-a l = (c : ℕ) → l.from ≤ c → c < l.a → row_fits sixteen l.rows l.columns l.values l.unknowns l.n l.blocks c ≡ true
