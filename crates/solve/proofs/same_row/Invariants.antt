-- `solve::same_row` meets its contract. The loop's invariant: what was found so far, and the answer for the blocks that are left, is the
-- answer for all. Assumes nothing.
use Rattle.std.proofs.Common.{◌≡◌, Bool, ◌&&◌, List, ℕ, ◌-◌, eqb, get_or, length}
use Rattle.scheme.specs.Lists.{span, all_of}
use Rattle.solve.proofs.same_row.Given as goal

-- whether two numbers are the same
abbrev pub passes : (row values : List ℕ) → (b : ℕ) → Bool
passes r vs b = eqb (get_or r b 0) (get_or vs b 0)

abbrev pub invariant-loop-b : goal.invariant-loop-b
invariant-loop-b l = (l.good && all_of (passes l.row l.values) (span (length l.row - l.b) l.b)) ≡ all_of (passes l.row l.values) (span (length l.row) 0)
