-- `element::all_within` meets its contract. The loop's invariant: what was tested, and the answer for what is left, are the answer
-- for the whole list. Assumes nothing.
use Rattle.std.proofs.Common.{◌≡◌, ◌&&◌, eqb, drop}
use Rattle.scheme.specs.Scheme.{within}
use Rattle.element.proofs.all_within.Given as goal

abbrev pub invariant-loop-x : goal.invariant-loop-x
invariant-loop-x l = (eqb l.beyond 0 && within l.most (drop l.x-index l.list)) ≡ within l.most l.list
