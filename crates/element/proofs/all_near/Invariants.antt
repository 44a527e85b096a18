-- `element::all_near` meets its contract. The loop's invariant: what was tested, and the answer for what is left, are the answer
-- for the whole list. Assumes nothing.
use Rattle.std.proofs.Common.{◌≡◌, ◌&&◌, eqb, drop}
use Rattle.scheme.specs.Scheme.{sixteen, near}
use Rattle.element.proofs.all_near.Given as goal

abbrev pub invariant-loop-element : goal.invariant-loop-element
invariant-loop-element l = (eqb l.beyond 0 && near sixteen l.most (drop l.element-index l.list)) ≡ near sixteen l.most l.list
