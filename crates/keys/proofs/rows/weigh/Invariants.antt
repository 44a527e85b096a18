-- `keys::rows::weigh` meets its contract: one number a turn (Weighed.unreduced_more).
use Rattle.std.proofs.Common.{◌+◌, ◌*◌, get_or}
use Rattle.scheme.specs.Scheme.{q}
use Rattle.scheme.specs.Weighed.{Unreduced}
use Rattle.element.specs.Word.{most_product}
use Rattle.keys.proofs.rows.weigh.Given as goal

abbrev pub invariant-loop-i : goal.invariant-loop-i
invariant-loop-i l = Unreduced q most_product (λ j. get_or l.row j 0 * get_or l.list (l.from + j) 0) 0 l.i l.sum
