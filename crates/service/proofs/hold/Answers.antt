-- `service::hold` meets its contract: the element is taken where it is what is left. Assumes nothing.
use Rattle.std.proofs.Common.{sym}
use Rattle.scheme.proofs.Refusals.{unless_held, unless_failed}
use Rattle.service.proofs.View.{left_taken, left_refused}
use Rattle.service.proofs.hold.Goals as goal

pub returns-then-left-new-clause-number : goal.returns-then-left-new-clause-number
returns-then-left-new-clause-number c = sym (unless_failed (left_refused _ _ (λ e. c.if-left-new.true (cc (c.left_in-left.ensures, c.held_as-new.ensures, e)))) 13)

pub returns-clause-number : goal.returns-clause-number
returns-clause-number c = sym (unless_held (left_taken _ _ (cc (c.left_in-left.ensures, c.held_as-new.ensures, c.if-left-new.false))) 13)
