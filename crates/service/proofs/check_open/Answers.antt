-- `service::check_open` meets its contract: the tests that led to each return decide the definition's.
-- Assumes nothing.
use Rattle.std.proofs.Common.{sym, lt-ltb, le-ltb}
use Rattle.std.proofs.lemmas.Result.{err_from_is_err_and}
use Rattle.scheme.specs.Scheme.{unless, ◌then◌}
use Rattle.scheme.proofs.Refusals.{then_stops}
use Rattle.plan.proofs.Numbers.{refused_ne0}
use Rattle.service.specs.Calls.{open_refusal}
use Rattle.service.proofs.check_open.Goals as goal

pub returns-in_err-check_planned : goal.returns-in_err-check_planned
unfolding open_refusal
returns-in_err-check_planned c =
    let p = err_from_is_err_and c.from_residual.result c.from_residual.ensures.1 in
    rw (p.1, p.2) (then_stops c.in_err-check_planned.ensures (refused_ne0 _) _)

pub returns-then-round-head : goal.returns-then-round-head
unfolding open_refusal unless ◌then◌
returns-then-round-head c = simp (sym c.in_ok-check_planned.ensures, le-ltb _ _ c.if-round-head.true)

pub returns : goal.returns
unfolding open_refusal unless ◌then◌
returns c = simp (sym c.in_ok-check_planned.ensures, lt-ltb _ _ c.if-round-head.false)
