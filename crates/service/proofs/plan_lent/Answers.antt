-- `service::plan_lent` meets its contract: the tests that led to each return decide the definition's.
-- Assumes nothing.
use Rattle.std.proofs.Common.{sym, ◌∙◌, arith}
use Rattle.scheme.proofs.Good.{good}
use Rattle.scheme.proofs.Refusals.{then_taken, then_stops, unless_held, unless_failed}
use Rattle.plan.proofs.Numbers.{refused_ne0}
use Rattle.service.specs.Calls.{plan_step, plan_refusal, planned}
use Rattle.service.proofs.Refused.{step_refused, step_taken, step_handed}
use Rattle.service.proofs.plan_lent.Goals as goal

pub returns-in_err-check_unplanned : goal.returns-in_err-check_unplanned
unfolding plan_step plan_refusal
returns-in_err-check_unplanned c = step_handed _ _ c.from_residual.ensures.1 (then_stops c.in_err-check_unplanned.ensures (refused_ne0 _) _) _ _

pub returns-then-not-is_good : goal.returns-then-not-is_good
unfolding plan_step plan_refusal
returns-then-not-is_good c =
    let none_yet = sym c.in_ok-check_unplanned.ensures in
    let bad = sym c.is_good.ensures ∙ c.if-not-is_good.true in
    step_refused (λ z. omega arith) (sym (then_taken none_yet _ ∙ unless_failed bad 1)) _ _

pub places_of-requires : goal.places_of-requires
places_of-requires c = good _ (sym c.is_good.ensures ∙ c.if-not-is_good.false)

pub returns : goal.returns
unfolding plan_step plan_refusal planned
returns c =
    let none_yet = sym c.in_ok-check_unplanned.ensures in
    let right = sym c.is_good.ensures ∙ c.if-not-is_good.false in
    step_taken (sym (then_taken none_yet _ ∙ unless_held right 1)) (simp (c.places_of.ensures.0, c.clear.ensures.0, c.clear.ensures.1)) _
