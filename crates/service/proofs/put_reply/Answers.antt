-- `service::put_reply` meets its contract: the tests that led to each return decide the definition's.
-- Assumes nothing.
use Rattle.std.proofs.Common.{◌≡◌, ℕ, ◌+◌, sym, ap, ◌∙◌, arith}
use Rattle.scheme.specs.Scheme.{sixteen}
use Rattle.scheme.proofs.Refusals.{then_taken, then_stops, both_passed, test_passed, test_refused}
use Rattle.scheme.proofs.Pooling.Well.{fits}
use Rattle.plan.proofs.Numbers.{refused_ne0}
use Rattle.service.specs.Calls.{reply_refusal, reply_left}
use Rattle.service.proofs.Refused.{beyond, within, array_refused, array_held, array_handed}
use Rattle.service.proofs.put_reply.Goals as goal

pub returns-in_err-check_replying : goal.returns-in_err-check_replying
unfolding reply_refusal reply_left
returns-in_err-check_replying c =
    let p = array_handed _ _ c.from_residual.ensures.1 (then_stops c.in_err-check_replying.ensures (refused_ne0 _) _) _ _ in
    record { number = p.0; left = p.1 }

pub returns-in_err-check_element : goal.returns-in_err-check_element
unfolding reply_refusal reply_left
returns-in_err-check_element c =
    let p = array_handed _ _ c.from_residual-in_err-check_element.ensures.1 (then_stops c.in_err-check_element.ensures (refused_ne0 _) _ ∙ sym (then_taken (sym c.in_ok-check_replying.ensures) _)) _ _ in
    record { number = p.0; left = p.1 }

pub row_start-requires : goal.row_start-requires
row_start-requires c = ((fits sixteen _ _ _ _ _ (sym c.in_ok-check_element.ensures)).low, omega arith)

pub returns-then-at-ge-CELLS : goal.returns-then-at-ge-CELLS
unfolding reply_refusal reply_left
returns-then-at-ge-CELLS c =
    let found = ap (λ (n : ℕ). n + c.args.block) c.row_start.ensures in
    let p = array_refused (λ (z : 8 ≡ 0). omega arith) (test_refused (beyond found c.if-at-ge-CELLS.true) _ _
    ∙ both_passed (sym c.in_ok-check_replying.ensures) (sym c.in_ok-check_element.ensures) _) _ _ in
    record { number = p.0; left = p.1 }

pub holds-requires : goal.holds-requires
holds-requires c = let h = (fits sixteen _ _ _ _ _ (sym c.in_ok-check_element.ensures)).low in (h, omega arith)

pub returns-then-not-holds : goal.returns-then-not-holds
unfolding reply_refusal reply_left
returns-then-not-holds c =
    let found = ap (λ (n : ℕ). n + c.args.block) c.row_start.ensures in
    let p = array_refused (λ (z : 14 ≡ 0). omega arith) (test_refused (sym c.holds.ensures ∙ c.if-not-holds.true) _ _
    ∙ test_passed (within found c.if-at-ge-CELLS.false) 8 _ ∙ both_passed (sym c.in_ok-check_replying.ensures) (sym c.in_ok-check_element.ensures) _) _ _ in
    record { number = p.0; left = p.1 }

pub overflow_cast-element : goal.overflow_cast-element
overflow_cast-element c = omega (arith, (fits sixteen _ _ _ _ _ (sym c.in_ok-check_element.ensures)).small)

pub hold-requires : goal.hold-requires
hold-requires c = (fits sixteen _ _ _ _ _ (sym c.in_ok-check_element.ensures)).small

pub returns : goal.returns
unfolding reply_refusal reply_left
returns c =
    let found = ap (λ (n : ℕ). n + c.args.block) c.row_start.ensures in
    let passed = test_passed (sym c.holds.ensures ∙ c.if-not-holds.false) 14 _ ∙ test_passed (within found c.if-at-ge-CELLS.false) 8 _ ∙ both_passed (sym c.in_ok-check_replying.ensures) (sym c.in_ok-check_element.ensures) _ in
    let p = array_held found c.args.reply.now c.args.element passed c.hold.ensures.number c.hold.ensures.left in
    record { number = p.0; left = p.1 }
