-- `service::put_first` meets its contract: the tests that led to each return decide the definition's.
-- Assumes nothing.
use Rattle.std.proofs.Common.{◌≡◌, ℕ, ◌+◌, sym, ap, ◌∙◌, arith}
use Rattle.scheme.specs.Scheme.{sixteen}
use Rattle.scheme.proofs.Refusals.{then_taken, then_stops, both_passed, test_passed, test_refused}
use Rattle.scheme.proofs.Pooling.Well.{fits}
use Rattle.plan.proofs.Numbers.{refused_ne0}
use Rattle.service.specs.Calls.{first_refusal, first_left}
use Rattle.service.proofs.Refused.{beyond, within, array_refused, array_held, array_handed}
use Rattle.service.proofs.put_first.Goals as goal

pub returns-in_err-check_gathering : goal.returns-in_err-check_gathering
unfolding first_refusal first_left
returns-in_err-check_gathering c =
    let p = array_handed _ _ c.from_residual.ensures.1 (then_stops c.in_err-check_gathering.ensures (refused_ne0 _) _) _ _ in
    record { number = p.0; left = p.1 }

pub returns-in_err-check_element : goal.returns-in_err-check_element
unfolding first_refusal first_left
returns-in_err-check_element c =
    let p = array_handed _ _ c.from_residual-in_err-check_element.ensures.1 (then_stops c.in_err-check_element.ensures (refused_ne0 _) _ ∙ sym (then_taken (sym c.in_ok-check_gathering.ensures) _)) _ _ in
    record { number = p.0; left = p.1 }

pub row_start-requires : goal.row_start-requires
row_start-requires c = ((fits sixteen _ _ _ _ _ (sym c.in_ok-check_element.ensures)).low, omega arith)

pub returns-then-at-ge-FIRSTS : goal.returns-then-at-ge-FIRSTS
unfolding first_refusal first_left
returns-then-at-ge-FIRSTS c =
    let found = ap (λ (n : ℕ). n + c.args.place) c.row_start.ensures in
    let p = array_refused (λ (z : 8 ≡ 0). omega arith) (test_refused (beyond found c.if-at-ge-FIRSTS.true) _ _
    ∙ both_passed (sym c.in_ok-check_gathering.ensures) (sym c.in_ok-check_element.ensures) _) _ _ in
    record { number = p.0; left = p.1 }

pub overflow_cast-element : goal.overflow_cast-element
overflow_cast-element c = omega (arith, (fits sixteen _ _ _ _ _ (sym c.in_ok-check_element.ensures)).small)

pub hold-requires : goal.hold-requires
hold-requires c = (fits sixteen _ _ _ _ _ (sym c.in_ok-check_element.ensures)).small

pub returns : goal.returns
unfolding first_refusal first_left
returns c =
    let found = ap (λ (n : ℕ). n + c.args.place) c.row_start.ensures in
    let passed = test_passed (within found c.if-at-ge-FIRSTS.false) 8 _ ∙ both_passed (sym c.in_ok-check_gathering.ensures) (sym c.in_ok-check_element.ensures) _ in
    let p = array_held found c.args.first.now c.args.element passed c.hold.ensures.number c.hold.ensures.left in
    record { number = p.0; left = p.1 }
