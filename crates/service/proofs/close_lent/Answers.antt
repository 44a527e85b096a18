-- `service::close_lent` meets its contract: the tests that led to each return decide the definition's.
-- The complete set has no member above K, so the machine counts the ones that the definition counts. Assumes nothing.
use Rattle.std.proofs.Common.{◌≡◌, ◌<◌, ◌≤◌, length, sym, ◌∙◌, arith, rules, le-leb}
use borrow.Author.Tests.{lt-leb}
use Rattle.scheme.specs.Limits.{firsts}
use Rattle.scheme.specs.Scheme.{ones}
use Rattle.scheme.specs.Service.{gathered}
use Rattle.scheme.proofs.Good.{good}
use Rattle.scheme.proofs.Refusals.{then_taken, then_stops, unless_held, unless_failed, both_passed, test_refused}
use Rattle.plan.proofs.Numbers.{refused_ne0}
use Rattle.service.specs.View.{view}
use Rattle.service.specs.Calls.{lent, nothing_reply, close_refusal, closed}
use Rattle.service.proofs.Refused.{close_refused, close_taken, close_handed}
use Rattle.service.proofs.Complete.{whole, counted}
use Rattle.service.proofs.close_lent.Goals as goal

pub returns-in_err-check_gathering : goal.returns-in_err-check_gathering
unfolding close_refusal
returns-in_err-check_gathering c = close_handed _ _ c.from_residual.ensures.1 _ (then_stops c.in_err-check_gathering.ensures (refused_ne0 _) _)

pub returns-then-not-is_good : goal.returns-then-not-is_good
unfolding close_refusal
returns-then-not-is_good c =
    let bad = sym c.is_good.ensures ∙ c.if-not-is_good.true in
    close_refused _ (λ z. omega arith) (test_refused bad _ _ ∙ sym (then_taken (sym c.in_ok-check_gathering.ensures) _))

pub places_of-each-requires : goal.places_of-each-requires
places_of-each-requires c = good _ (sym c.is_good.ensures ∙ c.if-not-is_good.false)

pub complete_set-set-requires : goal.complete_set-set-requires
complete_set-set-requires c =
    let g = good _ (sym c.is_good.ensures ∙ c.if-not-is_good.false) in
    let n : length c.args.first.now ≡ firsts = search rules in
    (g.users_high, omega arith, c.places_of-each.ensures.1, omega arith)

pub returns-then-set-plan : goal.returns-then-set-plan
unfolding close_refusal
returns-then-set-plan c =
    let a = c.args in
    let s = lent a.head.now a.first.now a.reply.now in
    let right = sym c.is_good.ensures ∙ c.if-not-is_good.false in
    let n = counted s c.complete_set-set.ensures c.places_of-each.ensures.0 in
    let h : ones s.head.plan.users (gathered (view s)) < s.head.plan.threshold = omega (arith, n, c.if-set-plan.true) in
    close_refused s (λ z. omega arith) (sym (unless_failed (lt-leb _ _ h) 15) ∙ both_passed (sym c.in_ok-check_gathering.ensures) (unless_held right 15) _)

pub returns : goal.returns
unfolding close_refusal closed nothing_reply
returns c =
    let a = c.args in
    let s = lent a.head.now a.first.now a.reply.now in
    let right = sym c.is_good.ensures ∙ c.if-not-is_good.false in
    let n = counted s c.complete_set-set.ensures c.places_of-each.ensures.0 in
    let h : s.head.plan.threshold ≤ ones s.head.plan.users (gathered (view s)) = omega (arith, n, c.if-set-plan.false) in
    close_taken s (sym (unless_held (le-leb _ _ h) 15) ∙ both_passed (sym c.in_ok-check_gathering.ensures) (unless_held right 15) _)
    (whole s c.complete_set-set.ensures c.places_of-each.ensures.0)
