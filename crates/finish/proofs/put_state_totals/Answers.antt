-- `finish::put_state_totals` meets its contract: the tests that led to each return decide the definition's.
-- The complete set has no member above K, so the machine counts the ones that the definition counts. Assumes nothing.
use Rattle.std.proofs.Common.{◌≡◌, sym, ap, ◌∙◌, subst, ◌≤◌, ℕ, ◌^◌, ◌<◌, arith, length, rules}
use lib.Count as machine
use borrow.Author.Tests.{lt-leb}
use Rattle.scheme.specs.Limits.{cells}
use Rattle.scheme.specs.Scheme.{sixteen, ones}
use Rattle.scheme.specs.Service.{replied}
use Rattle.scheme.proofs.Good.{good}
use Rattle.scheme.proofs.Pooling.Held.{complete_below}
use Rattle.scheme.proofs.Refusals.{then_taken, then_stops, unless_held, both_passed, test_refused}
use Rattle.plan.proofs.Laws.{ones_same}
use Rattle.solve.specs.Solve.{laws16}
use Rattle.service.specs.declared.Service.{Service}
use Rattle.service.specs.Calls.{lent}
use Rattle.service.specs.View.{view}
use Rattle.std.proofs.lemmas.Result.{err_from_is_err_and}
use Rattle.plan.specs.declared.refusal.Refusal.TheVariants.{TooFew}
use Rattle.plan.proofs.Numbers.{refused_ne0}
use Rattle.finish.specs.Finish.{finish_refusal}
use Rattle.finish.proofs.Answers.{refused_right, Passed, totalled_right}
use Rattle.finish.proofs.put_state_totals.Goals as goal

-- how many replied, as the code counts them
counted : (s : Service) (set : ℕ) → set ≡ replied (view s) → machine.ones set ≡ ones s.head.plan.users (replied (view s))
unfolding replied view
counted s set e =
    ones_same _ _ (subst (λ (v : ℕ). v < 2 ^ s.head.plan.users) (sym e) (complete_below _ _ _)) ∙ ap (ones s.head.plan.users) e

pub returns-in_err-check_replying-clause-answered : goal.returns-in_err-check_replying-clause-answered
unfolding finish_refusal
returns-in_err-check_replying-clause-answered c =
    let p = err_from_is_err_and c.from_residual.result c.from_residual.ensures.1 in
    rw (p.1, p.2) (refused_right sixteen laws16 _ _ (then_stops c.in_err-check_replying.ensures (refused_ne0 _) _) c.requires)

pub returns-then-not-is_good-clause-answered : goal.returns-then-not-is_good-clause-answered
unfolding finish_refusal
returns-then-not-is_good-clause-answered c =
    let bad = sym c.is_good.ensures ∙ c.if-not-is_good.true in
    let phase_right = sym c.in_ok-check_replying.ensures in
    refused_right sixteen laws16 _ TooFew (test_refused bad _ _ ∙ sym (then_taken phase_right _)) c.requires

pub complete_set-set-requires : goal.complete_set-set-requires
complete_set-set-requires c =
    let g = good _ (sym c.is_good.ensures ∙ c.if-not-is_good.false) in
    let n : length c.args.reply.now ≡ cells = search rules in
    (g.users_high, omega (arith, g.users_high), omega (arith, g.users_high, g.threshold_high, g.blocks_high), omega arith)

pub returns-then-set-plan-clause-answered : goal.returns-then-set-plan-clause-answered
unfolding finish_refusal replied view
returns-then-set-plan-clause-answered c =
    let a = c.args in
    let s = lent a.head a.first.now a.reply.now in
    let whole : c.complete_set-set.result ≡ replied (view s) = c.complete_set-set.ensures in
    let h : ones s.head.plan.users (replied (view s)) < s.head.plan.threshold = omega (arith, c.if-set-plan.true, counted s _ whole) in
    let phase_right = sym c.in_ok-check_replying.ensures in
    let a_plan = sym c.is_good.ensures ∙ c.if-not-is_good.false in
    refused_right sixteen laws16 _ TooFew (test_refused (lt-leb _ _ h) _ _ ∙ both_passed phase_right (unless_held a_plan 15) _) c.requires

pub put_explained_totals-requires : goal.put_explained_totals-requires
unfolding replied view
put_explained_totals-requires c =
    let a = c.args in
    let s = lent a.head a.first.now a.reply.now in
    let whole : c.complete_set-set.result ≡ replied (view s) = c.complete_set-set.ensures in
    let many : a.head.plan.threshold ≤ ones a.head.plan.users (replied (view s)) = omega (arith, c.if-set-plan.false, counted s _ whole) in
    (good _ (sym c.is_good.ensures ∙ c.if-not-is_good.false), omega (arith, many, ap (ones a.head.plan.users) whole), c.requires)

pub returns-clause-answered : goal.returns-clause-answered
unfolding replied view
returns-clause-answered c =
    let a = c.args in
    let s = lent a.head a.first.now a.reply.now in
    let whole : c.complete_set-set.result ≡ replied (view s) = c.complete_set-set.ensures in
    let passed : Passed s = record {
      replying = sym c.in_ok-check_replying.ensures;
      good = sym c.is_good.ensures ∙ c.if-not-is_good.false;
      many = omega (arith, c.if-set-plan.false, counted s _ whole);
    } in
    totalled_right sixteen laws16 _ passed _ _ _ whole c.put_explained_totals.ensures.totalled
