-- `plan::find_reply` meets its contract: `reply_start` of a plan, a user and a set that passed tests 1, 4, 5 and 6. Assumes nothing.
use Rattle.std.proofs.Common.{sym, ◌∙◌, le_of_lt, arith}
use Rattle.scheme.specs.Scheme.{reply_start}
use Rattle.scheme.proofs.Refusals.{start_taken, lookup_taken, after_taken, after_refused}
use Rattle.scheme.proofs.Sets.{usable_below}
use Rattle.plan.specs.Plan.{plan_of}
use Rattle.std.proofs.lemmas.Result.{err_from_is_err_and}
use Rattle.plan.proofs.Numbers.{refused_ne0}
use Rattle.plan.proofs.find_reply.Goals as goal

pub returns-in_err-check_lookup-clause-found : goal.returns-in_err-check_lookup-clause-found
returns-in_err-check_lookup-clause-found c =
    let a = c.args in
    let p = err_from_is_err_and c.from_residual.result c.from_residual.ensures.1 in
    let e = c.in_err-check_lookup.ensures in
    let s = after_refused (λ z. refused_ne0 _ (e ∙ z)) (reply_start (plan_of a.p) a.user a.set) 0 in
    rw (p.1, p.2) (λ i. record { number = e i; start = sym s i })

pub reply_start-requires : goal.reply_start-requires
reply_start-requires c =
    let t = lookup_taken _ _ _ (sym c.in_ok-check_lookup.ensures) in
    let g = start_taken _ _ t.0 in
    (g.0, g.1, omega arith, le_of_lt (usable_below _ _ t.1))

pub returns-clause-found : goal.returns-clause-found
returns-clause-found c =
    let z = sym c.in_ok-check_lookup.ensures in
    λ i. record { number = sym z i; start = (c.reply_start.ensures.0 ∙ sym (after_taken z _ 0)) i }
