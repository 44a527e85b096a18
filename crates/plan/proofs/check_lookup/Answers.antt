-- `plan::check_lookup` meets its contract: the tests that led to each return decide the definition's.
-- Assumes nothing.
use Rattle.std.proofs.Common.{sym, ◌∙◌, arith}
use Rattle.scheme.specs.Scheme.{lookup_refusal, unless, ◌then◌}
use Rattle.scheme.proofs.Refusals.{then_stops, start_taken}
use Rattle.std.proofs.lemmas.Result.{err_from_is_err_and}
use Rattle.plan.proofs.Numbers.{refused_ne0}
use Rattle.plan.proofs.check_lookup.Goals as goal

pub returns-in_err-check_start : goal.returns-in_err-check_start
unfolding lookup_refusal
returns-in_err-check_start c =
    let p = err_from_is_err_and c.from_residual.result c.from_residual.ensures.1 in
    rw (p.1, p.2) (then_stops c.in_err-check_start.ensures (refused_ne0 _) _)

pub is_usable-requires : goal.is_usable-requires
is_usable-requires c = (start_taken _ _ (sym c.in_ok-check_start.ensures)).0

pub returns-then-not-is_usable : goal.returns-then-not-is_usable
unfolding lookup_refusal unless ◌then◌
returns-then-not-is_usable c = simp (sym c.in_ok-check_start.ensures, sym c.is_usable.ensures ∙ c.if-not-is_usable.true)

pub holds-requires : goal.holds-requires
holds-requires c =
    let g = start_taken _ _ (sym c.in_ok-check_start.ensures) in
    (g.1, omega arith)

pub returns-then-not-holds : goal.returns-then-not-holds
unfolding lookup_refusal unless ◌then◌
returns-then-not-holds c = simp (sym c.in_ok-check_start.ensures, sym c.is_usable.ensures ∙ c.if-not-is_usable.false, sym c.holds.ensures ∙ c.if-not-holds.true)

pub returns : goal.returns
unfolding lookup_refusal unless ◌then◌
returns c = simp (sym c.in_ok-check_start.ensures, sym c.is_usable.ensures ∙ c.if-not-is_usable.false, sym c.holds.ensures ∙ c.if-not-holds.false)
