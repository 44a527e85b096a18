-- `finish::finish_lent` meets its contract: the answer, and the state after it.
-- Assumes nothing.
use Rattle.std.proofs.Common.{sym, refl}
use Rattle.scheme.specs.Scheme.{sixteen}
use Rattle.scheme.proofs.Refusals.{after_taken}
use Rattle.solve.specs.Solve.{laws16}
use Rattle.std.proofs.lemmas.Result.{err_from_is_err_and}
use Rattle.plan.proofs.Numbers.{refused_ne0}
use Rattle.finish.specs.Finish.{finished}
use Rattle.finish.proofs.Answers.{answer_right, finish_refuses}
use Rattle.finish.proofs.finish_lent.Goals as goal

pub returns-in_err-aside-clause-step : goal.returns-in_err-aside-clause-step
returns-in_err-aside-clause-step c =
    let p = err_from_is_err_and c.from_residual.result c.from_residual.ensures.1 in
    rw (p.1, p.2) (finish_refuses sixteen laws16 _ (refused_ne0 _) (sym c.in_err-aside.ensures.answered.number_right))

pub returns-clause-step : goal.returns-clause-step
unfolding finished
returns-clause-step c =
    rw (c.clear.ensures.0, c.clear.ensures.1)
    (answer_right sixteen laws16 _ _ c.in_ok-aside.ensures.answered (sym (after_taken refl _ _)))
