-- `rounds::calls::ends::check_start` meets its contract: after a refusal the case is as it was, else it has the fresh end.
use Rattle.std.proofs.Common.{true, ap, ◌∙◌}
use Rattle.std.proofs.Math.Option.{none, some}
use Rattle.plan.specs.Plan.{code_use}
use Rattle.plan.specs.Numbers.{number_of}
use Rattle.rounds.specs.Judged.{judged, end_of}
use Rattle.rounds.proofs.Started.{told}
use Rattle.rounds.proofs.calls.ends.check_start.Goals as goal

pub returns-in-Ok : goal.returns-in-Ok
unfolding end_of
returns-in-Ok c =
    told c.args.case.now c.args.line.now (record { number = 0; client = some c.in-Ok.end }) c.number_at-2.ensures.0
    (c.from-usage.ensures ∙ ap code_use c.number_at.ensures.0) c.round_at.ensures
    c.number_at-wanted.ensures.0 c.in-Ok.ensures c.agree.ensures

pub returns-in-Err : goal.returns-in-Err
unfolding end_of
returns-in-Err c =
    told c.args.case.now c.args.line.now (record { number = number_of c.in-Err.refusal; client = none }) c.number_at-2.ensures.0
    (c.from-usage.ensures ∙ ap code_use c.number_at.ensures.0) c.round_at.ensures
    c.number_at-wanted.ensures.0 c.in-Err.ensures (c.agree-in-Err.ensures ∙ ap (λ n. judged n c.number_at-wanted.result true true) c.from.ensures)
