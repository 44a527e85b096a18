-- `rounds::calls::ends::check_reply` meets its contract: a refused reply has no part, and leaves the end as it was.
use Rattle.std.proofs.Common.{[], ap, ◌∙◌}
use Rattle.plan.specs.Numbers.{number_of}
use Rattle.client.specs.Client.{Moved}
use Rattle.rounds.proofs.Replied.{none_wanted, no_part, told}
use Rattle.rounds.proofs.calls.ends.check_reply.Goals as goal

pub returns-in-Ok : goal.returns-in-Ok
returns-in-Ok c =
    told c.args.case.now c.args.line.now (record { number = 0; client = c.in-Ok.replied.client }) c.in-Ok.replied.part.now
    c.key-key.ensures c.number_at.ensures.0 c.round_at.ensures c.number_at-number.ensures.0 c.number_at-stage.ensures.0 c.rest-wanted.ensures
    c.in-Ok.ensures.answer c.in-Ok.ensures.shares (c.judge.ensures ∙ rw (c.stage_is.ensures, c.eq.ensures))

pub returns-in-Err : goal.returns-in-Err
returns-in-Err c =
    let a : Moved = record { number = number_of c.in-Err.refusal; client = c.args.case.now.end } in
    told c.args.case.now c.args.line.now a []
    c.key-key.ensures c.number_at.ensures.0 c.round_at.ensures c.number_at-number.ensures.0 c.number_at-stage.ensures.0 c.rest-wanted.ensures
    c.in-Err.ensures.answer (no_part _ _ _ _ c.in-Err.refusal (ap (λ (x : Moved). x.number) c.in-Err.ensures.answer))
    (c.judge-in-Err.ensures ∙ rw (c.from.ensures, c.stage_is-in-Err.ensures, c.is_empty.ensures, none_wanted c.rest-wanted.result.now))
