-- `stream::take_record` meets its contract: the kind says which record stands there.
-- Assumes nothing.
use Rattle.std.proofs.Common.{sym, ap, ◌∙◌, arith}
use Rattle.stream.specs.Stream.{code_of, record_length}
use Rattle.stream.proofs.Turns.{record_plan, record_open, record_close, record_finish}
use Rattle.stream.proofs.Runs.{turn_alone}
use Rattle.stream.proofs.take_record.Goals as goal
use Rattle.stream.proofs.take_record.Goals.{in-Plan, in-Open, in-Close, in-Finish}

pub plan_at-requires : goal.plan_at-requires
unfolding record_length
plan_at-requires c = omega (arith, ap record_length (c.requires.2 ∙ ap code_of c.in-Plan.is))

pub four_at-requires : goal.four_at-requires
unfolding record_length
four_at-requires c = omega (arith, ap record_length (c.requires.2 ∙ ap code_of c.in-Open.is))

pub returns : goal.returns
returns c =
    let kind = c.requires.2 in
    let long = c.length.ensures.0 ∙ ap record_length (sym kind) in
    elim c.match-kind.branch [
      | in-Plan w ↦ turn_alone (record_plan _ _ (kind ∙ ap code_of w.in-Plan.is)) long w.service-is w.out-is w.wrote-is (rw w.plan_at.ensures at w.take_plan-wrote.ensures)
      | in-Open w ↦ turn_alone (record_open _ _ (kind ∙ ap code_of w.in-Open.is)) long w.service-is w.out-is w.wrote-is (rw w.four_at.ensures at w.take_open-wrote.ensures)
      | in-Close w ↦ turn_alone (record_close _ _ (kind ∙ ap code_of w.in-Close.is)) long w.service-is w.out-is w.wrote-is w.take_close-wrote.ensures
      | in-Finish w ↦ turn_alone (record_finish _ _ (kind ∙ ap code_of w.in-Finish.is)) long w.service-is w.out-is w.wrote-is w.take_finish-wrote.ensures
    ]
