-- `rounds::calls::meaning::check_residue` meets its contract: what its calls answer, put together.
use Rattle.std.proofs.Common.{ap, ◌∙◌, w32, SFits, rules}
use mir.ValLaws.{to_z-of_z}
use Rattle.scheme.specs.Scheme.{sixteen}
use Rattle.plan.specs.Plan.{plan_of}
use Rattle.reading.specs.Reading.{residue_answer}
use Rattle.rounds.proofs.Values.{residue_told}
use Rattle.rounds.proofs.calls.meaning.check_residue.Goals as goal

pub returns : goal.returns
returns c =
    let fits : SFits w32 c.value_of-value.result = search rules in
    residue_told c.args.case.now c.args.line.now c.number_at-3.ensures.0 c.residue_of-residue.result
    (c.residue_of-residue.ensures ∙ ap (residue_answer sixteen (plan_of c.args.case.now.plan))
    (to_z-of_z w32 _ fits ∙ cc (c.value_of-value.ensures, c.number_at-2.ensures.0, c.number_at.ensures.0)))
    c.number_at-4.ensures.0 c.number_of.ensures (c.from.ensures ∙ c.unwrap_or.ensures) c.judge.ensures
