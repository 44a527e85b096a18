-- The refusals of a phase, of each phase of the code.
--   phase_tests   a ruleset: what the four tests of a phase answer
-- Assumes nothing.
use Rattle.std.proofs.Common.{◌≡◌, refl}
use Rattle.scheme.specs.Scheme.{◌then◌, unless}
use Rattle.scheme.specs.Service.{has_plan, is_gathering, is_replying, plan_missing, second_plan, not_gathering, not_replying}
use Rattle.service.specs.declared.Phase.TheVariants.{Unplanned, Idle, Gathering, Replying}
use Rattle.service.specs.View.{phase_of}

pub plan_missing_of : (plan_missing (phase_of Unplanned) ≡ 11) × (plan_missing (phase_of Idle) ≡ 0) × (plan_missing (phase_of Gathering) ≡ 0) × (plan_missing (phase_of Replying) ≡ 0)
unfolding phase_of plan_missing has_plan unless
plan_missing_of = (refl, refl, refl, refl)

pub second_plan_of : (second_plan (phase_of Unplanned) ≡ 0) × (second_plan (phase_of Idle) ≡ 11) × (second_plan (phase_of Gathering) ≡ 11) × (second_plan (phase_of Replying) ≡ 11)
unfolding phase_of second_plan has_plan unless
second_plan_of = (refl, refl, refl, refl)

pub not_gathering_of : (not_gathering (phase_of Unplanned) ≡ 11) × (not_gathering (phase_of Idle) ≡ 12) × (not_gathering (phase_of Gathering) ≡ 0) × (not_gathering (phase_of Replying) ≡ 12)
unfolding phase_of not_gathering plan_missing has_plan is_gathering unless ◌then◌
not_gathering_of = (refl, refl, refl, refl)

pub not_replying_of : (not_replying (phase_of Unplanned) ≡ 11) × (not_replying (phase_of Idle) ≡ 12) × (not_replying (phase_of Gathering) ≡ 12) × (not_replying (phase_of Replying) ≡ 0)
unfolding phase_of not_replying plan_missing has_plan is_replying unless ◌then◌
not_replying_of = (refl, refl, refl, refl)

pub ruleset phase_tests = (plan_missing_of, second_plan_of, not_gathering_of, not_replying_of)
