-- `plan::is_usable_with` meets its contract: the two tests of its definition, the second one first.
-- Assumes nothing.
use Rattle.std.proofs.Common.{◌∙◌, sym}
use Rattle.scheme.specs.Scheme.{usable_with}
use Rattle.scheme.proofs.Tests.{and_true, and_false}
use Rattle.plan.proofs.is_usable_with.Goals as goal

pub returns-then-holds : goal.returns-then-holds
unfolding usable_with
returns-then-holds c = simp (c.has_enough.ensures, sym c.holds.ensures ∙ c.if-holds.true, and_true)

pub returns-else-holds : goal.returns-else-holds
unfolding usable_with
returns-else-holds c = simp (c.if-holds.false, sym c.holds.ensures ∙ c.if-holds.false, and_false)
