-- `plan::check_start` meets its contract: the tests that led to each return decide the definition's.
-- Assumes nothing.
use Rattle.std.proofs.Common.{◌∙◌, sym, le-leb}
use borrow.Author.Tests.{lt-leb}
use Rattle.scheme.specs.Scheme.{start_refusal, is_user, unless, ◌then◌}
use Rattle.plan.proofs.check_start.Goals as goal
use Rattle.plan.proofs.check_start.Goals.{then-user-lt1-via-then-user-lt1, then-user-lt1-via-else-user-lt1+then-p-user}

pub returns-then-not-is_good : goal.returns-then-not-is_good
unfolding start_refusal unless ◌then◌
returns-then-not-is_good c = rw (sym c.is_good.ensures ∙ c.if-not-is_good.true)

pub returns-then-user-lt1 : goal.returns-then-user-lt1
unfolding start_refusal is_user unless ◌then◌
returns-then-user-lt1 c =
    let g = sym c.is_good.ensures ∙ c.if-not-is_good.false in
    elim c.then-user-lt1.branch [ then-user-lt1-via-then-user-lt1 w ↦ simp (g, lt-leb _ _ w.if-user-lt1.true) | then-user-lt1-via-else-user-lt1+then-p-user w ↦ simp (g, le-leb _ _ w.if-user-lt1.false, lt-leb _ _ w.if-p-user.true) ]

pub returns : goal.returns
unfolding start_refusal is_user unless ◌then◌
returns c = simp (sym c.is_good.ensures ∙ c.if-not-is_good.false, le-leb _ _ c.if-user-lt1.false, le-leb _ _ c.if-p-user.false)
