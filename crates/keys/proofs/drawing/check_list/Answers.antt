-- `keys::drawing::check_list` meets its contract: each return is the definition under the tests that led there.
use Rattle.std.proofs.Common.{sym, ◌∙◌}
use borrow.Author.Tests.{eq-eqb, ne_eqb}
use Rattle.scheme.specs.Scheme.{unless, ◌then◌}
use Rattle.scheme.specs.Drawn.{list_refusal}
use Rattle.scheme.proofs.Good.{good}
use Rattle.keys.proofs.drawing.check_list.Goals as goal

pub returns-then-not-is_good : goal.returns-then-not-is_good
unfolding list_refusal ◌then◌ unless
returns-then-not-is_good c = simp (sym c.is_good.ensures ∙ c.if-not-is_good.true)

pub list_of-requires : goal.list_of-requires
list_of-requires c = good _ (sym c.is_good.ensures ∙ c.if-not-is_good.false)

pub returns-then-n-list_of : goal.returns-then-n-list_of
unfolding list_refusal ◌then◌ unless
returns-then-n-list_of c =
    simp (sym c.is_good.ensures ∙ c.if-not-is_good.false, ne_eqb _ _ (λ e. c.if-n-list_of.true (e ∙ sym c.list_of.ensures.0)))

pub returns-then-not-is_enough : goal.returns-then-not-is_enough
unfolding list_refusal ◌then◌ unless
returns-then-not-is_enough c =
    simp (
      sym c.is_good.ensures ∙ c.if-not-is_good.false,
      eq-eqb _ _ (c.if-n-list_of.false ∙ c.list_of.ensures.0),
      sym c.is_enough.ensures ∙ c.if-not-is_enough.true,
    )

pub returns : goal.returns
unfolding list_refusal ◌then◌ unless
returns c =
    simp (
      sym c.is_good.ensures ∙ c.if-not-is_good.false,
      eq-eqb _ _ (c.if-n-list_of.false ∙ c.list_of.ensures.0),
      sym c.is_enough.ensures ∙ c.if-not-is_enough.false,
    )
