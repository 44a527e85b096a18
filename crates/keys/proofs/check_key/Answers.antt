-- `keys::check_key` meets its contract: the tests that led to each return decide the definition's.
use Rattle.std.proofs.Common.{sym, ◌∙◌}
use borrow.Author.Tests.{eq-eqb, ne_eqb}
use Rattle.scheme.specs.Scheme.{key_refusal, unless, ◌then◌}
use Rattle.scheme.proofs.Refusals.{then_stops, start_taken}
use Rattle.std.proofs.lemmas.Result.{err_from_is_err_and}
use Rattle.plan.proofs.Numbers.{refused_ne0}
use Rattle.keys.proofs.check_key.Goals.{then-random-list_of-via-then-random-list_of, then-random-list_of-via-else-random-list_of+then-out-key_of}
use Rattle.keys.proofs.check_key.Goals as goal

pub returns-in_err-check_start : goal.returns-in_err-check_start
unfolding key_refusal
returns-in_err-check_start c =
    let p = err_from_is_err_and c.from_residual.result c.from_residual.ensures.1 in
    rw (p.1, p.2) (then_stops c.in_err-check_start.ensures (refused_ne0 _) _)

pub list_of-requires : goal.list_of-requires
list_of-requires c = (start_taken _ _ (sym c.in_ok-check_start.ensures)).0

pub key_of-requires : goal.key_of-requires
key_of-requires c = start_taken _ _ (sym c.in_ok-check_start.ensures)

pub returns-then-random-list_of : goal.returns-then-random-list_of
unfolding key_refusal unless ◌then◌
returns-then-random-list_of c =
    let s = sym c.in_ok-check_start.ensures in
    elim c.then-random-list_of.branch [
      | then-random-list_of-via-then-random-list_of w ↦ simp (s, ne_eqb _ _ (λ e. w.if-random-list_of.true (e ∙ sym c.list_of.ensures.0)))
      | then-random-list_of-via-else-random-list_of+then-out-key_of w ↦
          simp (s, eq-eqb _ _ (w.if-random-list_of.false ∙ c.list_of.ensures.0), ne_eqb _ _ (λ e. w.if-out-key_of.true (e ∙ sym w.key_of.ensures.0)))
    ]

pub returns-then-not-all_elements : goal.returns-then-not-all_elements
unfolding key_refusal unless ◌then◌
returns-then-not-all_elements c =
    simp (
      sym c.in_ok-check_start.ensures,
      eq-eqb _ _ (c.if-random-list_of.false ∙ c.list_of.ensures.0),
      eq-eqb _ _ (c.if-out-key_of.false ∙ c.key_of.ensures.0),
      sym c.all_elements.ensures ∙ c.if-not-all_elements.true,
    )

pub returns : goal.returns
unfolding key_refusal unless ◌then◌
returns c =
    simp (
      sym c.in_ok-check_start.ensures,
      eq-eqb _ _ (c.if-random-list_of.false ∙ c.list_of.ensures.0),
      eq-eqb _ _ (c.if-out-key_of.false ∙ c.key_of.ensures.0),
      sym c.all_elements.ensures ∙ c.if-not-all_elements.false,
    )
