-- `keys::list_from_bytes` meets its contract: where nothing is refused the list is what is drawn, else it is as it was.
use Rattle.std.proofs.Common.{sym, ◌∙◌}
use Rattle.scheme.proofs.Refusals.{after_taken, after_refused}
use Rattle.scheme.proofs.Drawing.Refusal.{list_taken}
use Rattle.plan.proofs.Numbers.{refused_ne0}
use Rattle.keys.proofs.list_from_bytes.Goals as goal

pub returns-in_err-check_list-clause-left : goal.returns-in_err-check_list-clause-left
returns-in_err-check_list-clause-left c = sym (after_refused (λ z. refused_ne0 _ (c.in_err-check_list.ensures ∙ z)) _ _)

pub fill-requires : goal.fill-requires
fill-requires c = (list_taken _ _ _ _ (sym c.in_ok-check_list.ensures)).2

pub returns-clause-left : goal.returns-clause-left
returns-clause-left c = c.fill.ensures ∙ sym (after_taken (sym c.in_ok-check_list.ensures) _ _)
