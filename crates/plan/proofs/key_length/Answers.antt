-- `plan::key_length` meets its contract: `key_of` of a plan and a user that passed tests 1 and 4. Assumes nothing.
use Rattle.std.proofs.Common.{sym, ◌∙◌, arith}
use Rattle.scheme.proofs.Refusals.{start_taken, after_taken, after_refused}
use Rattle.plan.specs.Lengths.{key_len}
use Rattle.plan.proofs.Numbers.{refused_ne0}
use Rattle.plan.proofs.key_length.Goals as goal

pub returns-in-Err : goal.returns-in-Err
unfolding key_len
returns-in-Err c = (sym (after_refused (λ z. refused_ne0 _ (c.in-Err.ensures ∙ z)) _ _), omega arith)

pub key_of-requires : goal.key_of-requires
key_of-requires c = start_taken _ _ (sym c.in-Ok.ensures)

pub returns-in-Ok : goal.returns-in-Ok
unfolding key_len
returns-in-Ok c = (c.key_of.ensures.0 ∙ sym (after_taken (sym c.in-Ok.ensures) _ _), c.key_of.ensures.1)
