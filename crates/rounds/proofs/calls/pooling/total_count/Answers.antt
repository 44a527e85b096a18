-- `rounds::calls::pooling::total_count` meets its contract: none behind a refusal.
use Rattle.std.proofs.Common.{sym}
use Rattle.scheme.proofs.Refusals.{after_refused, after_taken}
use Rattle.rounds.proofs.calls.pooling.total_count.Goals as goal

pub returns-then-number-ne0 : goal.returns-then-number-ne0
returns-then-number-ne0 c = sym (after_refused c.if-number-ne0.true _ _)

pub returns : goal.returns
returns c = sym (after_taken c.if-number-ne0.false _ _)
