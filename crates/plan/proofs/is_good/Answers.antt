-- `plan::is_good` meets its contract: `bad` and `good_back` of the scheme turn its tests into facts.
-- Assumes nothing.
use Rattle.std.proofs.Common.{sym, arith}
use Rattle.scheme.proofs.Good.{good_back, bad}
use Rattle.plan.proofs.is_good.Goals as goal

pub returns-then-p-lt-LEAST_USERS : goal.returns-then-p-lt-LEAST_USERS
returns-then-p-lt-LEAST_USERS c = sym (bad _ (λ g. omega arith))

pub returns-then-p-gt-MOST_USERS : goal.returns-then-p-gt-MOST_USERS
returns-then-p-gt-MOST_USERS c = sym (bad _ (λ g. omega arith))

pub returns-then-p-lt-LEAST_COLLUSION : goal.returns-then-p-lt-LEAST_COLLUSION
returns-then-p-lt-LEAST_COLLUSION c = sym (bad _ (λ g. omega arith))

pub returns-then-p : goal.returns-then-p
returns-then-p c = sym (bad _ (λ g. omega arith))

pub returns-then-p-2 : goal.returns-then-p-2
returns-then-p-2 c = sym (bad _ (λ g. omega arith))

pub returns-then-p-lt-LEAST_BLOCKS : goal.returns-then-p-lt-LEAST_BLOCKS
returns-then-p-lt-LEAST_BLOCKS c = sym (bad _ (λ g. omega arith))

pub returns-then-p-gt-MOST_BLOCKS : goal.returns-then-p-gt-MOST_BLOCKS
returns-then-p-gt-MOST_BLOCKS c = sym (bad _ (λ g. omega arith))

pub returns : goal.returns
returns c = sym (good_back _ (omega arith))
