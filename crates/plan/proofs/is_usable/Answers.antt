-- `plan::is_usable` meets its contract: no set from 2 ^ K on is usable. Assumes nothing.
use Rattle.std.proofs.Common.{◌^◌, ◌≤◌, arith, le-ltb}
use Rattle.scheme.specs.Scheme.{usable}
use Rattle.plan.proofs.is_usable.Goals as goal

pub returns-else-set-count_sets : goal.returns-else-set-count_sets
unfolding usable
returns-else-set-count_sets c =
    let h : 2 ^ c.args.p.users ≤ c.args.set = omega arith in
    simp (le-ltb _ _ h, le-ltb _ _ c.if-set-count_sets.false)
