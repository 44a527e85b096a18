-- `plan::count_of` meets its contract, by the table's entry. Assumes nothing.
use Rattle.std.proofs.Common.{◌≡◌, ap, ◌∙◌, ◌+◌, ◌*◌, ◌-◌, arith}
use Rattle.scheme.specs.Limits.{most_users}
use Rattle.plan.specs.Counts.{fewest, sets_rule}
use Rattle.plan.proofs.Counts.{sets_entry, sets_few}
use Rattle.plan.proofs.count_of.Goals as goal

pub returns : goal.returns
returns c =
    let n = c.args.users in
    let u = c.args.threshold in
    let i : fewest * most_users + ((n - fewest) * most_users + u) ≡ n * most_users + u = omega arith in
    let e = c.sets_at.ensures ∙ ap sets_rule i ∙ sets_entry n u c.requires.2 in
    (e, omega (arith, e, sets_few n u c.requires.1))
