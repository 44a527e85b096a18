-- `plan::sets_at` meets its contract: antt computes the rule at all entries and compares it with the table; `map_span_at` carries that to
-- each entry. Assumes nothing.
use Rattle.std.proofs.Common.{◌*◌}
use Rattle.scheme.specs.Limits.{most_users}
use Rattle.scheme.specs.Scheme.{usable_sets, usable, ones}
use Rattle.scheme.proofs.Lists.{map_span_at}
use Rattle.plan.specs.Counts.{fewest, counts, sets_of, sets_rule}
use Rattle.plan.proofs.sets_at.Goals as goal

pub returns : goal.returns
unfolding sets_rule sets_of usable_sets usable ones
returns c = map_span_at sets_rule counts (fewest * most_users) c.args.at c.requires
