-- How many sets of users have enough members, by the number of users and the threshold alone.
--   sets_of            the count; without one user, it is that of the usable sets which hold the user (proofs/Counts.antt)
--   fewest, counts     of the code's table: its first row is for so many users; how many entries it has
--   sets_rule          the entry at most_users * users + threshold
-- Assumes nothing: these are definitions.
use Rattle.std.specs.Prelude.{ℕ, ◌+◌, ◌*◌, ◌-◌, ◌/◌, ◌%◌, length}
use Rattle.scheme.specs.Limits.{least_users, most_users}
use Rattle.scheme.specs.Scheme.{usable_sets}

unfoldable pub sets_of : (users threshold : ℕ) → ℕ
sets_of n u = length (usable_sets (record { users = n; threshold = u; collusion = 0; blocks = 0 }))

abbrev pub fewest : ℕ
fewest = least_users - 1

abbrev pub counts : ℕ
counts = (most_users + 1 - fewest) * most_users

unfoldable pub sets_rule : ℕ → ℕ
sets_rule i = sets_of (i / most_users) (i % most_users)
