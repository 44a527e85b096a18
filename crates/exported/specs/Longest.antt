-- How long the lists can be that callers lend, over all plans, so that buffers can be static.
--   longest_list, longest_key   met by the plans 8 4 3 16 and 8 2 1 16
--   Longest   the header's CUTAWHENO_MOST_PLACES, CUTAWHENO_LONGEST_LIST and CUTAWHENO_LONGEST_KEY: no plan needs more, and one plan as much
-- Assumes nothing: these are definitions.
use Rattle.std.specs.Prelude.{◌≡◌, ℕ, ◌≤◌}
use Rattle.scheme.specs.Limits.{most_users, least_collusion, most_blocks, most_threshold, most_places}
use Rattle.scheme.specs.Scheme.{Plan}
use Rattle.plan.specs.Lengths.{row_len, list_len, key_len}

abbrev pub longest_list : ℕ
longest_list = 7952

abbrev pub longest_key : ℕ
longest_key = 2048

pub record Longest : Type 0 where
  pub row : (p : Plan) → row_len p ≤ most_places
  pub list : (p : Plan) → list_len p ≤ longest_list
  pub key : (p : Plan) (k : ℕ) → key_len p k ≤ longest_key
  pub row_met : row_len (record { users = most_users; threshold = most_threshold; collusion = least_collusion; blocks = most_blocks }) ≡ most_places
  pub list_met : list_len (record { users = most_users; threshold = 4; collusion = 3; blocks = most_blocks }) ≡ longest_list
  pub key_met : key_len (record { users = most_users; threshold = 2; collusion = least_collusion; blocks = most_blocks }) 1 ≡ longest_key
