-- The test of a plan's ranges as facts.
--   Good   what plan_good says (proofs/Good.antt has both directions)
-- Assumes nothing: these are definitions.
use Rattle.std.specs.Prelude.{◌≤◌, ◌<◌}
use Rattle.scheme.specs.Limits.{least_users, most_users, least_collusion, least_blocks, most_blocks}
use Rattle.scheme.specs.Scheme.{Plan}

pub record Good (p : Plan) : Type 0 where
  pub users_low : least_users ≤ p.users
  pub users_high : p.users ≤ most_users
  pub collusion_low : least_collusion ≤ p.collusion
  pub collusion_high : p.collusion < p.threshold
  pub threshold_high : p.threshold < p.users
  pub blocks_low : least_blocks ≤ p.blocks
  pub blocks_high : p.blocks ≤ most_blocks
