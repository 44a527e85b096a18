-- The limits of document 01 as the code has them.
--   document_limits   by their names in scheme/specs/Limits.antt
-- Assumes nothing: these are definitions.
use Rattle.scheme.specs.Limits as limits
use Rattle.plan.specs.declared.Limits.{Limits}

abbrev pub document_limits : Limits
document_limits =
    record {
      least_users = limits.least_users;
      most_users = limits.most_users;
      least_collusion = limits.least_collusion;
      least_blocks = limits.least_blocks;
      most_blocks = limits.most_blocks;
      users = limits.most_users;
      blocks = limits.most_blocks;
      most_threshold = limits.most_threshold;
      most_items = limits.most_items;
      most_places = limits.most_places;
      most_sets = limits.most_sets;
      firsts = limits.firsts;
      cells = limits.cells;
    }
