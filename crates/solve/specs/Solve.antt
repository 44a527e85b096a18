-- What the 16-bit solver adds to Solve of crate scheme.
--   laws16        the field of 65521 elements, for all plans
--   most_factor   of a factor of a weight that is not reduced
-- Assumes nothing: these are definitions.
use Rattle.std.specs.Prelude.{ℕ, ◌*◌}
use Rattle.std.proofs.Common.{lit<}
use Rattle.scheme.specs.Limits.{most_users, most_threshold}
use Rattle.scheme.specs.Scheme.{sixteen}
use Rattle.scheme.specs.Laws.{Laws}
use Rattle.scheme.specs.Modular.{sixteen_field}
use Rattle.element.specs.Word.{most_word}

abbrev pub laws16 : Laws sixteen most_users most_threshold
laws16 = sixteen_field most_users most_threshold (lit< tt)

abbrev pub most_factor : ℕ
most_factor = 2 * most_users * most_word
