-- How long the lists are that a caller lends, and how far from zero a figure may lie: as a plan fixes it, and 0 where test 1 or 4 refuses.
--   row_len          of a row of figures, and of a first message
--   list_len         of the random list
--   key_len          of a user's key
--   largest_figure   the bound of a plan's figures of a use
-- Assumes nothing: these are definitions.
use Rattle.std.specs.Prelude.{ℕ}
use Rattle.scheme.specs.Scheme.{Arithmetic, Plan, plan_good, places, Use, figure_bound, list_length, key_length, unless, start_refusal, after}

unfoldable pub row_len : Plan → ℕ
row_len p = after (unless (plan_good p) 1) (places p) 0

unfoldable pub list_len : Plan → ℕ
list_len p = after (unless (plan_good p) 1) (list_length p) 0

unfoldable pub key_len : Plan → (k : ℕ) → ℕ
key_len p k = after (start_refusal p k) (key_length p k) 0

unfoldable pub largest_figure : Arithmetic → Use → Plan → ℕ
largest_figure A u p = after (unless (plan_good p) 1) (figure_bound A u p) 0
