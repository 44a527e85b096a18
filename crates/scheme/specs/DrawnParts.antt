-- A byte string read from a place on, and a list that is filled from it, over an arithmetic.
--   Skipped     so many of the n numbers from a place on are no elements
--   DrawnTo    a list whose first n places are filled from the bytes before `at`
-- Assumes nothing: these are definitions.
use Rattle.std.specs.Prelude.{◌≡◌, List, ◌++◌, ℕ, ◌+◌, ◌*◌, ◌-◌, ◌≤◌, length, take, drop}
use Rattle.scheme.specs.Scheme.{Arithmetic}
use Rattle.scheme.specs.Drawn.{found, drawn}

pub record Skipped (A : Arithmetic) (s : List ℕ) (at n skipped : ℕ) : Type 0 where
  pub few : skipped ≤ n
  pub right : skipped + length (found A (drop at s)) ≡ n + length (found A (drop (at + 2 * n) s))

-- whatever the other places hold; with the elements that are still to come, the first n are all that is drawn
pub record DrawnTo (A : Arithmetic) (s : List ℕ) (len : ℕ) (list : List ℕ) (n at : ℕ) : Type 0 where
  pub within : n ≤ len
  pub long : length list ≡ len
  pub enough : len - n ≤ length (found A (drop at s))
  pub whole : take n list ++ take (len - n) (found A (drop at s)) ≡ drawn A len s
