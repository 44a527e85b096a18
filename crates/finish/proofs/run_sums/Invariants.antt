-- `finish::run_sums` meets its contract. The loop's invariant: in each place stands the sum over the first i rows, not reduced. Assumes nothing.
use Rattle.std.proofs.Common.{◌≡◌, ℕ, ◌+◌, ◌<◌, length, get_or}
use Rattle.scheme.specs.Limits.{most_blocks, most_places}
use Rattle.scheme.specs.Scheme.{q}
use Rattle.scheme.specs.Weighed.{Unreduced}
use Rattle.element.specs.Word.{most_word}
use Rattle.service.specs.View.{held_in}
use Rattle.finish.proofs.run_sums.Given as goal

abbrev pub invariant-loop-i : goal.invariant-loop-i
invariant-loop-i l = (length l.sums ≡ most_blocks)
    × ((p : ℕ) → p < most_blocks → Unreduced q most_word (λ a. held_in most_places l.first (get_or l.rows a 0) (l.at + p)) 0 l.i (get_or l.sums p 0))
