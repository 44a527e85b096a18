-- `finish::add_first` meets its contract. The loop's invariant: the first i sums are new, and the others old. Assumes nothing.
use Rattle.std.proofs.Common.{ℕ, ◌+◌, ◌-◌, ◌≤◌, ◌<◌, get_or}
use Rattle.scheme.specs.Limits.{most_blocks}
use Rattle.scheme.proofs.Padded.{Setting}
use Rattle.element.specs.Word.{most_word}
use Rattle.finish.specs.Parts.{raised}
use Rattle.finish.proofs.add_first.Given as goal

abbrev pub invariant-loop-i : goal.invariant-loop-i
invariant-loop-i l = Setting (raised l.initial.sums l.first l.from) most_blocks 0 l.initial.sums l.i l.sums × ((j : ℕ) → j < l.i → get_or l.first (l.from + j) 0 - 1 ≤ most_word)
