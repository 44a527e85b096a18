-- `keys::drawing::is_enough` meets its contract: what is missing, with the elements that the bytes hold, is what is wanted and the elements from there on.
use Rattle.std.proofs.Common.{◌≡◌, ◌+◌, ◌*◌, ◌≤◌, length, drop}
use Rattle.scheme.specs.Limits.{most_list}
use Rattle.scheme.specs.Scheme.{sixteen}
use Rattle.scheme.specs.Drawn.{found}
use Rattle.keys.proofs.drawing.is_enough.Given as goal

abbrev pub invariant-loop-missing : goal.invariant-loop-missing
invariant-loop-missing l = (l.at + 2 * l.left ≤ length l.bytes) × (length l.bytes ≤ l.at + 2 * l.left + 1) × (l.missing ≤ most_list)
    × (l.missing + length (found sixteen l.bytes) ≡ l.n + length (found sixteen (drop l.at l.bytes)))

abbrev pub decreases-loop-missing : goal.decreases-loop-missing
decreases-loop-missing l = l.left
