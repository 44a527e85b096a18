-- `keys::share_row` meets its contract: one lane a turn (Making.Sums.scaled_more). Assumes nothing.
use Rattle.std.proofs.Common.{◌≡◌, ℕ, length}
use Rattle.scheme.specs.Limits.{most_blocks}
use Rattle.scheme.specs.Scheme.{q, sixteen}
use Rattle.scheme.specs.KeyParts.{ScaledRow}
use Rattle.element.specs.Word.{word}
use Rattle.element.specs.Halves.{Scales}
use Rattle.keys.proofs.share_row.Given as goal

abbrev pub invariant-loop-b : goal.invariant-loop-b
invariant-loop-b l = (length l.row ≡ most_blocks)
    × ((a : ℕ) → Scales word q a l.source.scale.by l.source.scale.key → ScaledRow sixteen l.source.low.now l.i l.source.high.now l.j a l.source.list.now l.noise l.b l.row)
