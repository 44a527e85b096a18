-- `keys::scale_masks` meets its contract. The loop's invariant: the first i products are written. Assumes nothing.
use Rattle.std.proofs.Common.{ℕ, get_or}
use Rattle.scheme.specs.Scheme.{q, sixteen}
use Rattle.scheme.proofs.Padded.{Setting}
use Rattle.element.specs.Word.{word}
use Rattle.element.specs.Halves.{Scales}
use Rattle.keys.proofs.scale_masks.Given as goal

abbrev pub invariant-loop-i : goal.invariant-loop-i
invariant-loop-i l =
    (a : ℕ) → Scales word q a l.scale.by l.scale.key
    → Setting (λ i. sixteen.add 0 (sixteen.multiply a (get_or l.list i 0))) l.n 0 l.initial.out l.i l.out
