-- `client::add_masks` meets its contract: one more place is one more sum (Lists.sets_more).
-- Assumes nothing.
use Rattle.std.proofs.Common.{ℕ, List, get_or, set, zero-add, sym, ap₂, ◌∙◌}
use Rattle.scheme.specs.Scheme.{sixteen}
use Rattle.scheme.proofs.Lists.{sets_more}
use Rattle.client.proofs.add_masks.Goals as goal

pub loop-i-preserved : goal.loop-i-preserved
loop-i-preserved c =
    let a = c.args in
    let sum : ℕ → ℕ = λ j. sixteen.add (get_or a.figures.now j 0) (get_or a.key.now j 0) in
    rw c.add.ensures
    (ap₂ (λ (o : List ℕ) (n : ℕ). set o n (sum c.loop-i.i)) c.loop-i.invariant (sym (zero-add c.loop-i.i)) ∙ sets_more a.out.now 0 c.loop-i.i sum)
