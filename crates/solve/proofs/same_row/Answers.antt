-- `solve::same_row` meets its contract. The loop's invariant: what was found so far, and the answer for the blocks that are left, is the
-- answer for all. Assumes nothing.
use Rattle.std.proofs.Common.{sym, ap, ◌∙◌, Bool, ◌&&◌, ◌≡◌, ℕ, true, false, ◌+◌, ◌-◌, ◌<◌, refl}
use mathlib.Core.Bool.{and_assoc}
use Rattle.scheme.specs.Lists.{span, all_of}
use Rattle.scheme.proofs.Tests.{and_true}
use Rattle.scheme.proofs.Pooling.Totals.{all_of_more, all_of_stop, all_of_end}
use Rattle.solve.proofs.same_row.Goals as goal
use Rattle.solve.proofs.same_row.Invariants.{passes}

-- a test, and those behind it
all_of_step : (t : ℕ → Bool) (n i : ℕ) → i < n → (t i && all_of t (span (n - (i + 1)) (i + 1))) ≡ all_of t (span (n - i) i)
all_of_step t n i h = go (t i) refl
  where
    go : (b : Bool) → t i ≡ b → (t i && all_of t (span (n - (i + 1)) (i + 1))) ≡ all_of t (span (n - i) i)
    go true e = rw e (all_of_more t n i h e)
    go false e = rw e (sym (all_of_stop t n i h e))

pub loop-b-preserved : goal.loop-b-preserved
loop-b-preserved c =
    let l = c.loop-b in
    let a = c.args in
    and_assoc l.good _ _ ∙ ap (λ (b : Bool). l.good && b) (all_of_step (passes a.row.now a.values.now) _ l.b c.loop-b-test.true) ∙ l.invariant

pub returns : goal.returns
returns c =
    let l = c.loop-b in
    sym (and_true l.good) ∙ ap (λ (b : Bool). l.good && b) (sym (all_of_end _ _ _ c.loop-b-test.false)) ∙ l.invariant
