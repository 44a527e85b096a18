-- `service::row_held` meets its contract: what was found so far, and the answer for the elements that are left, is the answer for all.
-- Assumes nothing.
use Rattle.std.proofs.Common.{ℕ, ◌<◌, ◌≤◌, sym, ap, ◌∙◌, arith, length-take, length-drop, Bool, ◌&&◌, not, eq-eqb, ne_eqb}
use native.Mathlib.Nat.{sub-zero}
use Rattle.scheme.proofs.Tests.{and_true, and_false}
use Rattle.scheme.proofs.Pooling.Totals.{all_of_more, all_of_stop, all_of_end}
use Rattle.service.specs.View.{row_held}
use Rattle.service.proofs.Complete.{sliced_at}
use Rattle.service.proofs.row_held.Goals as goal
use Rattle.service.proofs.row_held.Goals.{then-place-eq0, else-place-eq0}

pub loop-place-init : goal.loop-place-init
unfolding row_held
loop-place-init c = simp sub-zero

pub loop-place-preserved : goal.loop-place-preserved
loop-place-preserved c =
    let l = c.loop-place in
    let h : l.place-index < c.args.each = omega (arith, c.loop-place-test.true, length-take {A = ℕ}, length-drop {A = ℕ}) in
    let e = sliced_at c.args.held.now c.args.start c.args.each l.place-index h in
    let g = λ (b : Bool). l.good && b in
    elim c.if-place-eq0.branch [
      | then-place-eq0 w ↦ rw w.good-is (sym (and_false l.good) ∙ ap g (sym (all_of_stop _ _ l.place-index h (ap not (eq-eqb _ _ (sym e ∙ w.if-place-eq0.true))))) ∙ l.invariant)
      | else-place-eq0 w ↦ rw w.good-is (ap g (all_of_more _ _ l.place-index h (ap not (ne_eqb _ _ (λ z. w.if-place-eq0.false (e ∙ z))))) ∙ l.invariant)
    ]

pub returns : goal.returns
returns c =
    let l = c.loop-place in
    let h : c.args.each ≤ l.place-index = omega (arith, c.loop-place-test.false, length-take {A = ℕ}, length-drop {A = ℕ}) in
    sym (and_true l.good) ∙ ap (λ (b : Bool). l.good && b) (sym (all_of_end _ _ l.place-index h)) ∙ l.invariant
