-- `service::complete_set` meets its contract, by the laws of `Completing`.
-- Assumes nothing.
use Rattle.std.proofs.Common.{◌≡◌, ◌+◌, refl, sym, ◌∙◌, arith, true, false, add-zero}
use Rattle.std.proofs.lemmas.Grind.{one_shifted}
use Rattle.scheme.specs.Service.{complete_set}
use Rattle.service.proofs.Complete.{all_held, look_row, completing_end, completing_more}
use Rattle.service.proofs.complete_set.Goals as goal
use Rattle.service.proofs.complete_set.Goals.{then-row_held, else-row_held}

pub loop-k-preserved : goal.loop-k-preserved
loop-k-preserved c =
    let l = c.loop-k in
    let h = c.loop-k-test.true in
    let r : c.row_held.result ≡ all_held c.args.held.now c.args.stride c.args.each (l.k + 1) = c.row_held.ensures ∙ look_row _ _ _ _ (omega arith) c.requires.2 in
    elim c.if-row_held.branch [
      | then-row_held w ↦ rw (w.set-is, (one_shifted l.k 4294967295 refl (omega arith)).0) (completing_more _ _ l.invariant h true (sym w.if-row_held.true ∙ r))
      | else-row_held w ↦ rw w.set-is (simp add-zero at (completing_more _ _ l.invariant h false (sym w.if-row_held.false ∙ r)))
    ]

pub returns : goal.returns
unfolding complete_set
returns c = completing_end _ _ c.loop-k.invariant c.loop-k-test.false
