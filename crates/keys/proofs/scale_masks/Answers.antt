-- `keys::scale_masks` meets its contract. The loop's invariant: the first i products are written. Assumes nothing.
use Rattle.std.proofs.Common.{ℕ, ◌+◌, get_or, subst, zero-add}
use Rattle.std.proofs.Math.ListN.{set}
use Rattle.scheme.specs.Scheme.{sixteen}
use Rattle.scheme.proofs.Padded.{Setting, setting_more}
use Rattle.keys.proofs.scale_masks.Goals as goal

pub loop-i-preserved : goal.loop-i-preserved
loop-i-preserved c = λ a s.
    let i = c.loop-i in
    let z = c.args in
    let f : ℕ → ℕ = λ j. sixteen.add 0 (sixteen.multiply a (get_or z.list.now j 0)) in
    subst (λ (j : ℕ). Setting f z.n 0 z.out.now (i.i + 1) (set i.out j c.add_scaled.result)) (zero-add i.i)
    (setting_more f z.n 0 z.out.now i.i c.add_scaled.result i.out c.loop-i-test.true (c.add_scaled.ensures.right a s) (i.invariant a s))
