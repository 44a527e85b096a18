-- `keys::rows::weigh` meets its contract: one number a turn (Weighed.unreduced_more).
use Rattle.std.proofs.Common.{ℕ, ◌%◌, ap}
use Rattle.scheme.specs.Scheme.{q}
use Rattle.scheme.proofs.Modular.{sixteen_sums}
use Rattle.scheme.proofs.Weighed.{unreduced_start, unreduced_more}
use Rattle.keys.proofs.rows.weigh.Goals as goal

pub loop-i-init : goal.loop-i-init
loop-i-init c = unreduced_start _ _ _ _

pub loop-i-preserved : goal.loop-i-preserved
loop-i-preserved c =
    let t = c.times-sum.ensures in
    unreduced_more sixteen_sums _ _ _ c.loop-i.invariant (ap (λ (x : ℕ). x % q) t.0) t.1
