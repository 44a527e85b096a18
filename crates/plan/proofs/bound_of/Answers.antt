-- `plan::bound_of` meets its contract: the quotient is no larger than the reach, so it fits in 16 bits. Assumes nothing.
use Rattle.std.proofs.Common.{ap, ℕ, ◌/◌, div-le_self, arith}
use Rattle.scheme.specs.Scheme.{figure_bound}
use Rattle.plan.proofs.bound_of.Goals as goal

pub returns : goal.returns
unfolding figure_bound
returns c =
    let k = c.args.p.users in
    (ap (λ (n : ℕ). n / k) c.reach_of.ensures.0, omega (arith, div-le_self c.reach_of.result k))
