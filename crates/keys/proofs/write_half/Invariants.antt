-- `keys::write_half` meets its contract: what is written so far is the shares for the sets so far (KeyParts.Written). Assumes nothing.
use Rattle.std.proofs.Common.{◌*◌}
use Rattle.scheme.specs.Scheme.{sixteen}
use Rattle.scheme.specs.KeyParts.{half_sets, Written}
use Rattle.plan.specs.Plan.{plan_of}
use Rattle.keys.proofs.write_half.Given as goal

abbrev pub invariant-loop-x : goal.invariant-loop-x
invariant-loop-x l =
    Written sixteen (plan_of l.plan) l.user l.source.list.now (l.part * half_sets) l.initial.out l.out l.next.noise l.next.at l.x
