-- `keys::write_sets` meets its contract: what is written so far is the shares for the sets so far (KeyParts.Written). Assumes nothing.
use Rattle.std.proofs.Common.{◌*◌, ◌^◌, min}
use Rattle.scheme.specs.Scheme.{sixteen}
use Rattle.scheme.specs.KeyParts.{half_sets, Written}
use Rattle.plan.specs.Plan.{plan_of}
use Rattle.keys.proofs.write_sets.Given as goal

abbrev pub invariant-loop-part : goal.invariant-loop-part
invariant-loop-part l =
    Written sixteen (plan_of l.plan) l.user l.list 0 l.initial.out l.out l.next.noise l.next.at (min (l.part * half_sets) (2 ^ l.plan.users))
