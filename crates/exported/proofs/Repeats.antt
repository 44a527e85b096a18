-- Repeats among the exported calls.
--   held_right, repeats_quiet     the statements of specs/Repeats.antt
-- Assumes nothing.
use lib.Dec.{lit<}
use Rattle.scheme.specs.Scheme.{sixteen}
use Rattle.scheme.specs.ServicePromise.{OneRun}
use Rattle.scheme.specs.Repeats as scheme
use Rattle.scheme.proofs.Modular.{sixteen_laws}
use Rattle.scheme.proofs.Pooling.Repeats as records
use Rattle.scheme.proofs.Pooling.Service.{one_run}
use Rattle.scheme.proofs.Pooling.Well.{new_well}
use Rattle.service.specs.Promise.{FirstHeld, ReplyHeld}
use Rattle.service.proofs.Held.{first_held, reply_held}
use Rattle.capi.specs.Lent.{Arrays, head_at}
use Rattle.exported.specs.Runs.{number_of, leaves, RunsRight}
use Rattle.exported.specs.Repeats.{HeldRight, RepeatsQuiet}
use Rattle.exported.proofs.Runs.{runs_right}

pub held_right : (a : Arrays) → HeldRight a
unfolding number_of leaves FirstHeld ReplyHeld
held_right a = record { first = first_held sixteen (head_at a.head); reply = reply_held sixteen (head_at a.head) }

pub repeats_quiet : RepeatsQuiet
unfolding RepeatsQuiet scheme.RepeatsQuiet OneRun RunsRight
repeats_quiet cs ds m h =
    one_run sixteen sixteen_laws _ _ _ _ _ _ (new_well sixteen (lit< tt)) (runs_right ds).runs
    (records.repeats_quiet sixteen _ _ _ m _ _ h (runs_right cs).runs)
