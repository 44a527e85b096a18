-- `pool::wait` meets its contract: each thing that a read brings.
use Rattle.std.proofs.Common.{◌≡◌, refl, ap, ◌∙◌, arith, Ok, Err}
use Rattle.pool.specs.declared.Read.TheVariants.{Bytes, End, Again}
use Rattle.pool.specs.declared.Next.TheVariants.{Await, Over}
use Rattle.pool.specs.declared.Why.TheVariants.{ReadFailed}
use Rattle.pool.specs.Turns.{step_by}
use Rattle.pool.specs.Pool.{brought}
use Rattle.pool.proofs.Leaving.{silent_leaves, none_left, some_left, step_as, bytes_fed}
use Rattle.pool.proofs.wait.Goals as goal

pub returns-in-Ok-Bytes : goal.returns-in-Ok-Bytes
returns-in-Ok-Bytes c =
    let l = c.args.live.now in let r = c.in-Ok-Bytes in let f : r.field-0 ≡ Bytes r.n = rw r.is at r.field-0-is in
    let e = r.is ∙ ap Ok f in
    step_as _ l _ Await (Ok (Bytes _)) refl e (bytes_fed _ l _ _ (c.requires.inside _ e).0 c.take.ensures)

pub returns-then-live-eq0 : goal.returns-then-live-eq0
unfolding step_by brought
returns-then-live-eq0 c =
    let l = c.args.live.now in let r = c.in-Ok-End in let f : r.field-0 ≡ End = rw r.is at r.field-0-is in
    step_as _ l _ Await (Ok End) refl (r.is ∙ ap Ok f) (none_left l _ c.requires.have (omega arith) c.silent.ensures)

pub returns-else-live-eq0 : goal.returns-else-live-eq0
unfolding step_by brought
returns-else-live-eq0 c =
    let l = c.args.live.now in let r = c.in-Ok-End in let f : r.field-0 ≡ End = rw r.is at r.field-0-is in
    step_as _ l _ Await (Ok End) refl (r.is ∙ ap Ok f) (some_left l _ c.requires.have c.if-live-eq0.false c.silent-else-live-eq0.ensures)

pub returns-in-Ok-Again : goal.returns-in-Ok-Again
unfolding step_by brought
returns-in-Ok-Again c =
    let l = c.args.live.now in let r = c.in-Ok-Again in let f : r.field-0 ≡ Again = rw r.is at r.field-0-is in
    step_as _ l _ Await (Ok Again) refl (r.is ∙ ap Ok f) (silent_leaves l _ c.requires.have Await c.silent-in-Ok-Again.ensures)

pub returns-in-Err : goal.returns-in-Err
unfolding step_by brought
returns-in-Err c =
    let l = c.args.live.now in
    step_as _ l _ Await (Err _) refl c.in-Err.is (silent_leaves l _ c.requires.have (Over (ReadFailed _)) c.silent-in-Err.ensures)
