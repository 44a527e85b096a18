-- `keys::write_half` meets its contract: what is written so far is the shares for the sets so far (KeyParts.Written). Assumes nothing.
use Rattle.std.proofs.Common.{◌≡◌, ℕ, ◌+◌, ◌*◌, ◌-◌, ◌^◌, ◌≤◌, ◌<◌, min, true, leb, refl, sym, ap₂, ◌∙◌, arith}
use borrow.Author.Tests.{le-leb, lt-leb}
use lib.Count as machine
use Rattle.scheme.specs.Scheme.{sixteen, usable, usable_with, Plan, in_set, noise_start, reply_start, list_length, key_length}
use Rattle.scheme.specs.Good.{Good}
use Rattle.scheme.specs.KeyParts.{half, half_sets}
use Rattle.scheme.proofs.Tests.{and_joined}
use Rattle.scheme.proofs.Sets.{ones_le, usable_split}
use Rattle.scheme.proofs.PlanBounds.{reply_inside, sets_le}
use Rattle.scheme.proofs.Making.Places.{noise_room}
use Rattle.scheme.proofs.Making.Writing.{written_join, written_in, written_pass, written_out, written_none}
use Rattle.plan.specs.Plan.{plan_of}
use Rattle.plan.proofs.Laws.{ones_same}
use Rattle.keys.proofs.write_half.Goals.{then-plan-have+then-holds, then-plan-have+else-holds, else-plan-have}
use Rattle.keys.proofs.write_half.Goals as goal

-- whether a set of the part is usable, by the machine's counts
enough : (p : Plan) (part x : ℕ) → Good p → x < half_sets → part * half_sets + x < 2 ^ p.users
    → usable p (part * half_sets + x) ≡ leb p.threshold (machine.ones part + machine.ones x)
enough p part x g low below =
    let small : part < half_sets = omega (arith, sets_le p g) in
    usable_split p half x part low below g.users_high
    ∙ ap₂ (λ (k n : ℕ). leb p.threshold (k + n)) (sym (ones_same half part small)) (sym (ones_same half x low))

-- the noise of a usable set lies in the list
noise_inside : (p : Plan) (v noise len : ℕ) → usable p v ≡ true → noise ≡ noise_start p v 0 → len ≡ list_length p
    → noise + p.blocks * p.collusion ≤ len
noise_inside p v noise len u n l = omega (arith, n, noise_room p v u, l)

-- a usable set that holds the user has room for its shares
room : (p : Plan) (k v at len : ℕ) → usable p v ≡ true → in_set v k ≡ true → at ≡ reply_start p k v → len ≡ key_length p k
    → at + p.blocks ≤ len
unfolding usable_with
room p k v at len u m e l = omega (arith, e, reply_inside p k v (and_joined u m), l)

pub returns-then-have-plan : goal.returns-then-have-plan
returns-then-have-plan c =
    let a = c.args in
    let r = c.requires in
    let n : ℕ = min half_sets (2 ^ a.plan.users - a.part * half_sets) in
    written_none sixteen (plan_of a.plan) a.user _ r.places.0 r.places.1 a.out.now n (λ x h.
    enough _ a.part x r.key_input.0.good (omega arith) (omega arith)
    ∙ lt-leb _ _ (omega (arith, ones_same half x (omega arith), ones_le half x)))

pub overflow_add-next : goal.overflow_add-next
overflow_add-next c =
    let a = c.args in
    let i = c.loop-x in
    let k = c.requires.key_input.0 in
    let u = enough (plan_of a.plan) a.part i.x k.good (omega arith) (omega arith) ∙ le-leb _ _ c.if-plan-have.true in
    omega (arith, noise_inside _ _ _ _ u i.invariant.noise_is k.long)

pub write_shares-requires-clause-room : goal.write_shares-requires-clause-room
write_shares-requires-clause-room c =
    let a = c.args in
    let i = c.loop-x in
    let k = c.requires.key_input.0 in
    let u = enough (plan_of a.plan) a.part i.x k.good (omega arith) (omega arith) ∙ le-leb _ _ c.if-plan-have.true in (
      noise_inside _ _ _ _ u i.invariant.noise_is k.long,
      room _ _ _ _ _ u (sym c.holds.ensures ∙ c.if-holds.true) i.invariant.at_is (i.auto.out ∙ c.requires.key_input.1),
    )

pub overflow_add-next-then-holds : goal.overflow_add-next-then-holds
overflow_add-next-then-holds c =
    let a = c.args in
    let i = c.loop-x in
    let k = c.requires.key_input.0 in
    let u = enough (plan_of a.plan) a.part i.x k.good (omega arith) (omega arith) ∙ le-leb _ _ c.if-plan-have.true in
    omega (arith, room _ _ _ _ _ u (sym c.holds.ensures ∙ c.if-holds.true) i.invariant.at_is c.requires.key_input.1)

pub loop-x-preserved : goal.loop-x-preserved
loop-x-preserved c =
    let a = c.args in
    let i = c.loop-x in
    let r = c.requires in
    let p = plan_of a.plan in
    let g = i.invariant in
    let below : a.part * half_sets + i.x < 2 ^ a.plan.users = omega arith in
    let u = enough p a.part i.x r.key_input.0.good (omega arith) below in
    let values = r.ready.right (a.part * half_sets + i.x) below _ g.noise_is in
    elim c.if-plan-have.branch [
      | then-plan-have+then-holds w ↦
          rw (w.out-is, w.write_shares.ensures, values, w.next-is)
          (written_join sixteen p a.user _ g refl
          (written_in sixteen p a.user _ g.noise_is g.at_is _ (u ∙ le-leb _ _ w.if-plan-have.true) (sym w.holds.ensures ∙ w.if-holds.true)))
      | then-plan-have+else-holds w ↦
          rw (w.out-is, w.next-is)
          (written_join sixteen p a.user _ g refl
          (written_pass sixteen p a.user _ g.noise_is g.at_is _ (u ∙ le-leb _ _ w.if-plan-have.true) (sym w.holds.ensures ∙ w.if-holds.false)))
      | else-plan-have w ↦
          rw (w.out-is, w.next-is)
          (written_join sixteen p a.user _ g refl (written_out sixteen p a.user _ g.noise_is g.at_is _ (u ∙ lt-leb _ _ w.if-plan-have.false)))
    ]
