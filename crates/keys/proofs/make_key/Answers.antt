-- `keys::make_key` meets its contract: past the refusals, the user's masks and behind them its shares fill the buffer (Making.Writing.key_whole).
use Rattle.std.proofs.Common.{◌≡◌, ℕ, List, length, sym, ◌∙◌, ap, arith}
use Rattle.std.proofs.Math.Seq.{length-sets}
use Rattle.scheme.specs.Scheme.{sixteen, key_length, key_refusal, Plan}
use Rattle.scheme.specs.KeyParts.{KeyInput}
use Rattle.scheme.proofs.PlanBounds.{masks_inside}
use Rattle.scheme.proofs.Refusals.{after_taken, after_refused}
use Rattle.scheme.proofs.Making.Writing.{key_accepted, key_whole}
use Rattle.plan.specs.Plan.{plan_of}
use Rattle.plan.proofs.Numbers.{refused_ne0}
use Rattle.keys.proofs.make_key.Goals as goal

-- past the refusals
taken : {p : Plan} {k : ℕ} {xs : List ℕ} {out : ℕ} → 0 ≡ key_refusal sixteen p k xs out → KeyInput p k xs × (out ≡ key_length p k)
taken e = key_accepted sixteen _ _ _ _ (sym e)

pub returns-in_err-check_key-clause-left : goal.returns-in_err-check_key-clause-left
returns-in_err-check_key-clause-left c = sym (after_refused (λ z. refused_ne0 _ (c.in_err-check_key.ensures ∙ z)) _ _)

pub places_of-row-requires : goal.places_of-row-requires
places_of-row-requires c = (taken c.in_ok-check_key.ensures).0.good

pub copy_masks-requires-clause-key_input : goal.copy_masks-requires-clause-key_input
copy_masks-requires-clause-key_input c = (taken c.in_ok-check_key.ensures).0

pub copy_masks-requires-clause-row_value : goal.copy_masks-requires-clause-row_value
copy_masks-requires-clause-row_value c =
    let e = c.places_of-row.ensures in
    (e.0, e.1, omega (arith, e.0, (taken c.in_ok-check_key.ensures).1, masks_inside (plan_of c.args.plan) c.args.user))

pub write_sets-requires-clause-key_input : goal.write_sets-requires-clause-key_input
write_sets-requires-clause-key_input c = (taken c.in_ok-check_key.ensures).0

pub write_sets-requires-clause-row_value : goal.write_sets-requires-clause-row_value
write_sets-requires-clause-row_value c =
    let e = c.places_of-row.ensures in
    let same : length c.copy_masks.new.out ≡ length c.args.out.now = ap length c.copy_masks.ensures ∙ simp length-sets in
    (e.0, e.1, same ∙ (taken c.in_ok-check_key.ensures).1)

pub returns-clause-left : goal.returns-clause-left
returns-clause-left c =
    let e = c.in_ok-check_key.ensures in
    key_whole _ _ _ _ _ _ _ _ c.places_of-row.ensures.0 (taken e).1 c.copy_masks.ensures c.write_sets.ensures
    ∙ sym (after_taken (sym e) _ _)
