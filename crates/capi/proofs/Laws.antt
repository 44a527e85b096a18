-- Laws of the airfield end on a lent array.
--   stage_back                       a stage of the code, from that of the definitions
--   stage_moved                      the array with another stage stands for the end at that stage
--   kept_taken, kept_refused, part_taken, part_refused      what the calls leave, and the part
-- Assumes nothing.
use Rattle.std.proofs.Common.{◌≡◌, refl, ap, ◌∙◌, ◌≢◌, List, ℕ, suc, ◌+◌, arith, length, get_or, set, get_or-set_same, get_or-set_other}
use Rattle.scheme.specs.Scheme as scheme
use Rattle.scheme.specs.Scheme.{reply_start, after}
use Rattle.scheme.proofs.Refusals.{after_taken, after_refused}
use Rattle.scheme.proofs.PlanBounds.{usable_le}
use Rattle.plan.specs.Plan.{plan_of, code_plan, code_use}
use Rattle.client.specs.declared.Stage.{Stage}
use Rattle.client.specs.declared.Stage.TheVariants.{Fresh, Sent, Answered}
use Rattle.client.specs.declared.Client.{Client}
use Rattle.client.specs.Client.{stage_of, stage_of_number, stage_number, at_stage, moved}
use Rattle.client.proofs.Laws as client
use mir.ValLaws.{to_z-of_z}
use Rattle.capi.specs.Ends.{end_length, code_stage, end_at, kept, part_by}

pub stage_back : (g : Stage) → code_stage (stage_of g) ≡ g
unfolding code_stage stage_of
stage_back Fresh = refl
stage_back Sent = refl
stage_back (Answered v) = refl

number_forth : (g : scheme.Stage) → stage_of_number (stage_number g) ≡ g
unfolding stage_of_number stage_number
number_forth scheme.fresh = refl
number_forth scheme.sent = refl
number_forth (scheme.answered v) = let e : v + 2 ≡ suc (suc v) = omega arith in rw e

pub stage_moved : (e : List ℕ) → length e ≡ end_length → (g : Stage) → end_at (set e 5 (stage_number (stage_of g))) ≡ at_stage (end_at e) g
unfolding end_at
stage_moved e l g =
    let n = stage_number (stage_of g) in
    let same : get_or (set e 5 n) 5 0 ≡ n = get_or-set_same e 5 n 0 (omega arith) in
    let other : (i : ℕ) → i ≢ 5 → get_or (set e 5 n) i 0 ≡ get_or e i 0 = λ i h. get_or-set_other e 5 i n 0 h in
    let stage : code_stage (stage_of_number (get_or (set e 5 n) 5 0)) ≡ g =
    ap (λ (m : ℕ). code_stage (stage_of_number m)) same ∙ ap code_stage (number_forth (stage_of g)) ∙ stage_back g in
    λ i.
    record {
      plan = code_plan (other 0 (λ z. omega arith) i) (other 1 (λ z. omega arith) i) (other 2 (λ z. omega arith) i) (other 3 (λ z. omega arith) i);
      user = other 4 (λ z. omega arith) i;
      usage = code_use (other 6 (λ z. omega arith) i);
      round = other 7 (λ z. omega arith) i;
      stage = stage i;
    }

-- ---- what the calls hand back and leave
module _ {n : ℕ} (c : Client) (g : Stage) (e : List ℕ) where
  pub kept_taken : n ≡ 0 → kept (moved n c g) e ≡ set e 5 (stage_number (stage_of g))
  unfolding kept after
  kept_taken z = ap (λ (m : ℕ). kept (moved m c g) e) z

  pub kept_refused : (n ≡ 0 → ⊥) → kept (moved n c g) e ≡ e
  unfolding kept
  kept_refused h = after_refused h _ e

module _ {n : ℕ} (c : Client) (v : ℕ) where
  pub part_taken : n ≡ 0 → part_by n c v ≡ record { number = 0; start = reply_start (plan_of c.plan) c.user v; count = c.plan.blocks }
  unfolding part_by
  part_taken z = λ i.
      record { number = z i; start = after_taken z (reply_start (plan_of c.plan) c.user v) 0 i; count = after_taken z c.plan.blocks 0 i }

  pub part_refused : (n ≡ 0 → ⊥) → part_by n c v ≡ record { number = n; start = 0; count = 0 }
  unfolding part_by
  part_refused h = λ i.
      record { number = n; start = after_refused h (reply_start (plan_of c.plan) c.user v) 0 i; count = after_refused h c.plan.blocks 0 i }

-- ---- what the calls' own proofs are found by
pub ruleset answered = (client.answered, usable_le, kept_taken, kept_refused, part_taken, part_refused)

pub ruleset read_back = (to_z-of_z)
