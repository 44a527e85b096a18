-- "The state and every lent buffer stay as before the call", of the exported calls, whatever the lent memory holds.
--   RefusedUnchanged   of the list from bytes, key maker, airfield end and service; reader and way in are lent nothing, and hand out 0;
--                       finish sets no user aside
-- Assumes nothing: these are definitions.
use Rattle.std.specs.Prelude.{◌≡◌, ◌≢◌, List, ℕ, ℤ, pos, length}
use Rattle.scheme.specs.Scheme.{sixteen, key_refusal, key_left}
use Rattle.scheme.specs.Drawn.{list_refusal, list_left}
use Rattle.plan.specs.declared.Plan.{Plan}
use Rattle.plan.specs.Plan.{plan_of, code_use}
use Rattle.client.specs.Client.{begun, first_answer, message_left, reply_answer}
use Rattle.capi.specs.Ends.{end_at, start_left, kept, part_answer}
use Rattle.capi.specs.Lent.{Arrays, finish_totals}
use Rattle.capi.specs.Meaning.{total_read, residue_given}
use Rattle.exported.specs.Runs.{Call, finish_call, finish_hands, number_of, leaves}

-- the list; the key's buffer; the end's array; array and buffer; array, and no part; the service's arrays; no value, no element; the
-- buffer for totals, and no user set aside
pub record RefusedUnchanged : Type 0 where
  pub list_kept : (p : Plan) (s o : List ℕ) → list_refusal sixteen (plan_of p) s (length o) ≢ 0 → list_left sixteen (plan_of p) s o ≡ o
  pub key_kept : (p : Plan) (k : ℕ) (xs o : List ℕ) → key_refusal sixteen (plan_of p) k xs (length o) ≢ 0 →
      key_left sixteen (plan_of p) k xs o ≡ o
  pub start_kept : (p : Plan) (k n r : ℕ) (e : List ℕ) → (begun p k (code_use n) r).number ≢ 0 → start_left p k n r e ≡ e
  pub first_kept : (e ks fs o : List ℕ) → let a = first_answer sixteen (end_at e) ks fs (length o) in a.number ≢ 0 →
      (kept a e ≡ e) × (message_left sixteen (end_at e) ks fs o ≡ o)
  pub reply_kept : (e ks : List ℕ) (v r : ℕ) → let p = part_answer (end_at e) ks v r in p.number ≢ 0 →
      (kept (reply_answer sixteen (end_at e) ks v r) e ≡ e) × (p.start ≡ 0) × (p.count ≡ 0)
  pub arrays_kept : (c : Call) (a : Arrays) → number_of c a ≢ 0 → leaves c a ≡ a
  pub value_nought : (n t : ℕ) → (total_read n t).number ≢ 0 → (total_read n t).value ≡ pos 0
  pub element_nought : (p : Plan) (z : ℤ) → (residue_given (plan_of p) z).number ≢ 0 → (residue_given (plan_of p) z).element ≡ 0
  pub totals_kept : (a : Arrays) (o : List ℕ) → number_of (finish_call o) a ≢ 0 → finish_totals a o ≡ o
  pub aside_nought : (a : Arrays) → (finish_hands a).number ≢ 0 → (finish_hands a).aside ≡ 0
