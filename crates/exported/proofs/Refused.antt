-- A refused exported call changes nothing.
--   refused_unchanged   the statement of specs/Refused.antt
-- Assumes nothing.
use mathlib.Core.Path.{◌≡◌, refl, ap}
use mathlib.Core.Logic.{◌≢◌}
use mathlib.Core.List.{List}
use Prim.Native.Nat.{ℕ}
use lib.IntN.{pos}
use Rattle.scheme.proofs.Refusals.{after_refused}
use Rattle.client.specs.declared.Stage.TheVariants.{Sent, Answered}
use Rattle.reading.specs.Read.{Reading}
use Rattle.reading.specs.Read as read
use Rattle.reading.specs.Given.{Residue}
use Rattle.reading.specs.Given as given
use Rattle.service.specs.Calls.{first_left, reply_left}
use Rattle.finish.specs.Finish.{finish_answer, finish_step}
use Rattle.capi.specs.Ends.{end_at, start_left, part_by}
use Rattle.capi.specs.Lent.{Arrays, arrays, plan_left, open_left, close_left, finish_left, finish_totals}
use Rattle.capi.specs.Meaning.{as_reading, as_residue}
use Rattle.capi.proofs.Laws.{kept_refused}
use Rattle.exported.specs.Runs.{Call, plan_call, open_call, first_call, close_call, reply_call, finish_call, number_of, leaves}
use Rattle.exported.specs.Refused.{RefusedUnchanged}

arrays_same : (c : Call) (a : Arrays) → number_of c a ≢ 0 → leaves c a ≡ a
unfolding number_of leaves plan_left open_left close_left finish_left first_left reply_left
arrays_same (plan_call p) a h = after_refused h _ a
arrays_same (open_call r) a h = after_refused h _ a
arrays_same (first_call k i x) a h = ap (λ (l : List ℕ). arrays a.head l a.reply) (after_refused h _ a.first)
arrays_same close_call a h = after_refused h _ a
arrays_same (reply_call k b x) a h = ap (λ (l : List ℕ). arrays a.head a.first l) (after_refused h _ a.reply)
arrays_same (finish_call o) a h = after_refused h _ a

-- behind a refusal stands 0
no_value : (r : Reading) → (as_reading r).number ≢ 0 → (as_reading r).value ≡ pos 0
unfolding as_reading
no_value (read.Refused n) h = refl
no_value (read.Value z) h = absurd (h refl)

no_element : (r : Residue) → (as_residue r).number ≢ 0 → (as_residue r).element ≡ 0
unfolding as_residue
no_element (given.Refused n) h = refl
no_element (given.Element x) h = absurd (h refl)

pub refused_unchanged : RefusedUnchanged
unfolding number_of finish_totals finish_step finish_answer start_left part_by
refused_unchanged =
    record {
      list_kept = λ p s o h. after_refused h _ o;
      key_kept = λ p k xs o h. after_refused h _ o;
      start_kept = λ p k n r e h. after_refused h _ e;
      first_kept = λ e ks fs o h. (kept_refused (end_at e) Sent e h, after_refused h _ o);
      reply_kept = λ e ks v r h. (kept_refused (end_at e) (Answered v) e h, after_refused h _ 0, after_refused h _ 0);
      arrays_kept = arrays_same;
      value_nought = λ n t h. no_value _ h;
      element_nought = λ p z h. no_element _ h;
      totals_kept = λ a o h. after_refused h _ o;
      aside_nought = λ a h. after_refused h _ 0;
    }
