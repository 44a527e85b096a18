-- Records that repeat what is held: where document 03 refuses by 13, ours is silent and holds what it held.
--   repeat_same             our answer to a repeat that is taken, and the state that it leads to
--   Compared, compared      document 03's refusal beside ours: they are alike, or the record repeats
-- Assumes nothing.
use Rattle.std.proofs.Common.{◌≡◌, refl, sym, ap, ◌∙◌, Bool, true, false, ◌&&◌, cond, List, ℕ, eqb, eqb-true}
use mathlib.Core.Option.{Option, none, some}
use Rattle.scheme.specs.Scheme.{sixteen}
use Rattle.scheme.specs.Service.{is_held, element_of, with_element, silent, refused, refusal, next_state, answer_of, is_finish}
use Rattle.scheme.proofs.Tests.{holds, and_both}
use Rattle.scheme.proofs.Pooling.Held.{state_same}
use Rattle.scheme.proofs.Pooling.Repeats.{with_same}
use Rattle.document03.specs.Ours.{our_held, our_state, our_record, repeats, answer_in}
use Rattle.document03.specs.Service as S
use Rattle.document03.proofs.State.{held_same, held_value_same, quieted, refusal_same}

-- ---- an element that is held, put in its place again
held_some : (o : Option ℕ) (x : ℕ) → (is_held o && eqb (element_of o) x) ≡ true → o ≡ some x
unfolding is_held element_of
held_some none x h = absurd (holds h)
held_some (some y) x h = ap some (eqb-true y x h)

with_again : (k i x : ℕ) (hs : List S.Held) → (S.held k i hs && eqb (S.held_value k i hs) x) ≡ true
    → (l j : ℕ) → with_element k i x (our_held hs) l j ≡ our_held hs l j
with_again k i x hs h = with_same k i x (our_held hs) (held_some (our_held hs k i) x (rw (← held_same k i hs, ← held_value_same k i hs) h))

-- ---- what is answered, and what is left
pub repeat_same : (r : S.Record) (s : S.State) → repeats r s ≡ true
    → (is_finish (our_record r) ≡ false) × (answer_of (our_record r) (our_state s) ≡ silent) × (next_state (our_record r) (our_state s) ≡ our_state s)
unfolding repeats our_record is_finish answer_of next_state
repeat_same (S.a_plan p) s h = absurd (holds h)
repeat_same (S.open_round r) s h = absurd (holds h)
repeat_same (S.first_element k i x) s h = (refl, refl, state_same (with_again k i x s.firsts h) (λ l j. refl))
repeat_same S.close_round s h = absurd (holds h)
repeat_same (S.reply_element k b x) s h = (refl, refl, state_same (λ l j. refl) (with_again k b x s.replies h))
repeat_same S.finish_round s h = absurd (holds h)

-- ---- refusals
pub data Compared (r : S.Record) (s : S.State) (n : ℕ) : Type 0 where
  alike : answer_in r s (S.refused n) ≡ refused n → refusal sixteen (our_record r) (our_state s) ≡ n → Compared r s n
  repeated : answer_in r s (S.refused n) ≡ silent → refusal sixteen (our_record r) (our_state s) ≡ 0 → repeats r s ≡ true → Compared r s n

pub compared : (r : S.Record) (s : S.State) (n : ℕ) → S.record_refusal r s ≡ n → Compared r s n
unfolding answer_in quieted
compared r s n e = pick (repeats r s && eqb n 13) refl
  where
    ours : refusal sixteen (our_record r) (our_state s) ≡ cond (repeats r s && eqb n 13) 0 n
    ours = sym (refusal_same r s) ∙ ap (quieted (repeats r s)) e

    pick : (b : Bool) → (repeats r s && eqb n 13) ≡ b → Compared r s n
    pick true h = repeated (rw h) (ours ∙ rw h) (and_both _ _ h).0
    pick false h = alike (rw h) (ours ∙ rw h)
