-- That the lines of the record stream are those of document 01's service.
--   step_right, answers_run, lines_right, cut_free, fed_right, opens_as_new, seven_ends     the statements of specs/Promise.antt
-- Assumes nothing.
use Rattle.std.proofs.Common.{◌≡◌, refl, sym, ap, subst, Bool, true, false, List, [], ◌∷◌, ◌++◌, append_assoc, ℕ, zero, suc, ◌+◌, ◌-◌, ◌^◌, ◌≤◌, ◌<◌, arith, length, take, drop, take-append-drop, length-take-le, eq-eqb, ne_eqb, ltb-true, lt-ltb, le-leb, leb-false}
use native.Mathlib.Decide.{dec_le, ℕ_discrete}
use borrow.Author.Tests.{lt-leb}
use Rattle.scheme.specs.Scheme.{sixteen}
use Rattle.scheme.specs.Service.{plan_record, open_record, first_record, close_record, reply_record, finish_record, refused, done, more}
use Rattle.scheme.proofs.Tests.{holds, is_false}
use Rattle.solve.specs.Solve.{laws16}
use Rattle.plan.specs.Plan.{plan_from}
use Rattle.service.specs.declared.Service.{Service}
use Rattle.service.specs.View.{view, Formed}
use Rattle.service.specs.Promise.{PlanSteps, OpenSteps, FirstSteps, ReplySteps, CloseSteps}
use Rattle.service.specs.Promise as service
use Rattle.service.proofs.Steps.{plan_steps, open_steps, first_steps, reply_steps, close_steps}
use Rattle.service.proofs.Steps as calls
use Rattle.finish.specs.Promise.{FinishSteps}
use Rattle.finish.proofs.Steps.{finish_steps}
use Rattle.lines.specs.Text.{line}
use Rattle.lines.specs.Put.{room}
use Rattle.stream.specs.declared.Stop.{Stop}
use Rattle.stream.specs.declared.Stop.TheVariants.{Far}
use Rattle.stream.specs.Stream.{record_length, length_at, record_at, Item, taken, broken, items, step, answers, text, lines, ready_at, stop_at, halt, fed_from, fed}
use Rattle.stream.specs.Promise.{StepRight, records_of, answers_of, all_taken, last_state, AnswersRun, whole_of, ending, LinesRight, CutFree, Stops, FedSays, FedRight, OpensAsNew, breaks_off, SevenEnds}
use Rattle.stream.proofs.Records.{items_append, text_append, lines_broken}
use Rattle.stream.proofs.Turns.{line_short}
use Rattle.stream.proofs.Feeding.{Ready, ready, said, behind, Along, along_start, along_more, fed_far, fed_within, fed_more, fed_end}

pub step_right : StepRight
unfolding StepRight step PlanSteps OpenSteps FirstSteps ReplySteps CloseSteps FinishSteps
step_right s (plan_record p) w = plan_steps sixteen s (plan_from p) w
step_right s (open_record r) w = open_steps sixteen s r w
step_right s (first_record k i x) w = first_steps sixteen s k i x w
step_right s close_record w = close_steps sixteen s w
step_right s (reply_record k b x) w = reply_steps sixteen s k b x w
step_right s finish_record w = finish_steps sixteen laws16 s w

pub answers_run : AnswersRun
unfolding AnswersRun StepRight records_of answers_of all_taken last_state answers
answers_run s [] w e = record { run = done (view s); formed = w }
answers_run s (taken o r ∷ l) w e =
    let h = step_right s r w in
    let t = answers_run (step s r).service l h.formed e in
    record { run = more r _ _ _ _ _ _ h.step t.run; formed = t.formed }
answers_run s (broken o ∷ l) w e = absurd (holds e)

-- ---- any input
whole_taken : (l : List Item) → all_taken (whole_of l) ≡ true
unfolding all_taken whole_of
whole_taken [] = refl
whole_taken (taken o r ∷ l) = whole_taken l
whole_taken (broken o ∷ l) = refl

whole_then : (s : Service) (l : List Item) → text (answers s l) ≡ text (answers s (whole_of l)) ++ text (ending l)
unfolding whole_of ending answers text
whole_then s [] = refl
whole_then s (taken o r ∷ l) = rw (whole_then (step s r).service l, append_assoc)
whole_then s (broken o ∷ l) = refl

pub lines_right : LinesRight
unfolding LinesRight AnswersRun lines
lines_right s o b w = record { steps = answers_run s _ w (whole_taken (items o b)); said = whole_then s (items o b) }

-- ---- the input cut in two after whole records
pub cut_free : CutFree
unfolding CutFree lines
cut_free s o a c e = rw (items_append o a c e) (text_append s (items o a) (items (o + length a) c) e)

-- ---- a chunk at a time
stops : (b : List ℕ) (o n at w : ℕ) → at ≤ length b → ready_at b at (n - w) ≡ false → Stops (stop_at b at) b o n at w
unfolding ready_at stop_at Stops
stops b o n at w h e = by (dec_le (length b) at) (ℕ_discrete (length_at b at) 0) (dec_le (length_at b at) (length b - at))
  where
    by : Dec (length b ≤ at) → Dec (length_at b at ≡ 0) → Dec (length_at b at ≤ length b - at) → Stops (stop_at b at) b o n at w
    by (yes l) z p = rw (le-leb (length b) at l) (omega arith)
    by (no l) (yes z) p = rw (lt-leb (length b) at (omega arith), eq-eqb (length_at b at) 0 z) (omega arith, z)
    by (no l) (no z) (no p) =
        rw (lt-leb (length b) at (omega arith), ne_eqb (length_at b at) 0 z, lt-leb (length_at b at) (length b - at) (omega arith))
        (omega arith, omega arith)
    by (no l) (no z) (yes p) =
        let i : at < length b = omega arith in
        rw (lt-leb (length b) at i, ne_eqb (length_at b at) 0 z, le-leb (length_at b at) (length b - at) p)
        (i, leb-false room (n - w) (rw (lt-ltb at (length b) i, ne_eqb (length_at b at) 0 z, le-leb (length_at b at) (length b - at) p) at e))

module _ (s : Service) (b : List ℕ) (o n : ℕ) where
  halted : (t : Service) (at w : ℕ) (e : Stop) → Along s b o t at w → w ≤ n → Stops e b o n at w → FedSays s b o n (halt t at w e)
  unfolding CutFree AnswersRun
  halted t at w e g h y =
      record {
        inside = g.inside;
        fits = h;
        whole = g.whole;
        state = g.state;
        formed = λ f. subst (Formed sixteen) (sym g.state) (answers_run s (items o (take at b)) f g.whole).formed;
        written = g.written;
        same = λ rest.
            rw (← append_assoc (take at b) (drop at b) rest, take-append-drop at b, ← g.state, length-take-le at b g.inside)
            at (cut_free s o (take at b) (drop at b ++ rest) g.whole);
        why = y;
      }

  says_end : (m : ℕ) (t : Service) (at w : ℕ) → Along s b o t at w → w ≤ n → ready_at b at (n - w) ≡ false → FedSays s b o n (fed_from m t b o n at w)
  says_end m t at w g h e = rw (fed_end m t b o n at w e) (halted t at w (stop_at b at) g h (stops b o n at w g.inside e))

  says_from : (m : ℕ) (t : Service) (at w : ℕ) → Along s b o t at w → w ≤ n → length b ≤ at + m → FedSays s b o n (fed_from m t b o n at w)
  says_from zero t at w g h l = says_end zero t at w g h (is_false _ (λ e. omega (arith, (ready b at (n - w) e).whole.inside)))
  says_from (suc m) t at w g h l =
      by (ready_at b at (n - w)) refl
      (λ r. says_from m _ _ _ (along_more g r) (omega (arith, r.fits, line_short (o + at) t (record_at b at))) (omega (arith, r.known)))
    where
      by : (x : Bool) → ready_at b at (n - w) ≡ x
          → (Ready b at (n - w) → FedSays s b o n (fed_from m (behind t b at) b o n (at + length_at b at) (w + length (said t b o at))))
          → FedSays s b o n (fed_from (suc m) t b o n at w)
      by false e ih = says_end (suc m) t at w g h e
      by true e ih = rw (fed_more m t b o n at w e) (ih (ready b at (n - w) e))

pub fed_right : FedRight
unfolding FedRight Stops
fed_right s b o n = pick (dec_le (2 ^ 64) (o + length b))
  where
    pick : Dec (2 ^ 64 ≤ o + length b) → FedSays s b o n (fed s b o n)
    pick (yes h) = rw (← fed_far s b o n h) (halted s b o n s 0 0 Far (along_start s b o) (omega arith) (h, refl))
    pick (no h) = rw (← fed_within s b o n (omega arith)) (says_from s b o n (length b) s 0 0 (along_start s b o) (omega arith) (omega arith))

-- ---- a new round; refusal 7
pub opens_as_new : OpensAsNew
unfolding OpensAsNew service.OpensAsNew
opens_as_new s r o b w e = ap (λ t. lines t.service o b) (calls.opens_as_new sixteen s r w e)

broken_line : (s : Service) (o : ℕ) (c : List ℕ) → breaks_off c ≡ true → lines s o c ≡ line o (refused 7)
unfolding breaks_off
broken_line s o [] h = absurd (holds h)
broken_line s o (k ∷ c) h =
    lines_broken s o (k ∷ c) (omega arith)
    (λ ne. ltb-true (length (k ∷ c)) (record_length k) (rw (ne_eqb (record_length k) 0 ne) at h))

pub seven_ends : SevenEnds
unfolding SevenEnds CutFree
seven_ends s o a c e h = rw (cut_free s o a c e, broken_line (last_state s (items o a)) (o + length a) c h)
