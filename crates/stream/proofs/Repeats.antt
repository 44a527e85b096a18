-- An input with repeats prints the lines that it prints without them.
--   answers_placed                    the answers to an input, by those to its whole records
--   bare_whole, bare_same             what is printed, offsets apart: silence to repeats adds nothing
--   repeats_quiet, example_repeats    the statements of specs/Repeats.antt
-- Assumes nothing.
use Rattle.std.proofs.Common.{◌≡◌, refl, sym, ap, ap₂, ◌∙◌, inl, Bool, cond, List, [], ◌∷◌, ◌++◌, append_assoc, ℕ}
use Rattle.scheme.specs.Scheme as Scheme
use Rattle.scheme.specs.Scheme.{sixteen}
use Rattle.scheme.specs.Service as Service
use Rattle.scheme.specs.Service.{Record, Answer, refused}
use Rattle.scheme.specs.ServicePromise.{OneRun}
use Rattle.scheme.specs.Repeats.{Repeats, over, own, again}
use Rattle.scheme.specs.Repeats as scheme
use Rattle.scheme.proofs.Modular.{sixteen_laws}
use Rattle.scheme.proofs.Pooling.Repeats as records
use Rattle.scheme.proofs.Pooling.Service.{one_run}
use Rattle.service.specs.declared.Service.{Service}
use Rattle.service.specs.View as View
use Rattle.service.specs.Calls as Calls
use Rattle.service.specs.Promise.{told}
use Rattle.lines.specs.Text.{line}
use Rattle.stream.specs.Stream.{record_length, record_at, Item, taken, broken, items_from, items, step, Placed, answers, text, lines}
use Rattle.stream.specs.Promise.{records_of, answers_of, all_taken, whole_of, LinesRight}
use Rattle.stream.specs.Repeats.{placed, bare, RepeatsQuiet, ExampleRepeats}
use Rattle.stream.proofs.Promise.{lines_right}

-- ---- the answers to an input
answers_placed : (s : Service) (l : List Item) → answers s l ≡ placed l (answers_of (answers s (whole_of l)))
unfolding answers placed answers_of whole_of
answers_placed s [] = refl
answers_placed s (taken o r ∷ l) = ap (λ (x : List Placed). record { offset = o; answer = (step s r).answer } ∷ x) (answers_placed (step s r).service l)
answers_placed s (broken o ∷ l) = refl

-- ---- offsets apart: those to the whole records, and refusal 7 where an input breaks off
seven : (all : Bool) → List ℕ
seven all = cond all [] (line 0 (refused 7) ++ [])

bare_whole : (s : Service) (l : List Item) → bare (answers_of (answers s l)) ≡ bare (answers_of (answers s (whole_of l))) ++ seven (all_taken l)
unfolding answers bare answers_of whole_of all_taken seven
bare_whole s [] = refl
bare_whole s (taken o r ∷ l) =
    ap (λ (x : List ℕ). line 0 (step s r).answer ++ x) (bare_whole (step s r).service l) ∙ sym (append_assoc (line 0 (step s r).answer) _ _)
bare_whole s (broken o ∷ l) = refl

bare_same : {h : List Record} {rs : List Record} {l : List Answer} {ms : List Record} {m : List Answer} → Repeats h rs l ms m → bare m ≡ bare l
unfolding bare line
bare_same (over h) = refl
bare_same (own h r a rs l ms m p) = ap (λ (x : List ℕ). line 0 a ++ x) (bare_same p)
bare_same (again h r rs l ms m i p) = bare_same p

pub repeats_quiet : RepeatsQuiet
unfolding RepeatsQuiet scheme.RepeatsQuiet OneRun LinesRight lines
repeats_quiet s o b p c m w h =
    let x = (lines_right s o b w).steps.run in
    let y = (lines_right s p c w).steps.run in
    let e = one_run sixteen sixteen_laws _ _ _ _ _ _ w.well y (records.repeats_quiet sixteen _ _ _ m _ _ h x) in
    record {
      printed = ap text (answers_placed s (items p c) ∙ ap (placed (items p c)) e.0);
      same = λ d.
          bare_whole s (items p c) ∙ ap₂ (λ (l : List Answer) (t : Bool). bare l ++ seven t) e.0 d
          ∙ ap (λ (x : List ℕ). x ++ seven (all_taken (items o b))) (bare_same h)
          ∙ sym (bare_whole s (items o b));
      state = e.1;
    }

pub example_repeats : ExampleRepeats
unfolding ExampleRepeats Scheme.items Scheme.places Scheme.plan_good Scheme.◌then◌ Scheme.unless Scheme.after
    Service.has_plan Service.is_gathering Service.plan_missing Service.second_plan Service.not_gathering Service.element_refusal Service.takes
    View.phase_of View.stored Calls.nothing_first Calls.nothing_reply Calls.new_service Calls.plan_refusal Calls.planned Calls.plan_step
    Calls.open_refusal Calls.opened Calls.open_step Calls.first_refusal Calls.first_left Calls.first_step told
    record_length record_at items_from items step answers records_of answers_of whole_of scheme.accepted_after
example_repeats =
    own _ _ _ _ _ _ _ (own _ _ _ _ _ _ _ (own _ _ _ _ _ _ _
    (again _ _ _ _ _ _ (inl refl) (own _ _ _ _ _ _ _ (again _ _ _ _ _ _ (inl refl) (over _))))))
