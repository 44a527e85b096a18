-- A record that the head alone refuses: its number is the answer, and the state stays.
--   early_says     so it is of every record and state
--   turn_early     one such record, with its line
--   finish_early   a finish that the phase refuses, with its line
-- Assumes nothing.
use Rattle.std.proofs.Common.{◌≡◌, ◌≢◌, refl, sym, ap, ◌∙◌, List, ℕ}
use Rattle.scheme.specs.Scheme.{sixteen}
use Rattle.scheme.specs.Service.{Record, plan_record, open_record, first_record, close_record, reply_record, finish_record, refused, not_replying}
use Rattle.scheme.proofs.Refusals.{then_refused, then_stops, after_refused}
use Rattle.solve.specs.Solve.{laws16}
use Rattle.plan.specs.Numbers.{number_of}
use Rattle.plan.specs.declared.refusal.Refusal.{Refusal}
use Rattle.plan.proofs.Numbers.{refused_ne0}
use Rattle.service.specs.declared.Service.{Service}
use Rattle.service.specs.View.{phase_of}
use Rattle.service.specs.Calls.{Closed, plan_step, plan_refusal, open_step, close_refusal}
use Rattle.service.proofs.Refused.{close_refused}
use Rattle.finish.specs.Finish.{Finished, finish_refusal}
use Rattle.finish.proofs.Answers.{finish_refuses}
use Rattle.lines.specs.Text.{line}
use Rattle.lines.specs.Put.{Put}
use Rattle.lines.proofs.Lines.{put_as}
use Rattle.stream.specs.Stream.{step, Turns}
use Rattle.stream.specs.Early.{early_refusal}
use Rattle.stream.proofs.Turns.{told_refused}

pub early_says : (s : Service) (r : Record) → early_refusal s.head r ≢ 0
    → ((step s r).answer ≡ refused (early_refusal s.head r)) × ((step s r).service ≡ s)
unfolding early_refusal step plan_step plan_refusal open_step close_refusal finish_refusal
early_says s (plan_record p) h =
    let e = then_refused h _ in
    (told_refused (λ z. h (sym e ∙ z)) _ ∙ ap refused e, after_refused (λ z. h (sym e ∙ z)) _ s)
early_says s (open_record r) h = (told_refused h _, after_refused h _ s)
early_says s (first_record k i x) h = absurd (h refl)
early_says s close_record h =
    let e = close_refused s h (then_stops refl h _) in
    let n = ap (λ (c : Closed). c.number) e in
    (told_refused (λ z. h (n ∙ z)) _ ∙ ap refused (sym n), sym (ap (λ (c : Closed). c.service) e))
early_says s (reply_record k b x) h = absurd (h refl)
early_says s finish_record h =
    let e = finish_refuses sixteen laws16 s h (sym (then_stops refl h _)) in
    let n = ap (λ (f : Finished). f.number) e in
    (told_refused (λ z. h (n ∙ z)) _ ∙ ap refused (sym n), sym (ap (λ (f : Finished). f.service) e))

pub turn_early : {s : Service} {r : Record} {o n : ℕ} {out out' : List ℕ} {wrote next : ℕ} → n ≡ early_refusal s.head r → n ≢ 0
    → Put out out' wrote next (line o (refused n)) → Turns r o s s out out' wrote next
turn_early {s} {r} {o} e h p =
    let says = early_says s r (λ z. h (e ∙ z)) in
    record { state = sym says.1; put = put_as p (ap (line o) (ap refused e ∙ sym says.0)) }

pub finish_early : (s : Service) (e : Refusal) → number_of e ≡ not_replying (phase_of s.head.phase)
    → {o : ℕ} {out out' : List ℕ} {wrote next : ℕ} → Put out out' wrote next (line o (refused (number_of e)))
    → Turns finish_record o s s out out' wrote next
unfolding early_refusal
finish_early s e phase p = turn_early {s = s} {r = finish_record} phase (refused_ne0 e) p
