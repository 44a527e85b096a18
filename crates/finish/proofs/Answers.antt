-- What finish hands back, over an arithmetic with its laws.
--   Passed                           the tests before 16 are passed
--   refused_right                    the totals of a refusal
--   answer_right                     an answer and its totals, with the state
--   finish_refuses, finish_kept      a refused finish
--   totalled_right                   past the tests, the answer and the totals are those of the complete replies
-- Assumes nothing.
use Rattle.std.proofs.Common.{Option, Result, Err, ◌≡◌, sym, ap, ◌∙◌, subst, List, true, ℕ, ◌≤◌, replicate, le-leb}
use Rattle.scheme.specs.Limits.{most_users, most_threshold, most_places}
use Rattle.scheme.specs.Scheme.{Arithmetic, plan_good, ones, after}
use Rattle.scheme.specs.Laws.{Laws}
use Rattle.scheme.specs.Service.{not_replying, replied, totals_by}
use Rattle.scheme.proofs.Refusals.{then_taken, unless_held, after_refused}
use Rattle.plan.specs.declared.refusal.Refusal.{Refusal}
use Rattle.plan.specs.Numbers.{number_of, numbered}
use Rattle.plan.specs.Plan.{plan_of}
use Rattle.plan.proofs.Numbers.{refused_ne0}
use Rattle.service.specs.declared.Service.{Service}
use Rattle.service.specs.View.{phase_of, view}
use Rattle.finish.specs.Finish.{choice, finish_refusal, aside_told, finished, finish_refused, finish_answer, finish_step}
use Rattle.finish.specs.Parts.{Totalled, Answered}

-- the tests before 16 are passed
pub record Passed (s : Service) : Type 0 where
  pub replying : not_replying (phase_of s.head.phase) ≡ 0
  pub good : plan_good (plan_of s.head.plan) ≡ true
  pub many : s.head.plan.threshold ≤ ones s.head.plan.users (replied (view s))

module _ (A : Arithmetic) (L : Laws A most_users most_threshold) where
  module _ (s : Service) where
    pub refused_right : (r : Refusal) {out : List ℕ} → number_of r ≡ finish_refusal A L s → out ≡ replicate most_places 0 → Answered A L s (Err r) out
    unfolding finish_answer
    refused_right r e z = record {
      number_right = e;
      aside_right = sym (after_refused (refused_ne0 r) _ _);
      totals_right = z ∙ sym (after_refused (refused_ne0 r) _ _);
    }

    -- the answer goes by the number
    by_number : (n k : ℕ) (l : List ℕ) (t : Service) → k ≡ (finish_answer A L n s).aside → l ≡ (finish_answer A L n s).totals
        → t ≡ (finish_answer A L n s).service → n ≡ finish_refusal A L s
        → record { number = n; aside = k; totals = l; service = t } ≡ finish_step A L s
    unfolding finish_step finish_answer
    by_number n k l t a b e h =
        (λ i. record { number = n; aside = a i; totals = b i; service = e i }) ∙ ap (λ (m : ℕ). finish_answer A L m s) h

    pub answer_right : (t : Service) {told : Result (Option ℕ) Refusal} {out : List ℕ} → Answered A L s told out
        → t ≡ after (numbered told) (finished s.head) s
        → record { number = numbered told; aside = aside_told told; totals = out; service = t } ≡ finish_step A L s
    unfolding finish_answer
    answer_right t {told} {out} a e = by_number (numbered told) (aside_told told) out t a.aside_right a.totals_right e a.number_right

    pub finish_refuses : {n : ℕ} → (n ≡ 0 → ⊥) → finish_refusal A L s ≡ n → finish_refused n s ≡ finish_step A L s
    unfolding finish_answer
    finish_refuses {n} h e =
        by_number n 0 (replicate most_places 0) s (sym (after_refused h _ _)) (sym (after_refused h _ _)) (sym (after_refused h _ _)) (sym e)

    pub finish_kept : ((finish_step A L s).number ≡ 0 → ⊥) → (finish_step A L s).service ≡ s
    unfolding finish_step finish_answer
    finish_kept h = after_refused h _ _

    module _ (r : Passed s) where
      pub totalled_right : (v : ℕ) (told : Result (Option ℕ) Refusal) (out : List ℕ) → v ≡ replied (view s)
          → Totalled A L (plan_of s.head.plan) v s.head.survivors s.first s.reply told out → Answered A L s told out
      unfolding totals_by choice view finish_answer finish_refusal
      totalled_right v told out e h =
          let t = subst (λ (w : ℕ). Totalled A L (plan_of s.head.plan) w s.head.survivors s.first s.reply told out) e h in
          let past = then_taken r.replying _ ∙ then_taken (unless_held r.good 15) _ ∙ then_taken (unless_held (le-leb _ _ r.many) 15) _ in
          record { number_right = t.number_right ∙ sym past; aside_right = t.aside_right; totals_right = t.totals_right }
