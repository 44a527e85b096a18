-- Laws of the service on lent arrays.
--   phase_replying                     a number from 3 on
--   taken_right, kept_right            what a call answers and leaves: taken, and refused
--   same_head                          arrays with equal heads
--   close_kept                         a refused close keeps the state
-- Assumes nothing.
use Rattle.std.proofs.Common.{◌≡◌, refl, sym, ap, ◌∙◌, List, ℕ, zero, suc}
use Rattle.scheme.specs.Scheme.{after}
use Rattle.scheme.proofs.Refusals.{after_taken, after_refused}
use Rattle.plan.proofs.Numbers.{refused_ne0}
use Rattle.finish.proofs.Answers.{finish_kept}
use Rattle.service.specs.declared.Phase.TheVariants.{Replying}
use Rattle.service.specs.declared.Head.{Head}
use Rattle.service.specs.declared.Service.{Service}
use Rattle.service.specs.Calls.{lent, close_step}
use Rattle.capi.specs.Lent.{Arrays, arrays, state, arrays_of, phase_at}

pub phase_replying : (n : ℕ) → (n ≡ 0 → ⊥) → (n ≡ 1 → ⊥) → (n ≡ 2 → ⊥) → phase_at n ≡ Replying
unfolding phase_at
phase_replying zero a b c = absurd (a refl)
phase_replying (suc zero) a b c = absurd (b refl)
phase_replying (suc (suc zero)) a b c = absurd (c refl)
phase_replying (suc (suc (suc n))) a b c = refl

-- the number m and the state t that a call hands back, and the arrays b at exit
module _ (a : Arrays) {n : ℕ} (s : Service) {m : ℕ} (e : m ≡ n) where
  pub taken_right : {t : Service} {b : Arrays} → m ≡ 0 → t ≡ s → b ≡ arrays_of t → (0 ≡ n) × (b ≡ after n (arrays_of s) a)
  taken_right z f g = let h = sym z ∙ e in (h, g ∙ ap arrays_of f ∙ sym (after_taken (sym h) _ _))

  pub kept_right : {h : Head} {xs ys : List ℕ} → (m ≡ 0 → ⊥) → lent h xs ys ≡ s → s ≡ state a
      → (m ≡ n) × (arrays a.head xs ys ≡ after n (arrays_of s) a)
  kept_right h f k =
      (e, (λ i. arrays a.head ((f ∙ k) i).first ((f ∙ k) i).reply) ∙ sym (after_refused (λ z. h (e ∙ z)) _ a))

pub same_head : {g h xs ys : List ℕ} → g ≡ h → arrays g xs ys ≡ arrays h xs ys
same_head e = cc

pub close_kept : (s : Service) → ((close_step s).number ≡ 0 → ⊥) → (close_step s).service ≡ s
unfolding close_step
close_kept s h = after_refused h _ s

-- ---- what the calls' own proofs are found by
pub ruleset answered = (refused_ne0, after_taken, after_refused, taken_right, kept_right, same_head, close_kept, finish_kept)
