-- Requests for other rounds than an end's own.
--   other_round     a request for another round hands out nothing, and leaves the end as it is
--   other_rounds    the statement of specs/History.antt, call by call
-- Assumes nothing.
use Rattle.std.proofs.Common.{◌≡◌, refl, ap, ◌∙◌, ◌≢◌, List, [], ◌∷◌, ℕ, zero, suc, eq-eqb, ne_eqb}
use native.Mathlib.Decide.{ℕ_discrete}
use Rattle.scheme.specs.Scheme.{Arithmetic, after}
use Rattle.scheme.proofs.Refusals.{after_refused}
use Rattle.client.specs.declared.Stage.{Stage}
use Rattle.client.specs.declared.Client.{Client}
use Rattle.client.specs.Client.{at_stage, answer_refusal, part_of}
use Rattle.client.specs.History.{Call, send, ask, Given, given, left, history, behind, own_calls, own_given, OtherRound, OtherRounds}
use Rattle.client.proofs.Laws.{reply_own}

pub other_round : (A : Arithmetic) → OtherRound A
unfolding OtherRound part_of
other_round A c ks v r h =
    let n : answer_refusal A c ks v r ≢ 0 = λ z. h (reply_own _ _ _ _ _ _ _ _ z) in
    (n, after_refused n _ c, after_refused n _ _)

-- no call changes an end's round
round_after : (n : ℕ) (c : Client) (g : Stage) → (after n (at_stage c g) c).round ≡ c.round
unfolding after
round_after zero c g = refl
round_after (suc n) c g = refl

module _ (A : Arithmetic) (ks fs : List ℕ) where
  round_left : (e : Call) (c : Client) → (left A ks fs e c).round ≡ c.round
  unfolding left
  round_left (send o) c = round_after _ c _
  round_left (ask v r) c = round_after _ c _

  stays : (c : Client) (v r : ℕ) → r ≢ c.round → left A ks fs (ask v r) c ≡ c
  unfolding left OtherRound
  stays c v r h = (other_round A c ks v r h).1

  others : (own : ℕ) (es : List Call) (c : Client) → c.round ≡ own
      → (behind A ks fs es c ≡ behind A ks fs (own_calls own es) c) × (own_given own es (history A ks fs es c) ≡ history A ks fs (own_calls own es) c)
  unfolding behind history own_calls own_given
  others own [] c e = (refl, refl)
  others own (send o ∷ es) c e =
      let s = others own es (left A ks fs (send o) c) (round_left (send o) c ∙ e) in
      (s.0, ap (λ (gs : List Given). given A ks fs (send o) c ∷ gs) s.1)
  others own (ask v r ∷ es) c e = elim (ℕ_discrete r own) [
    | yes h ↦
        let s = others own es (left A ks fs (ask v r) c) (round_left (ask v r) c ∙ e) in
        rw (eq-eqb _ _ h) (s.0, ap (λ (gs : List Given). given A ks fs (ask v r) c ∷ gs) s.1)
    | no h ↦
        let s = others own es c e in
        rw (ne_eqb _ _ h, stays c v r (λ z. h (z ∙ e))) s
  ]

pub other_rounds : (A : Arithmetic) → OtherRounds A
unfolding OtherRounds
other_rounds A c ks fs es = others A ks fs c.round es c refl
