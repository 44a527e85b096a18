-- What an element call does where an element is held.
--   put_same                      an element put where it stands
--   first_tested, reply_tested    the refusals: those before 13, and then 13 where another element is held
--   first_held, reply_held        the statements of specs/Promise.antt
-- Assumes nothing.
use Rattle.std.proofs.Common.{◌≡◌, refl, sym, ap, ◌∙◌, ◌≢◌, true, List, ℕ, zero, suc, arith, get_or, set}
use mathlib.Core.Option.{some}
use lib.Seq.{set-get_or}
use Rattle.scheme.specs.Limits.{most_blocks, most_places, firsts, cells}
use Rattle.scheme.specs.Scheme.{Arithmetic, ◌then◌, unless, after}
use Rattle.scheme.specs.Service.{plan_missing, not_gathering, not_replying, is_held, element_of, takes, element_refusal}
use Rattle.scheme.proofs.Tests.{holds}
use Rattle.scheme.proofs.Lists.{zeros_at}
use Rattle.scheme.proofs.Refusals.{then_taken, then_last, then_not, unless_held, test_not, passed_not, after_taken}
use Rattle.scheme.proofs.Pooling.Repeats.{place_repeat, place_thirteen}
use Rattle.service.specs.declared.Head.{Head}
use Rattle.service.specs.View.{held_as, stored, slot, put}
use Rattle.service.specs.Calls.{nothing_first, nothing_reply, first_refusal, first_left, reply_refusal, reply_left}
use Rattle.service.specs.Promise.{HeldRight, FirstHeld, ReplyHeld}

-- an element put where it stands leaves the array as it was
stored_as : (n x : ℕ) → stored n ≡ some x → n ≡ held_as x
unfolding stored is_held element_of
stored_as zero x e = absurd (holds (ap is_held e))
stored_as (suc n) x e = let d : n ≡ x = ap element_of e in omega arith

put_same : (w : ℕ) (xs : List ℕ) (k i x : ℕ) → stored (get_or xs (slot w k i) 0) ≡ some x → put w xs k i x ≡ xs
put_same w xs k i x e = ap (set xs (slot w k i)) (sym (stored_as _ x e)) ∙ set-get_or xs (slot w k i) 0

-- a call whose refusals are those of an array that holds nothing, and then the place's
held_right : {w : ℕ} {empty : List ℕ} {number : List ℕ → (k at element : ℕ) → ℕ}
    → ((xs : List ℕ) (k i x : ℕ) → number xs k i x ≡ (number empty k i x then unless (takes (stored (get_or xs (slot w k i) 0)) x) 13))
    → ((k i x : ℕ) → number empty k i x ≢ 13) → HeldRight w empty number (λ xs k i x. after (number xs k i x) (put w xs k i x) xs)
held_right {w} {empty} {number} tested not_before =
    record {
      repeated = λ xs k i x e d.
          let z = tested xs k i x ∙ place_repeat (number empty k i x) _ x e d in (z, after_taken z _ xs ∙ put_same w xs k i x d);
      thirteen = λ xs k i x.
          let h = place_thirteen (number empty k i x) (stored (get_or xs (slot w k i) 0)) x (not_before k i x) in
          (λ e. h.0 (sym (tested xs k i x) ∙ e), λ c. tested xs k i x ∙ h.1 c);
    }

module _ (A : Arithmetic) (h : Head) where
  first_free : (k i x : ℕ) → takes (stored (get_or nothing_first (slot most_places k i) 0)) x ≡ true
  unfolding nothing_first stored takes
  first_free k i x = rw (zeros_at firsts (slot most_places k i))

  first_tested : (xs : List ℕ) (k i x : ℕ) → first_refusal A h xs k i x
      ≡ (first_refusal A h nothing_first k i x then unless (takes (stored (get_or xs (slot most_places k i) 0)) x) 13)
  unfolding first_refusal
  first_tested xs k i x = then_last _ _ _ (then_last _ _ _ (then_last _ _ _ (sym (then_taken (unless_held (first_free k i x) 13) _))))

  first_not : (k i x : ℕ) → first_refusal A h nothing_first k i x ≢ 13
  unfolding first_refusal plan_missing not_gathering element_refusal
  first_not k i x =
      then_not (then_not (test_not _ 11 refl) (test_not _ 12 refl))
      (then_not (then_not (test_not _ 4 refl) (then_not (test_not _ 8 refl) (test_not _ 3 refl)))
      (then_not (test_not _ 8 refl) (passed_not (first_free k i x) 13)))

  reply_free : (k b x : ℕ) → takes (stored (get_or nothing_reply (slot most_blocks k b) 0)) x ≡ true
  unfolding nothing_reply stored takes
  reply_free k b x = rw (zeros_at cells (slot most_blocks k b))

  reply_tested : (ys : List ℕ) (k b x : ℕ) → reply_refusal A h ys k b x
      ≡ (reply_refusal A h nothing_reply k b x then unless (takes (stored (get_or ys (slot most_blocks k b) 0)) x) 13)
  unfolding reply_refusal
  reply_tested ys k b x =
      then_last _ _ _ (then_last _ _ _ (then_last _ _ _ (then_last _ _ _ (sym (then_taken (unless_held (reply_free k b x) 13) _)))))

  reply_not : (k b x : ℕ) → reply_refusal A h nothing_reply k b x ≢ 13
  unfolding reply_refusal plan_missing not_replying element_refusal
  reply_not k b x =
      then_not (then_not (test_not _ 11 refl) (test_not _ 12 refl))
      (then_not (then_not (test_not _ 4 refl) (then_not (test_not _ 8 refl) (test_not _ 3 refl)))
      (then_not (test_not _ 8 refl) (then_not (test_not _ 14 refl) (passed_not (reply_free k b x) 13))))

module _ (A : Arithmetic) where
  pub first_held : FirstHeld A
  unfolding FirstHeld first_left
  first_held h = held_right (first_tested A h) (first_not A h)

  pub reply_held : ReplyHeld A
  unfolding ReplyHeld reply_left
  reply_held h = held_right (reply_tested A h) (reply_not A h)
