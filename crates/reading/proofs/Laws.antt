-- What a total means and what stands for a figure, case by case.
--   reads_itself, reads_less, refuses     a total within the reach, above it, and past the last element
--   below_zero                            an element above the reach as itself less q
--   bad_plan, beyond, given               a figure of a bad plan, one beyond the bound, and one within it
--   negative, not_negative                by its sign: how far from zero, and the element
--   read, answered                        by what the proofs of the two functions are found
-- Assumes nothing.
use Rattle.std.proofs.Common.{◌≡◌, refl, sym, ap, ◌∙◌, Bool, true, false, cond, ℕ, suc, ◌-◌, ◌≤◌, ◌<◌, arith, ℤ, pos, negsuc, nat_abs, ◌-ℤ◌, ltb-true, lt-ltb, le-ltb, le-leb}
use lib.Signed.{mag, lt_z}
use borrow.Author.Tests.{lt-leb}
use Rattle.scheme.specs.Scheme.{q, sixteen, Plan, plan_good, Use, signed, reach, figure_bound, unless, ◌then◌}
use Rattle.scheme.specs.Signed.{residue, meant}
use mir.ValLaws.{to_z-of_z}
use Rattle.scheme.proofs.Good.{good}
use Rattle.scheme.proofs.Tests.{holds}
use Rattle.scheme.proofs.Signed.{read_itself, read_less}
use Rattle.reading.specs.Read.{Refused, Value}
use Rattle.reading.specs.Given as given_by
use Rattle.reading.specs.Reading.{reading, residue_refusal, residue_by, residue_answer}

pub below_zero : (t : ℕ) → t < q → pos t -ℤ pos q ≡ negsuc (q - suc t)
below_zero t h = ap (λ (b : Bool). cond b (negsuc (q - suc t)) (pos (t - q))) (lt-ltb t q h)

pub reads_itself : (u : Use) (t : ℕ) → t < q → t ≤ reach sixteen u → reading sixteen u t ≡ Value (pos t)
unfolding reading
reads_itself u t h l = rw (lt-ltb t q h) (ap Value (read_itself sixteen u t l))

pub reads_less : (u : Use) (t : ℕ) → t < q → reach sixteen u < t → reading sixteen u t ≡ Value (pos t -ℤ pos q)
unfolding reading
reads_less u t h l =
    ap (λ (b : Bool). cond b (Value (meant sixteen u t)) (Refused 3)) (lt-ltb t q h) ∙ ap Value (read_less sixteen u t l h ∙ sym (below_zero t h))

pub refuses : (u : Use) (t : ℕ) → q ≤ t → reading sixteen u t ≡ Refused 3
unfolding reading
refuses u t h = rw (le-ltb t q h) refl

-- ---- THE WAY IN
module _ (p : Plan) (z : ℤ) where
  pub bad_plan : plan_good p ≡ false → residue_answer sixteen p z ≡ given_by.Refused 1
  unfolding residue_by residue_refusal unless ◌then◌
  bad_plan e = rw e refl

  module _ (good : plan_good p ≡ true) where
    pub beyond : figure_bound sixteen signed p < nat_abs z → residue_answer sixteen p z ≡ given_by.Refused 32
    unfolding residue_by residue_refusal unless ◌then◌
    beyond l = rw (good, lt-leb (nat_abs z) (figure_bound sixteen signed p) l) refl

    pub given : nat_abs z ≤ figure_bound sixteen signed p → residue_answer sixteen p z ≡ given_by.Element (residue sixteen z)
    unfolding residue_by residue_refusal unless ◌then◌
    given l = rw (good, le-leb (nat_abs z) (figure_bound sixteen signed p) l) refl

-- −1 less it, how far it is from zero, and the element
pub negative : (z : ℤ) → lt_z z (pos 0) ≡ true
    → (negsuc 0 -ℤ z ≡ pos (mag z)) × (nat_abs z ≡ suc (mag z)) × (mag z < q → residue sixteen z ≡ q - 1 - mag z)
unfolding residue
negative (pos n) e = absurd (omega (arith, ltb-true n 0 e))
negative (negsuc n) e =
    let d : suc n - 1 ≡ n = omega arith in
    (ap (λ (b : Bool). cond b (negsuc (1 - suc (suc n))) (pos (suc n - 1))) (le-ltb (suc n) 1 (omega arith)) ∙ ap pos d, refl, λ h. omega arith)

pub not_negative : (z : ℤ) → lt_z z (pos 0) ≡ false → (z ≡ pos (nat_abs z)) × (nat_abs z ≡ mag z) × (nat_abs z < q → residue sixteen z ≡ nat_abs z)
unfolding residue
not_negative (pos n) e = (refl, refl, λ h. omega arith)
not_negative (negsuc n) e = absurd (holds (sym e))

-- ---- what the two functions' own proofs are found by
pub ruleset read = (reads_itself, reads_less, refuses, below_zero, to_z-of_z)

pub ruleset answered = (good, bad_plan, beyond, given, negative, not_negative, to_z-of_z)
