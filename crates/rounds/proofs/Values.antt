-- Values, and the numbers of a line that stand for them.
--   as_signed             a number of a line, held in 32 bits, is not below zero
--   not_below, below      the value that two numbers stand for
--   less_fits             it fits 32 bits
--   total_told, residue_told    a line v and a line x, put together
-- Assumes nothing.
use Rattle.std.proofs.Common.{◌≡◌, ℕ, zero, suc, ◌≤◌, true, List, get_or, ℤ, pos, ◌-ℤ◌, neg_ℤ, sym, refl, ap, ◌∙◌, subst, arith, w32, SFits, to_z, of_z, eqb, Result, Ok, Err}
use Rattle.std.specs.Ordering.{int_eq}
use Rattle.std.specs.Result.{result_unwrap_or}
use Rattle.std.proofs.lemmas.Bool.Decides.{same_from_decides, Decides-eqb, Decides-like, Decides-int_eq}
use lib.IntN.{+ℤ_idl}
use mir.ValLaws.{to_z-of_z}
use Rattle.scheme.specs.Scheme.{sixteen}
use Rattle.plan.specs.declared.refusal.Refusal.{Refusal}
use Rattle.plan.specs.Plan.{plan_of, use_of, code_use}
use Rattle.plan.specs.Numbers.{number_of, numbered}
use Rattle.reading.specs.Reading.{reading_by, reading, residue_given_by, residue_answer}
use Rattle.rounds.specs.declared.calls.Verdict.{Verdict}
use Rattle.rounds.specs.declared.calls.Verdict.TheVariants.{Value}
use Rattle.rounds.specs.declared.calls.Case.{Case}
use Rattle.rounds.specs.Judged.{judged, judged_second, value_of, shown, read_shown, total_shown, given_shown, residue_shown}

pub as_signed : (n : ℕ) → n ≤ 65535 → to_z w32 n ≡ pos n
as_signed n h = to_z-of_z w32 (pos n) (record { sfits = omega arith })

pub not_below : (b n : ℕ) → b ≡ 0 → pos n ≡ value_of b n
unfolding value_of
not_below zero n e = refl
not_below (suc b) n e = absurd (omega (arith, e))

pub below : (b n : ℕ) → (b ≡ 0 → ⊥) → pos 0 -ℤ pos n ≡ value_of b n
unfolding value_of
below zero n d = absurd (d refl)
below (suc b) n d = +ℤ_idl (neg_ℤ (pos n))

negated_fits : (n : ℕ) → n ≤ 65535 → SFits w32 (neg_ℤ (pos n))
negated_fits zero h = record { sfits = omega arith }
negated_fits (suc n) h = record { sfits = omega arith }

pub less_fits : (n : ℕ) → n ≤ 65535 → SFits w32 (pos 0 -ℤ pos n)
less_fits n h = subst (SFits w32) (sym (+ℤ_idl (neg_ℤ (pos n)))) (negated_fits n h)

-- signed numbers are compared as their bits
same_bits : (y z : ℤ) → SFits w32 y → SFits w32 z → eqb (of_z w32 y) (of_z w32 z) ≡ int_eq y z
same_bits y z h k =
    same_from_decides _ _
    (Decides-like (eqb (of_z w32 y) (of_z w32 z)) (λ e. sym (to_z-of_z w32 y h) ∙ ap (to_z w32) e ∙ to_z-of_z w32 z k) (ap (of_z w32)) (Decides-eqb _ _))
    (Decides-int_eq y z)

-- w is the wanted number; a refusal hands back no value, and counts as 0
read_as : (r : Result ℤ Refusal) (w : ℕ) (z : ℤ) → judged_second (numbered r) w (int_eq (result_unwrap_or r (pos 0)) z) Value ≡ read_shown (reading_by r) w z
unfolding read_shown
read_as (Ok y) w z = refl
read_as (Err e) w z = refl

given_as : (r : Result ℕ Refusal) (w x : ℕ) → judged (numbered r) w true (eqb (result_unwrap_or r 0) x) ≡ given_shown (residue_given_by r) w x
unfolding given_shown
given_as (Ok y) w x = refl
given_as (Err e) w x = ap (judged (number_of e) w true) (same_from_decides _ _ (Decides-like (eqb 0 x) sym sym (Decides-eqb 0 x)) (Decides-eqb x 0))

-- r is what the call answers, n and y what is judged of it, v the verdict
module _ (c : Case) (l : List ℕ) {w n : ℕ} {v : Verdict} (wanted : w ≡ get_or l 2 0) where
  pub total_told : (r : Result ℤ Refusal) {y z : ℤ} → reading_by r ≡ reading sixteen (use_of (code_use (get_or l 0 0))) (get_or l 1 0)
      → z ≡ value_of (get_or l 3 0) (get_or l 4 0) → n ≡ numbered r → y ≡ result_unwrap_or r (pos 0) → SFits w32 y → SFits w32 z
      → v ≡ judged_second n w (eqb (of_z w32 y) (of_z w32 z)) Value → shown c v ≡ total_shown c l
  total_told r {y = y} {z = z} answer expected number value hy hz h =
      let s : eqb (of_z w32 y) (of_z w32 z) ≡ int_eq (result_unwrap_or r (pos 0)) z = same_bits y z hy hz ∙ ap (λ x. int_eq x z) value in
      let k : v ≡ read_shown (reading_by r) w z = h ∙ rw (number, s) (read_as r w z) in
      ap (shown c) (k ∙ cc (answer, expected, wanted))

  pub residue_told : (r : Result ℕ Refusal) {y x : ℕ} → residue_given_by r ≡ residue_answer sixteen (plan_of c.plan) (value_of (get_or l 0 0) (get_or l 1 0))
      → x ≡ get_or l 3 0 → n ≡ numbered r → y ≡ result_unwrap_or r 0 → v ≡ judged n w true (eqb y x) → shown c v ≡ residue_shown c l
  residue_told r {x = x} answer expected number value h =
      let k : v ≡ given_shown (residue_given_by r) w x = h ∙ rw (number, value) (given_as r w x) in
      ap (shown c) (k ∙ cc (answer, expected, wanted))
