-- What the reader answers of a total, and the way in of a signed figure, over an arithmetic as a parameter.
--   reading_by, residue_given_by    what the two functions answer, in the words of Read and Given
--   reading             the whole number that a total of a use stands for: 3 above the last element
--   residue_refusal     of a signed figure: 1, 32
--   residue_by, residue_answer    the element that stands for it, or the refusal's number
-- Assumes nothing: these are definitions.
use Rattle.std.specs.Prelude.{cond, ℕ, zero, suc, ltb, leb, ℤ, nat_abs, Result, Ok, Err}
use Rattle.scheme.specs.Scheme.{Arithmetic, Plan, plan_good, Use, signed, figure_bound, unless, ◌then◌}
use Rattle.scheme.specs.Signed.{residue, meant}
use Rattle.plan.specs.declared.refusal.Refusal.{Refusal}
use Rattle.plan.specs.Numbers.{number_of}
use Rattle.reading.specs.Read.{Reading}
use Rattle.reading.specs.Read as read
use Rattle.reading.specs.Given.{Residue}
use Rattle.reading.specs.Given as given

abbrev pub reading_by : Result ℤ Refusal → Reading
reading_by (Ok z) = read.Value z
reading_by (Err r) = read.Refused (number_of r)

abbrev pub residue_given_by : Result ℕ Refusal → Residue
residue_given_by (Ok x) = given.Element x
residue_given_by (Err r) = given.Refused (number_of r)

unfoldable pub reading : Arithmetic → Use → (total : ℕ) → Reading
reading A u t = cond (ltb t A.size) (read.Value (meant A u t)) (read.Refused 3)

unfoldable pub residue_refusal : Arithmetic → Plan → (value : ℤ) → ℕ
residue_refusal A p z = unless (plan_good p) 1 then unless (leb (nat_abs z) (figure_bound A signed p)) 32

unfoldable pub residue_by : (refusal : ℕ) → (element : ℕ) → Residue
residue_by zero x = given.Element x
residue_by (suc n) x = given.Refused (suc n)

abbrev pub residue_answer : Arithmetic → Plan → (value : ℤ) → Residue
residue_answer A p z = residue_by (residue_refusal A p z) (residue A z)
