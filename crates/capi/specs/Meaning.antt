-- What a total means, and what stands for a signed figure, as callers in C and Rust are told it: a number, and 0 behind a refusal.
--   as_reading, total_read       of the reader
--   as_residue, residue_given    of the way in
-- Assumes nothing: these are definitions.
use Rattle.std.specs.Prelude.{ℕ, ℤ, pos}
use Rattle.scheme.specs.Scheme.{sixteen, Plan}
use Rattle.plan.specs.Plan.{use_of, code_use}
use Rattle.reading.specs.Read.{Reading}
use Rattle.reading.specs.Read as read
use Rattle.reading.specs.Given.{Residue}
use Rattle.reading.specs.Given as given
use Rattle.reading.specs.Reading.{reading, residue_answer}
use Rattle.capi.specs.declared.meaning.CutawhenoReading.{CutawhenoReading}
use Rattle.capi.specs.declared.meaning.CutawhenoResidue.{CutawhenoResidue}

unfoldable pub as_reading : Reading → CutawhenoReading
as_reading (read.Refused n) = record { number = n; value = pos 0 }
as_reading (read.Value z) = record { number = 0; value = z }

-- 0 is counts, anything else signed
abbrev pub total_read : (is_signed total : ℕ) → CutawhenoReading
total_read n t = as_reading (reading sixteen (use_of (code_use n)) t)

unfoldable pub as_residue : Residue → CutawhenoResidue
as_residue (given.Refused n) = record { number = n; element = 0 }
as_residue (given.Element x) = record { number = 0; element = x }

abbrev pub residue_given : Plan → (value : ℤ) → CutawhenoResidue
residue_given p z = as_residue (residue_answer sixteen p z)
