-- What document 02 says of the reader, about the definitions that its contract names.
--   ReadBack        "every sum from −32760 to 32760 is read back from its residue, zero and both ends included"
--   GoesRound       so is every figure that the way in takes
--   CountsRead      a total of counts is read as itself
-- Assumes nothing: these are definitions.
use Rattle.std.specs.Prelude.{◌≡◌, ℕ, ◌<◌, ℤ, pos, negsuc, ◌≤ℤ◌}
use Rattle.scheme.specs.Scheme.{q, sixteen, Plan, counts, signed}
use Rattle.scheme.specs.Signed.{residue}
use Rattle.reading.specs.Read.{Value}
use Rattle.reading.specs.Given.{Element}
use Rattle.reading.specs.Reading.{reading, residue_refusal, residue_answer}

-- negsuc 32759 is −32760
unfoldable pub ReadBack : Type 0
ReadBack = (z : ℤ) → negsuc 32759 ≤ℤ z → z ≤ℤ pos 32760 → reading sixteen signed (residue sixteen z) ≡ Value z

unfoldable pub GoesRound : Type 0
GoesRound =
    (p : Plan) (z : ℤ) → residue_refusal sixteen p z ≡ 0 →
    (residue_answer sixteen p z ≡ Element (residue sixteen z)) × (reading sixteen signed (residue sixteen z) ≡ Value z)

unfoldable pub CountsRead : Type 0
CountsRead = (t : ℕ) → t < q → reading sixteen counts t ≡ Value (pos t)
