-- The statements of specs/Promise.antt.
-- Assumes nothing.
use Rattle.std.proofs.Common.{◌≡◌, ap, ◌∙◌, Bool, cond, ℕ, ◌≤◌, div-le_self, arith, leb→le, ℤ, pos, negsuc, nat_abs, ◌≤ℤ◌, lt-ltb, leb-true}
use Rattle.scheme.specs.Scheme.{q, sixteen, signed, reach, figure_bound}
use Rattle.scheme.specs.Signed as scheme
use Rattle.scheme.specs.Signed.{residue, meant}
use Rattle.scheme.proofs.Refusals.{then_zero, unless_zero}
use Rattle.scheme.proofs.Signed as proved
use Rattle.reading.specs.Read.{Refused, Value}
use Rattle.reading.specs.Reading.{reading, residue_refusal, residue_by}
use Rattle.reading.specs.Promise.{ReadBack, GoesRound, CountsRead}
use Rattle.reading.proofs.Laws.{reads_itself}

-- a whole number within the reach
back : (z : ℤ) → nat_abs z ≤ reach sixteen signed → reading sixteen signed (residue sixteen z) ≡ Value z
unfolding reading scheme.ReadBack
back z h =
    let t = residue sixteen z in
    ap (λ (b : Bool). cond b (Value (meant sixteen signed t)) (Refused 3)) (lt-ltb t q (proved.residue_small q (omega arith) z))
    ∙ ap Value (proved.read_back sixteen z h)

near : (z : ℤ) → negsuc 32759 ≤ℤ z → z ≤ℤ pos 32760 → nat_abs z ≤ 32760
near (pos n) lo hi = leb→le n 32760 hi.le
near (negsuc n) lo hi = omega (arith, leb→le n 32759 lo.le)

pub read_back : ReadBack
unfolding ReadBack reach
read_back z lo hi = back z (near z lo hi)

pub goes_round : GoesRound
unfolding GoesRound residue_refusal residue_by figure_bound
goes_round p z e =
    let near = leb-true (nat_abs z) (figure_bound sixteen signed p) (unless_zero _ _ (then_zero _ _ e).1) in
    (ap (λ (n : ℕ). residue_by n (residue sixteen z)) e, back z (omega (arith, near, div-le_self (reach sixteen signed) p.users)))

pub counts_read : CountsRead
unfolding CountsRead reach
counts_read t h = reads_itself _ t h (omega arith)
