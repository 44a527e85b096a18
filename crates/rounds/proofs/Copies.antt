-- Lists that are written.
--   copied_in    a list in a part of another
--   read_back    what is written is read back
-- Assumes nothing.
use Rattle.std.proofs.Common.{◌≡◌, ℕ, ◌+◌, ◌-◌, ◌≤◌, Bool, true, cond, leb, List, ◌++◌, length, take, drop, sym, refl, ap, ◌∙◌, arith, take_all, length-take-le, append_assoc}
use Rattle.std.proofs.lemmas.Bool.{leb-true}
use Rattle.std.proofs.lemmas.List.{take_at, drop_at}
use borrow.Rule.Slice.PartMut.{put_mid}
use lib.Seq.{sets, sets-eq}
use Rattle.std.proofs.lemmas.Slice.{put_mid-paste}

-- a part of a list holds another list
pub copied_in : (s out : List ℕ) (at : ℕ) → at + length s ≤ length out → put_mid at (at + length s - at) out s ≡ sets out at s
copied_in s out at h =
    put_mid-paste at (at + length s - at) out s s (length s) refl (omega arith) refl
    ∙ rw (take_all (length s) s (omega arith)) (sym (sets-eq s out at h))

-- what is written where it fits is read back
pub read_back : (s out new : List ℕ) (at : ℕ) → leb (at + length s) (length out) ≡ true
    → new ≡ cond (leb (at + length s) (length out)) (sets out at s) out → take (length s) (drop at new) ≡ s
read_back s out new at fits left =
    let h : at + length s ≤ length out = leb-true _ _ fits in
    let e : new ≡ sets out at s = left ∙ ap (λ (b : Bool). cond b (sets out at s) out) fits in
    ap (λ (l : List ℕ). take (length s) (drop at l)) (e ∙ sets-eq s out at h ∙ append_assoc (take at out) s (drop (at + length s) out))
    ∙ ap (take (length s)) (drop_at (take at out) (s ++ drop (at + length s) out) at (length-take-le at out (omega arith)))
    ∙ take_at s (drop (at + length s) out) (length s) refl
