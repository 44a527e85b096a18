-- Loops that go through numbers and write rows.
--   below_more                             what holds of every number below i, of one more
--   members_take, members_skip             the numbers that pass a test, of one number more: it passes, or not
--   row_more, row_other, row_at            a row put into a list: one number more, what lies elsewhere, its numbers
--   row_all                                what holds of every number then
-- Assumes nothing.
use mathlib.Core.Path.{◌≡◌, refl, sym, ap, ap₂, ◌∙◌, subst}
use mathlib.Core.Logic.{◌≢◌, ⊎_elim}
use mathlib.Core.Bool.{Bool, true, false}
use mathlib.Core.List.{List, [], ◌∷◌, ◌++◌, map, append-nil}
use Prim.Native.Nat.{ℕ, zero, suc, ◌+◌, ◌-◌, ◌≤◌, ◌<◌}
use native.Mathlib.Nat.{eq-or-lt_of_le, add-zero}
use native.Mathlib.Decide.{dec_lt}
use native.Mathlib.Omega.{arith}
use lib.ListN.{length, get_or, set, length-set}
use lib.Seq.{sets, get_or-set_same, get_or-set_other}
use Rattle.scheme.specs.Lists.{span, keep, members}
use Rattle.scheme.proofs.Tests.{none_below}
use Rattle.scheme.proofs.Lists.{map_span_length, map_below_at, members_append, sets_more}

pub below_more : (P : ℕ → Type 0) {i : ℕ} → ((j : ℕ) → j < i → P j) → P i → (j : ℕ) → j < i + 1 → P j
below_more P {i} h x j l = ⊎_elim (λ (d : j ≡ i). subst P (sym d) x) (λ (d : j < i). h j d) (eq-or-lt_of_le (omega arith))

-- ---- the numbers that pass a test
module _ (t : ℕ → Bool) (n k j : ℕ) (here : k + n ≡ j) where
  more : members t (n + 1) k ≡ members t n k ++ keep (t j) j []
  more = members_append t n 1 k ∙ ap (λ (i : ℕ). members t n k ++ members t 1 i) here

  pub members_take : t j ≡ true → members t (n + 1) k ≡ members t n k ++ (j ∷ [])
  members_take e = more ∙ ap (λ (b : Bool). members t n k ++ keep b j []) e

  pub members_skip : t j ≡ false → members t (n + 1) k ≡ members t n k
  members_skip e = more ∙ ap (λ (b : Bool). members t n k ++ keep b j []) e ∙ append-nil _

-- ---- a row put into a list
sets_other : (vs l : List ℕ) (i j : ℕ) → ((b : ℕ) → b < length vs → j ≢ i + b) → ◌≡◌ {A = ℕ} (get_or (sets l i vs) j 0) (get_or l j 0)
sets_other [] l i j h = refl
sets_other (v ∷ vs) l i j h = sets_other vs (set l i v) (suc i) j (λ b m e. h (suc b) (omega arith) (omega arith))
    ∙ get_or-set_other l i j v 0 (λ e. h 0 (omega arith) (omega arith))

sets_at : (vs l : List ℕ) (i b : ℕ) → b < length vs → i + length vs ≤ length l → ◌≡◌ {A = ℕ} (get_or (sets l i vs) (i + b) 0) (get_or vs b 0)
sets_at [] l i b h m = absurd (none_below b h)
sets_at (v ∷ vs) l i zero h m =
    ap (λ (n : ℕ). get_or (sets (set l i v) (suc i) vs) n 0) (add-zero i) ∙ sets_other vs (set l i v) (suc i) i (λ b n e. omega arith)
    ∙ get_or-set_same l i v 0 (omega arith)
sets_at (v ∷ vs) l i (suc b) h m =
    ap (λ (n : ℕ). get_or (sets (set l i v) (suc i) vs) n 0) (omega arith) ∙ sets_at vs (set l i v) (suc i) b (omega arith) (omega (arith, length-set l i v))

module _ (old : List ℕ) (at : ℕ) (f : ℕ → ℕ) (n : ℕ) {new : List ℕ} (e : new ≡ sets old at (map f (span n 0))) where
  pub row_more : {j x : ℕ} → j ≡ at + n → x ≡ f n → set new j x ≡ sets old at (map f (span (n + 1) 0))
  row_more {j} {x} d y = ap (λ (l : List ℕ). set l j x) e ∙ ap₂ (λ (i z : ℕ). set (sets old at (map f (span n 0))) i z) d y ∙ sets_more old at n f

  pub row_other : (j : ℕ) → ((b : ℕ) → b < n → j ≢ at + b) → get_or new j 0 ≡ get_or old j 0
  row_other j h = ap (λ (l : List ℕ). get_or l j 0) e ∙ sets_other (map f (span n 0)) old at j (λ b m. h b (omega (arith, map_span_length f n 0)))

  pub row_at : (b j : ℕ) → j ≡ at + b → b < n → at + n ≤ length old → get_or new j 0 ≡ f b
  row_at b j d h m =
      let l = map_span_length f n 0 in
      ap₂ (λ (r : List ℕ) (i : ℕ). get_or r i 0) e d ∙ sets_at (map f (span n 0)) old at b (omega (arith, l)) (omega (arith, l)) ∙ map_below_at f n b h

  -- what holds of every number
  pub row_all : (P : ℕ → Type 0) → at + n ≤ length old → ((b : ℕ) → P (f b)) → ((j : ℕ) → P (get_or old j 0)) → (j : ℕ) → P (get_or new j 0)
  row_all P m h o j = elim (dec_lt j at) [
    | yes before ↦ subst P (sym (row_other j (λ b l d. omega arith))) (o j)
    | no from ↦ elim (dec_lt j (at + n)) [
      | yes in_row ↦ subst P (sym (row_at (j - at) j (omega arith) (omega arith) m)) (h (j - at))
      | no behind ↦ subst P (sym (row_other j (λ b l d. omega arith))) (o j)
    ]
  ]
