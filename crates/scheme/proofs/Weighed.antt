-- Numbers times a list of factors, and sums that are reduced at their end.
--   weighed_as, weighed_same, weighed_small     the same factors and values; the same values; it is an element
--   unreduced_start, unreduced_one, unreduced_both, unreduced_more    sums that are reduced at their end: of no number, of one, of more, of one more
-- Assumes nothing.
use mathlib.Core.Path.{◌≡◌, refl, sym, ap, ap₂, ◌∙◌}
use mathlib.Core.List.{List}
use Prim.Native.Nat.{ℕ, ◌+◌, ◌%◌, ◌≤◌, ◌<◌}
use native.Mathlib.Nat.{zero-add, add-zero, one-mul, add-mul, add-mod, zero-mod}
use native.Mathlib.Omega.{arith}
use Rattle.scheme.specs.Lists.{span}
use Rattle.scheme.specs.Scheme.{Arithmetic, modular, sum}
use Rattle.scheme.specs.Laws.{Laws}
use Rattle.scheme.specs.Weighed.{weighed_by, Unreduced}
use Rattle.scheme.proofs.Lists.{span_append, span_in}
use Rattle.scheme.proofs.Sums.{sum_small, sum_same, sum_append}

pub weighed_as : (A : Arithmetic) (n : ℕ) {c d f g : ℕ → ℕ} → ((i : ℕ) → i < n → c i ≡ d i) → ((i : ℕ) → i < n → f i ≡ g i)
    → weighed_by A c n f ≡ weighed_by A d n g
unfolding weighed_by
weighed_as A n e h = sum_same A (span n 0) _ _ (λ i m. let l : i < n = omega (arith, (span_in n 0 i m).1) in ap₂ A.multiply (e i l) (h i l))

pub weighed_same : (A : Arithmetic) (c : ℕ → ℕ) (n : ℕ) {f g : ℕ → ℕ} → ((i : ℕ) → i < n → f i ≡ g i) → weighed_by A c n f ≡ weighed_by A c n g
weighed_same A c n h = weighed_as A n (λ i l. refl) h

module _ {A : Arithmetic} {n m : ℕ} (L : Laws A n m) where
  pub weighed_small : (c : ℕ → ℕ) (i : ℕ) (f : ℕ → ℕ) → weighed_by A c i f < A.size
  unfolding weighed_by
  weighed_small c i f = sum_small A n m L (span i 0) (λ j. A.multiply (c j) (f j))

-- ---- sums that are reduced at their end
pub unreduced_start : (q most : ℕ) (f : ℕ → ℕ) (k : ℕ) → Unreduced q most f k 0 0
unfolding sum
unreduced_start q most f k = record { small = omega arith; right = zero-mod q }

module _ {q n m : ℕ} (L : Laws (modular q) n m) {most : ℕ} {f : ℕ → ℕ} where
  pub unreduced_one : (k r : ℕ) → r % q ≡ f k % q → r ≤ most → Unreduced q most f k 1 r
  unfolding sum
  unreduced_one k r e h = record { small = omega (arith, one-mul most); right = e ∙ simp add-zero }

  pub unreduced_both : (k i j r s : ℕ) → Unreduced q most f k i r → Unreduced q most f (k + i) j s → Unreduced q most f k (i + j) (r + s)
  unreduced_both k i j r s a b = record {
    small = omega (arith, add-mul i j most);
    right = add-mod r s q ∙ ap₂ (λ (x y : ℕ). (x + y) % q) a.right b.right
        ∙ sym (ap (λ (l : List ℕ). sum (modular q) l f) (span_append i j k) ∙ sum_append (modular q) n m L (span i k) (span j (k + i)) f);
  }

  pub unreduced_more : (i r s : ℕ) → Unreduced q most f 0 i r → s % q ≡ f i % q → s ≤ most → Unreduced q most f 0 (i + 1) (r + s)
  unreduced_more i r s a e h = unreduced_both 0 i 1 r s a (rw (zero-add i) (unreduced_one i s e h))
