-- Texts written behind one another.
--   take_sets                        what stands before the text's end
--   put_none, put_append, put_as     of Put: no text, two texts, an equal text
--   put_length                       the buffer keeps its length
--   wrote_none, wrote_append, wrote_as, wrote_more    of Wrote: no text, two texts, an equal text, one byte more
--   put_through                      the buffer behind a writer that is done with
--   wrote_spell, wrote_decimal       a number's digits: those of a high part, then those of the low part
--   numbers_more                     numbers, one more of a list
-- Assumes nothing.
use Rattle.std.proofs.Common.{◌≡◌, refl, sym, ap, ap₂, ◌∙◌, List, [], ◌∷◌, ◌++◌, append_assoc, append-nil, ℕ, ◌+◌, ◌/◌, ◌%◌, ◌^◌, ◌≤◌, ◌<◌, add-one, arith, length, get_or, take, length-append, take_at, take-suc, length-take-le}
use lib.Seq.{sets, sets-eq, length-sets}
use Rattle.scheme.proofs.Lists.{sets_append}
use Rattle.lines.specs.Text.{decimal, spell, numbers}
use Rattle.lines.specs.declared.Writer.{Writer}
use Rattle.lines.specs.Put.{Put, Wrote}
use Rattle.lines.proofs.Decimals.{spell_parts, decimal_parts}

-- ---- sets
pub take_sets : (o : List ℕ) (at : ℕ) (t : List ℕ) → at + length t ≤ length o → take (at + length t) (sets o at t) ≡ take at o ++ t
take_sets o at t h =
    let front : length (take at o ++ t) ≡ at + length t = omega (arith, length-append (take at o) t, length-take-le at o (omega arith)) in
    ap (take (at + length t)) (sets-eq t o at h) ∙ take_at (take at o ++ t) _ _ front

-- ---- Put
pub put_none : (o : List ℕ) (at : ℕ) → Put o o at at []
put_none o at = record { place = omega arith; bytes = refl }

pub put_append : {o p q : List ℕ} {at a b : ℕ} {xs ys : List ℕ} → Put o p at a xs → Put p q a b ys → Put o q at b (xs ++ ys)
put_append {o} {p} {q} {at} {a} {b} {xs} {ys} x y =
    record {
      place = omega (arith, x.place, y.place, length-append xs ys);
      bytes = y.bytes ∙ ap₂ (λ (l : List ℕ) (n : ℕ). sets l n ys) x.bytes x.place ∙ sets_append o at xs ys;
    }

pub put_as : {o p : List ℕ} {at a : ℕ} {xs ys : List ℕ} → Put o p at a xs → xs ≡ ys → Put o p at a ys
put_as x e = rw e at x

pub put_length : {o p : List ℕ} {at a : ℕ} {xs : List ℕ} → Put o p at a xs → length p ≡ length o
put_length {o} {p} {at} {a} {xs} x = ap length x.bytes ∙ length-sets o at xs

-- ---- Wrote
pub wrote_none : (r : Writer) → Wrote r r []
wrote_none r = record { same = refl; long = refl; put = put_none _ _ }

pub wrote_append : {r s t : Writer} {xs ys : List ℕ} → Wrote r s xs → Wrote s t ys → Wrote r t (xs ++ ys)
wrote_append x y = record { same = y.same ∙ x.same; long = y.long ∙ x.long; put = put_append x.put y.put }

pub wrote_as : {r s : Writer} {xs ys : List ℕ} → Wrote r s xs → xs ≡ ys → Wrote r s ys
wrote_as x e = rw e at x

-- one byte more of a text
pub wrote_more : {r : Writer} {s t : Writer} (l : List ℕ) (i : ℕ) → i < length l → Wrote r s (take i l) → Wrote s t (get_or l i 0 ∷ []) → Wrote r t (take (i + 1) l)
wrote_more l i h x y =
    let e : take (i + 1) l ≡ take i l ++ (get_or l i 0 ∷ []) = ap (λ (n : ℕ). take n l) (add-one i) ∙ take-suc l i 0 h in
    wrote_as (wrote_append x y) (sym e)

-- what the buffer holds then
pub put_through : {r s : Writer} {p xs ys : List ℕ} → Wrote r s xs → p ≡ s.out.now → xs ≡ ys → Put r.out.now p r.at s.at ys
put_through x d e = rw (d, ← e) x.put

module _ {r s t : Writer} where
  pub wrote_spell : (j k n : ℕ) → Wrote r s (spell j (n / 10 ^ k)) → Wrote s t (spell k (n % 10 ^ k)) → Wrote r t (spell (j + k) n)
  wrote_spell j k n x y = wrote_as (wrote_append x y) (spell_parts j k n)

  pub wrote_decimal : (k n : ℕ) → 10 ^ k ≤ n → n < 10 ^ 20
      → Wrote r s (decimal (n / 10 ^ k)) → Wrote s t (spell k (n % 10 ^ k)) → Wrote r t (decimal n)
  wrote_decimal k n lo hi x y = wrote_as (wrote_append x y) (decimal_parts k n lo hi)

-- ---- numbers
numbers_append : (l k : List ℕ) → numbers (l ++ k) ≡ numbers l ++ numbers k
unfolding numbers
numbers_append [] k = refl
numbers_append (n ∷ l) k = ap (λ (t : List ℕ). 32 ∷ (decimal n ++ t)) (numbers_append l k) ∙ simp append_assoc

pub numbers_more : (l : List ℕ) (i : ℕ) → i < length l → numbers (take (i + 1) l) ≡ numbers (take i l) ++ (32 ∷ decimal (get_or l i 0))
unfolding numbers
numbers_more l i h = rw (add-one, take-suc l i 0, numbers_append) (simp append-nil)
