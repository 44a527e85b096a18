-- Elements as whole numbers: residues add as whole numbers do, and are read back.
--   modular_whole, sixteen_whole   modulo q; modulo 65521
--   residue_small                  a residue is below q
--   itself, read_itself, read_less   an element is its own residue; what elements mean, within the reach and above it
--   read-back                      every whole number within reach, from its residue
--   meant_back                     every element is the residue of what it means
--   residue_at, residues_near      a residue of a list; residues of whole numbers near zero are near zero
--   absolute_at                    a whole number of such a list
--   sum_residue                    a sum of residues is the residue of the whole-number sum
--   sum_near                       which lies no further from zero than so many times the furthest
-- Assumes nothing.
use mathlib.Core.Path.{◌≡◌, refl, sym, ap, ap₂, ◌∙◌}
use mathlib.Core.Logic.{inl, inr}
use mathlib.Core.Bool.{Bool, true, false, cond, ◌||◌}
use mathlib.Core.List.{List, [], ◌∷◌, map}
use Prim.Native.Nat.{ℕ, zero, suc, ◌+◌, ◌*◌, ◌-◌, ◌%◌, ◌≤◌, ◌<◌}
use native.Mathlib.Nat.{zero-mod, mod-zero, mod-lt, mod_self, suc-mod, mod-add-mod, add-mod-mod, add-mod_right, mod-eq_of_lt, add-zero, div-mul-le_self}
use native.Mathlib.Numerals.{add-one}
use native.Mathlib.Omega.{arith}
use lib.Dec.{leb, ltb}
use lib.IntN.{ℤ, pos, negsuc, nat_abs, sub_ℕ, suc_ℤ, pred_ℤ, suc-pred, ◌+ℤ◌, +ℤ_idr, +ℤ-suc_ℤ, +ℤ-pred_ℤ}
use lib.ListN.{length, get_or, get_or-map}
use borrow.Author.Tests.{ltb-true, ltb-false, leb-true, leb-false, le-leb, lt-leb, lt-ltb}
use Rattle.algebra.specs.Sums.{In}
use Rattle.scheme.specs.Lists.{all_of}
use Rattle.scheme.specs.Scheme.{Arithmetic, modular, q, sixteen, within, is_near, near, sum, Use, signed, reach}
use Rattle.scheme.specs.Signed.{residue, meant, sum_of, ReadBack}
use Rattle.scheme.specs.Laws.{AddsWhole}
use Rattle.scheme.proofs.Tests.{and_both, and_joined}
use Rattle.scheme.proofs.Elements.{within_at}

or_true : (b : Bool) → (b || true) ≡ true
or_true true = refl
or_true false = refl

-- ---- MODULO q, step by step
module _ (q : ℕ) (some : 0 < q) where
  abbrev A : Arithmetic
  A = modular q

  pub residue_small : (z : ℤ) → residue A z < q
  unfolding residue
  residue_small (pos n) = mod-lt n some
  residue_small (negsuc n) = omega arith

  -- n % q + 1 is below q, or q itself
  below : (n : ℕ) (t : Bool) → ltb (suc (n % q)) q ≡ t → q - 1 - n % q ≡ (q - 1 - suc (n % q) % q + 1) % q
  below n true e =
      let l = ltb-true (suc (n % q)) q e in
      sym (rw (mod-eq_of_lt l) (mod-eq_of_lt (omega arith) ∙ omega arith))
  below n false e =
      let l : suc (n % q) ≡ q = omega (arith, ltb-false (suc (n % q)) q e, mod-lt n some) in
      let d : q - 1 - 0 + 1 ≡ q = omega arith in
      sym (rw (l, mod_self q, d, mod_self q) (omega arith))

  suc_residue : (z : ℤ) → residue A (suc_ℤ z) ≡ (residue A z + 1) % q
  unfolding residue
  suc_residue (pos n) = rw (add-one) (suc-mod n q)
  suc_residue (negsuc zero) =
      let d : q - 1 - 0 + 1 ≡ q = omega arith in
      zero-mod q ∙ sym (rw (zero-mod q, d, mod_self q) refl)
  suc_residue (negsuc (suc n)) = below n (ltb (suc (n % q)) q) refl ∙ rw (suc-mod n q) refl

  pred_residue : (z : ℤ) → residue A (pred_ℤ z) ≡ (residue A z + (q - 1)) % q
  pred_residue z =
      let w = pred_ℤ z in
      let d : residue A w + 1 + (q - 1) ≡ residue A w + q = omega arith in
      sym (ap (λ (n : ℕ). (n + (q - 1)) % q) (ap (residue A) (sym (suc-pred z)) ∙ suc_residue w)
      ∙ mod-add-mod (residue A w + 1) q (q - 1) ∙ ap (λ (n : ℕ). n % q) d ∙ add-mod_right (residue A w) q ∙ mod-eq_of_lt (residue_small w))

  -- one more step of the second summand
  further : (x y d : ℕ) → ((x + y) % q + d) % q ≡ (x + (y + d) % q) % q
  further x y d =
      let e : x + y + d ≡ x + (y + d) = omega arith in
      mod-add-mod (x + y) q d ∙ ap (λ (n : ℕ). n % q) e ∙ sym (add-mod-mod x (y + d) q)

  up : (a b : ℤ) → A.add (residue A a) (residue A b) ≡ residue A (a +ℤ b) → A.add (residue A a) (residue A (suc_ℤ b)) ≡ residue A (a +ℤ suc_ℤ b)
  up a b h =
      ap (λ (n : ℕ). (residue A a + n) % q) (suc_residue b) ∙ sym (further (residue A a) (residue A b) 1) ∙ ap (λ (n : ℕ). (n + 1) % q) h
      ∙ sym (suc_residue (a +ℤ b)) ∙ ap (residue A) (sym (+ℤ-suc_ℤ a b))

  down : (a b : ℤ) → A.add (residue A a) (residue A b) ≡ residue A (a +ℤ b) → A.add (residue A a) (residue A (pred_ℤ b)) ≡ residue A (a +ℤ pred_ℤ b)
  down a b h =
      ap (λ (n : ℕ). (residue A a + n) % q) (pred_residue b) ∙ sym (further (residue A a) (residue A b) (q - 1))
      ∙ ap (λ (n : ℕ). (n + (q - 1)) % q) h ∙ sym (pred_residue (a +ℤ b)) ∙ ap (residue A) (sym (+ℤ-pred_ℤ a b))

  still : (a : ℤ) → A.add (residue A a) (residue A (pos zero)) ≡ residue A (a +ℤ pos zero)
  unfolding residue
  still a =
      ap (λ (n : ℕ). (residue A a + n) % q) (zero-mod q) ∙ ap (λ (n : ℕ). n % q) (add-zero (residue A a)) ∙ mod-eq_of_lt (residue_small a)
      ∙ ap (residue A) (sym (+ℤ_idr a))

  adds : (a b : ℤ) → A.add (residue A a) (residue A b) ≡ residue A (a +ℤ b)
  adds a (pos zero) = still a
  adds a (pos (suc n)) = up a (pos n) (adds a (pos n))
  adds a (negsuc zero) = down a (pos zero) (still a)
  adds a (negsuc (suc n)) = down a (negsuc n) (adds a (negsuc n))

  pub modular_whole : AddsWhole (modular q)
  unfolding AddsWhole
  modular_whole = adds

pub sixteen_whole : AddsWhole sixteen
sixteen_whole = modular_whole q (omega arith)

-- ---- READING
module _ (A : Arithmetic) where
  -- an element is its own residue
  pub itself : (n : ℕ) → n ≤ A.size - 1 → residue A (pos n) ≡ n
  unfolding residue
  itself n h = go A.size h
    where
      go : (m : ℕ) → n ≤ m - 1 → n % m ≡ n
      go zero l = mod-zero n
      go (suc m) l = mod-eq_of_lt (omega arith)

  twice : reach A signed + reach A signed ≤ A.size - 1
  unfolding reach
  twice = omega (arith, div-mul-le_self (A.size - 1) 2)

  -- an element above the reach
  pub read_less : (u : Use) (x : ℕ) → reach A u < x → x < A.size → meant A u x ≡ negsuc (A.size - suc x)
  unfolding meant
  read_less u x g h = rw (lt-leb x (reach A u) g, lt-ltb x A.size h) refl

  pub read_itself : (u : Use) (x : ℕ) → x ≤ reach A u → meant A u x ≡ pos x
  unfolding meant
  read_itself u x h = rw (le-leb x (reach A u) h) refl

  pub read_back : ReadBack A
  unfolding ReadBack residue
  read_back (pos n) h = ap (meant A signed) (itself n (omega (arith, twice))) ∙ read_itself signed n h
  read_back (negsuc n) h = ap (meant A signed) e ∙ read_less signed (A.size - 1 - n) (omega (arith, twice)) (omega (arith, twice)) ∙ ap negsuc d
    where
      e : residue A (negsuc n) ≡ A.size - 1 - n
      e = ap (λ (m : ℕ). A.size - 1 - m) (mod-eq_of_lt (omega (arith, twice)))

      d : A.size - suc (A.size - 1 - n) ≡ n
      d = omega (arith, twice)

  -- every element is the residue of what it means
  pub meant_back : (u : Use) (x : ℕ) → x < A.size → residue A (meant A u x) ≡ x
  unfolding residue
  meant_back u x h = go (leb x (reach A u)) refl
    where
      go : (t : Bool) → leb x (reach A u) ≡ t → residue A (meant A u x) ≡ x
      go true e = ap (residue A) (read_itself u x (leb-true x _ e)) ∙ itself x (omega arith)
      go false e =
          let m : (A.size - suc x) % A.size ≡ A.size - suc x = mod-eq_of_lt (omega arith) in
          ap (residue A) (read_less u x (leb-false x _ e) h) ∙ ap (λ (n : ℕ). A.size - 1 - n) m ∙ omega arith

  -- ---- LISTS
  pub residue_at : (zs : List ℤ) (i : ℕ) → get_or (map (residue A) zs) i 0 ≡ residue A (get_or zs i (pos 0))
  residue_at zs i = ap (get_or (map (residue A) zs) i) (sym (itself 0 (omega arith))) ∙ get_or-map (residue A) zs i (pos 0)

  residue_near : (most : ℕ) → most ≤ reach A signed → (z : ℤ) → nat_abs z ≤ most → is_near A most (residue A z) ≡ true
  unfolding is_near residue
  residue_near most less (pos n) h = rw (itself n (omega (arith, twice)), le-leb n most h) refl
  residue_near most less (negsuc n) h =
      let e : n % A.size ≡ n = mod-eq_of_lt (omega (arith, twice)) in
      let x = A.size - 1 - n in
      rw (e, le-leb (A.size - most) x (omega arith), lt-ltb x A.size (omega (arith, twice))) (or_true (leb x most))

  pub residues_near : (most : ℕ) → most ≤ reach A signed → (zs : List ℤ) → within most (map nat_abs zs) ≡ true → near A most (map (residue A) zs) ≡ true
  unfolding within near all_of
  residues_near most less [] h = refl
  residues_near most less (z ∷ zs) h =
      let t = and_both (leb (nat_abs z) most) (within most (map nat_abs zs)) h in
      and_joined (residue_near most less z (leb-true _ most t.0)) (residues_near most less zs t.1)

  -- ---- SUMS
  pub sum_residue : AddsWhole A → (l : List ℕ) (f : ℕ → ℕ) (g : ℕ → ℤ) → ((k : ℕ) → In k l → f k ≡ residue A (g k))
      → sum A l f ≡ residue A (sum_of l g)
  unfolding sum sum_of AddsWhole
  sum_residue adds [] f g h = sym (itself 0 (omega arith))
  sum_residue adds (k ∷ l) f g h =
      ap₂ A.add (h k (inl refl)) (sum_residue adds l f g (λ i m. h i (inr m))) ∙ adds (g k) (sum_of l g)

difference_near : (a b : ℕ) → nat_abs (sub_ℕ a b) ≤ a + b
difference_near a b = go (ltb a b) refl
  where
    go : (t : Bool) → ltb a b ≡ t → nat_abs (cond t (negsuc (b - suc a)) (pos (a - b))) ≤ a + b
    go true e = omega (arith, ltb-true a b e)
    go false e = omega (arith, ltb-false a b e)

add_near : (a b : ℤ) → nat_abs (a +ℤ b) ≤ nat_abs a + nat_abs b
add_near (pos a) (pos b) = omega arith
add_near (pos a) (negsuc b) = difference_near a (suc b)
add_near (negsuc a) (pos b) = omega (arith, difference_near b (suc a))
add_near (negsuc a) (negsuc b) = omega arith

pub absolute_at : (most : ℕ) (zs : List ℤ) (i : ℕ) → within most (map nat_abs zs) ≡ true → nat_abs (get_or zs i (pos 0)) ≤ most
absolute_at most zs i h = rw (← get_or-map nat_abs zs i (pos 0)) (within_at most (map nat_abs zs) i h)

pub sum_near : (most : ℕ) (l : List ℕ) (f : ℕ → ℤ) → ((k : ℕ) → In k l → nat_abs (f k) ≤ most) → nat_abs (sum_of l f) ≤ length l * most
unfolding sum_of
sum_near most [] f h = omega arith
sum_near most (k ∷ l) f h = omega (arith, h k (inl refl), add_near (f k) (sum_of l f), sum_near most l f (λ i m. h i (inr m)))
