-- Elements as whole numbers (lib.IntN: `pos n` is n, `negsuc n` is −(n + 1), `sub_ℕ a b` is a − b), over an arithmetic as a parameter.
--   residue, meant            the element that stands for a whole number; the whole number that an element stands for in a use
--   sum_of, meant_total       a sum of whole numbers; what the figures of a table mean, over a set
--   Changes, changes_good     signed figures as whole numbers, a row for each user; of some users, within the plan's bound
--   residues, change_total    the table of elements that is lent; the whole-number sum over a set
--   ReadBack                 "every sum from −32760 to 32760 is read back from its residue"
--   SignedRead               so is the total of signed figures within the bound: it is the whole-number sum
--   MeantTotals              what figures of one use mean adds up to the totals that are promised of that use
--   AlikeWhole               tables whose figures mean the same totals are alike, uses in any mix
-- Assumes nothing: these are definitions.
use Rattle.std.specs.Prelude.{◌≡◌, Bool, true, cond, List, [], ◌∷◌, map, ℕ, ◌-◌, ◌%◌, ◌≤◌, ◌<◌, leb, ℤ, pos, negsuc, nat_abs, ◌+ℤ◌, length, get_or}
use Rattle.std.proofs.Math.IntN.{sub_ℕ}
use Rattle.scheme.specs.Scheme.{Arithmetic, within, Plan, places, Use, counts, signed, reach, figure_bound, in_set, users_in, total_at, whole_total}
use Rattle.scheme.specs.Promise.{Table, element_rows, admissible, Alike}

-- ---- WHOLE NUMBERS AND ELEMENTS
-- −(n + 1) and size − 1 − n leave the same remainder
unfoldable pub residue : Arithmetic → ℤ → ℕ
residue A (pos n) = n % A.size
residue A (negsuc n) = A.size - 1 - n % A.size

-- within the reach it is itself; of signed figures, "a total above 32760 is read as itself less q"
unfoldable pub meant : Arithmetic → Use → (element : ℕ) → ℤ
meant A u x = cond (leb x (reach A u)) (pos x) (sub_ℕ x A.size)

unfoldable pub sum_of : (indices : List ℕ) → (ℕ → ℤ) → ℤ
sum_of [] f = pos 0
sum_of (k ∷ l) f = f k +ℤ sum_of l f

unfoldable pub meant_total : Arithmetic → Plan → (uses : ℕ → Use) → Table → (set place : ℕ) → ℤ
meant_total A p u x v i = sum_of (users_in p v) (λ k. meant A (u k) (get_or (x k) i 0))

-- ---- SIGNED FIGURES
abbrev pub Changes : Type 0
Changes = (k : ℕ) → List ℤ

unfoldable pub changes_good : Arithmetic → Plan → (who : ℕ → Bool) → Changes → Type 0
changes_good A p w z =
    (k : ℕ) → 1 ≤ k → k ≤ p.users → w k ≡ true → (length (z k) ≡ places p) × (within (figure_bound A signed p) (map nat_abs (z k)) ≡ true)

-- "it is lent and travels as its residue modulo q"
abbrev pub residues : Arithmetic → Changes → Table
residues A z k = map (residue A) (z k)

unfoldable pub change_total : Plan → Changes → (set place : ℕ) → ℤ
change_total p z v i = sum_of (users_in p v) (λ k. get_or (z k) i (pos 0))

-- ---- STATEMENTS
unfoldable pub ReadBack : Arithmetic → Type 0
ReadBack A = (z : ℤ) → nat_abs z ≤ reach A signed → meant A signed (residue A z) ≡ z

-- the survivors alone need have reported signed figures; in `sixteen` the total lies within 32760 of zero
unfoldable pub SignedRead : Arithmetic → Plan → Type 0
SignedRead A p =
    (z : Changes) (v i : ℕ) → changes_good A p (in_set v) z →
    (meant A signed (total_at A p (residues A z) v i) ≡ change_total p z v i) × (nat_abs (change_total p z v i) ≤ reach A signed)

pub record MeantTotals (A : Arithmetic) (p : Plan) : Type 0 where
  pub of_counts : (x : Table) (v i : ℕ) → admissible A p (in_set v) (λ k. counts) x → meant_total A p (λ k. counts) x v i ≡ pos (whole_total p x v i)
  pub of_changes : (z : Changes) (v i : ℕ) → changes_good A p (in_set v) z → meant_total A p (λ k. signed) (residues A z) v i ≡ change_total p z v i

unfoldable pub AlikeWhole : Arithmetic → Plan → Type 0
AlikeWhole A p =
    (uses : ℕ → Use) (v c : ℕ) (x y : Table) → element_rows A p x → element_rows A p y →
    ((k : ℕ) → 1 ≤ k → k ≤ p.users → in_set c k ≡ true → x k ≡ y k) →
    ((i : ℕ) → i < places p → meant_total A p uses x v i ≡ meant_total A p uses y v i) → Alike A p v c x y
