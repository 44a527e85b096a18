-- The laws of an arithmetic for fewer rows and columns.
--   laws_some   for some of them
--   laws_of     for a good plan, of those for all plans
--   system_of   rows of different numbers, and as many columns in order, are a Cauchy system
-- Assumes nothing.
use mathlib.Core.Path.{◌≡◌, sym, ◌∙◌}
use mathlib.Core.Logic.{◌≢◌}
use mathlib.Core.Bool.{true}
use mathlib.Core.List.{List}
use Prim.Native.Nat.{ℕ, ◌+◌, ◌≤◌}
use native.Mathlib.Omega.{arith}
use lib.ListN.{length}
use Rattle.algebra.specs.Sums.{In, Distinct}
use Rattle.algebra.specs.Cauchy.{System}
use Rattle.scheme.specs.Lists.{span}
use Rattle.scheme.specs.Limits.{most_users, most_threshold}
use Rattle.scheme.specs.Scheme.{Arithmetic, Plan, plan_good}
use Rattle.scheme.specs.Laws.{Laws}
use Rattle.scheme.proofs.Good.{good}
use Rattle.scheme.proofs.Lists.{span_in, span_once, span_length}

unfoldable pub laws_some : {A : Arithmetic} {n m k l : ℕ} → Laws A n m → k ≤ n → l ≤ m → Laws A k l
laws_some {n = n} {m} {k} {l} L few small = record {
  K = L.K;
  el = L.el;
  val = L.val;
  val_small = L.val_small;
  el_val = L.el_val;
  val_el = L.val_el;
  add_small = L.add_small;
  subtract_small = L.subtract_small;
  el_zero = L.el_zero;
  el_add = L.el_add;
  el_subtract = L.el_subtract;
  el_multiply = L.el_multiply;
  row = L.row;
  col = L.col;
  coefficient_right = λ i j a b. L.coefficient_right i j (row_in i a) (column_in j b);
  rows_apart = λ i j a b. L.rows_apart i j (row_in i a) (row_in j b);
  columns_apart = λ i j a b. L.columns_apart i j (column_in i a) (column_in j b);
  meet = λ i j a b. L.meet i j (row_in i a) (column_in j b);
}
  where
    row_in : (i : ℕ) → (1 ≤ i) × (i ≤ k) → (1 ≤ i) × (i ≤ n)
    row_in i h = (h.0, omega arith)

    column_in : (j : ℕ) → (1 ≤ j) × (j ≤ l) → (1 ≤ j) × (j ≤ m)
    column_in j h = (h.0, omega arith)

unfoldable pub laws_of : {A : Arithmetic} → Laws A most_users most_threshold → (p : Plan) → plan_good p ≡ true → Laws A p.users p.threshold
laws_of L p h = let g = good p h in laws_some L g.users_high (omega arith)

-- row a has the number f a; the columns are k, k + 1, ..
pub system_of : {A : Arithmetic} {n m : ℕ} (L : Laws A n m) (f : ℕ → ℕ) (rs : List ℕ) (c k : ℕ) → length rs ≡ c → Distinct rs
    → ((a : ℕ) → In a rs → (1 ≤ f a) × (f a ≤ n)) → ((a b : ℕ) → In a rs → In b rs → a ≢ b → f a ≢ f b) → 1 ≤ k → k + c ≤ m + 1
    → System L.K (λ a. L.row (f a)) L.col rs (span c k)
system_of {m = m} L f rs c k long once inside apart low high = record {
  square = long ∙ sym (span_length c k);
  rows_once = once;
  columns_once = span_once c k;
  rows_apart = λ a b h l ne. L.rows_apart (f a) (f b) (inside a h) (inside b l) (apart a b h l ne);
  columns_apart = λ i j h l. L.columns_apart i j (column_in i h) (column_in j l);
  meet = λ a j h l. L.meet (f a) j (inside a h) (column_in j l);
}
  where
    column_in : (j : ℕ) → In j (span c k) → (1 ≤ j) × (j ≤ m)
    column_in j h = let s = span_in c k j h in (omega arith, omega arith)
