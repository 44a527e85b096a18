-- Sums over the users of a set, from two tables: of the first users and of the others.
--   sum_split                a sum over a set is that over its low part and that over its high part, wherever it is split
--   sum_empty, sum_beyond    the empty set; users beyond the set
--   sum_top                  a set with one user more, behind all others
--   table_start, table_more  a table of sums: of the empty set; of one set more
--   tables_right             the sums over all sets, from both tables
--   Filling, filling_start, filling_top, filling_low, filling_small, filling_more, filling_same, filling_next, filling_end     a table filled, one set a turn
-- Assumes nothing.
use mathlib.Core.Path.{◌≡◌, refl, sym, ap, ap₂, ◌∙◌, subst}
use mathlib.Core.Logic.{◌≢◌}
use mathlib.Core.Bool.{Bool, true, false}
use mathlib.Core.List.{List, map}
use Prim.Native.Nat.{ℕ, zero, suc, ◌+◌, ◌*◌, ◌-◌, ◌/◌, ◌%◌, ◌^◌, ◌≤◌, ◌<◌}
use native.Mathlib.Nat.{add_comm, add-suc, add-zero, one-mul, pow-suc, pow-le-pow_right, one-le-pow, mod-eq_of_lt, add-mod_left, div-eq_of_lt, div-eq_of_lt-le}
use native.Mathlib.Numerals.{add-one}
use native.Mathlib.Decide.{dec_lt, ℕ_discrete}
use native.Mathlib.Omega.{arith}
use lib.ListN.{get_or, replicate, length-replicate}
use lib.Seq.{sets, length-sets}
use Rattle.scheme.specs.Limits.{most_blocks}
use Rattle.scheme.specs.Lists.{span, keep, members}
use Rattle.scheme.specs.Scheme.{Arithmetic, sum, in_set}
use Rattle.scheme.specs.Laws.{Laws}
use Rattle.scheme.specs.KeyParts.{sum_from, set_sum, half, half_sets, table_cells, added_row, Table, Tables}
use Rattle.scheme.proofs.Lists.{members_append, members_in, zeros_at}
use Rattle.scheme.proofs.Sets.{in_low, in_high, members_same, none_in}
use Rattle.scheme.proofs.Sums.{sum_small, sum_same, sum_append, add_none}
use Rattle.scheme.proofs.Making.Rows.{below_more, row_other, row_at}

-- ---- sums over a set
module _ (A : Arithmetic) where
  kept : (b : Bool) (k : ℕ) (l m : List ℕ) (f g : ℕ → ℕ) (j : ℕ) → f k ≡ g j → sum A l f ≡ sum A m g → sum A (keep b k l) f ≡ sum A (keep b j m) g
  unfolding sum
  kept true k l m f g j e h = ap₂ A.add e h
  kept false k l m f g j e h = h

  sum_members_shift : (t : ℕ → Bool) (n h k : ℕ) (f : ℕ → ℕ) → sum A (members t n (h + k)) f ≡ sum A (members (λ i. t (h + i)) n k) (λ i. f (h + i))
  unfolding sum
  sum_members_shift t zero h k f = refl
  sum_members_shift t (suc n) h k f =
      kept (t (h + k)) (h + k) (members t n (suc (h + k))) (members (λ i. t (h + i)) n (suc k)) f (λ i. f (h + i)) k refl
      (ap (λ (i : ℕ). sum A (members t n i) f) (sym (add-suc h k)) ∙ sum_members_shift t n h (suc k) f)

module _ {A : Arithmetic} {n m : ℕ} (L : Laws A n m) (zs : List ℕ) where
  pub sum_split : (s h k v b : ℕ) → sum_from A zs s (h + k) v b ≡ A.add (sum_from A zs s h (v % 2 ^ h) b) (sum_from A zs (s + h) k (v / 2 ^ h) b)
  unfolding sum_from
  sum_split s h k v b =
      let f : ℕ → ℕ = λ j. get_or zs ((s + (j - 1)) * most_blocks + b) 0 in
      let g : ℕ → ℕ = λ j. get_or zs ((s + h + (j - 1)) * most_blocks + b) 0 in
      let low : members (in_set v) h 1 ≡ members (in_set (v % 2 ^ h)) h 1 = members_same _ _ h 1 (λ i lo hi. in_low v h i lo (omega arith)) in
      let high : members (λ i. in_set v (h + i)) k 1 ≡ members (in_set (v / 2 ^ h)) k 1 = members_same _ _ k 1 (λ i lo hi. in_high v h i lo) in
      ap (λ (l : List ℕ). sum A l f) (members_append (in_set v) h k 1) ∙ sum_append A n m L (members (in_set v) h 1) (members (in_set v) k (1 + h)) f
      ∙ ap₂ A.add (ap (λ (l : List ℕ). sum A l f) low)
      (ap (λ (i : ℕ). sum A (members (in_set v) k i) f) (add_comm 1 h) ∙ sum_members_shift A (in_set v) k h 1 f
      ∙ ap (λ (l : List ℕ). sum A l (λ i. f (h + i))) high
      ∙ sum_same A (members (in_set (v / 2 ^ h)) k 1) (λ i. f (h + i)) g (λ i l.
      let lo = (members_in (in_set (v / 2 ^ h)) k 1 i l).0 in
      let e : s + (h + i - 1) ≡ s + h + (i - 1) = omega arith in ap (λ (x : ℕ). get_or zs (x * most_blocks + b) 0) e))

  pub sum_from_small : (s h v b : ℕ) → sum_from A zs s h v b < A.size
  unfolding sum_from
  sum_from_small s h v b = sum_small A n m L (members (in_set v) h 1) _

  sum_empty : (s h b : ℕ) → sum_from A zs s h 0 b ≡ 0
  unfolding sum_from sum
  sum_empty s h b = ap (λ (l : List ℕ). sum A l (λ j. get_or zs ((s + (j - 1)) * most_blocks + b) 0)) (none_in h 1)

  pub sum_beyond : (s h k v b : ℕ) → v < 2 ^ h → sum_from A zs s (h + k) v b ≡ sum_from A zs s h v b
  sum_beyond s h k v b low =
      sum_split s h k v b ∙ ap₂ (λ (x y : ℕ). A.add (sum_from A zs s h x b) (sum_from A zs (s + h) k y b)) (mod-eq_of_lt low) (div-eq_of_lt low)
      ∙ add_none A n m L _ _ (sum_from_small s h v b) (ap L.el (sum_empty (s + h) k b) ∙ L.el_zero)

  sum_one : (s k b : ℕ) → get_or zs (s * most_blocks + b) 0 < A.size → sum_from A zs s (1 + k) 1 b ≡ get_or zs (s * most_blocks + b) 0
  unfolding sum_from sum in_set
  sum_one s k b h = sum_beyond s 1 k 1 b (omega arith) ∙ ap (λ (i : ℕ). A.add (get_or zs (i * most_blocks + b) 0) 0) (add-zero s)
      ∙ add_none A n m L _ 0 h L.el_zero

  -- the users of x that come before user s + d, and that one
  pub sum_top : (s d k x b : ℕ) → get_or zs ((s + d) * most_blocks + b) 0 < A.size → x < 2 ^ d →
      sum_from A zs s (d + (1 + k)) (2 ^ d + x) b ≡ A.add (sum_from A zs s (d + (1 + k)) x b) (get_or zs ((s + d) * most_blocks + b) 0)
  sum_top s d k x b small low =
      let e : (2 ^ d + x) % 2 ^ d ≡ x = add-mod_left (2 ^ d) x ∙ mod-eq_of_lt low in
      let f : (2 ^ d + x) / 2 ^ d ≡ 1 = div-eq_of_lt-le {k = 1} (2 ^ d) (omega (arith, one-mul (2 ^ d))) (omega (arith, low)) in
      sum_split s d (1 + k) (2 ^ d + x) b ∙ ap₂ (λ (x y : ℕ). A.add (sum_from A zs s d x b) (sum_from A zs (s + d) (1 + k) y b)) e f
      ∙ ap₂ A.add (sym (sum_beyond s d (1 + k) x b low)) (sum_one (s + d) k b small)

-- ---- tables
module _ {A : Arithmetic} {n m : ℕ} (L : Laws A n m) {zs : List ℕ} where
  table_start : (s : ℕ) → Table A zs s 1 (replicate table_cells 0)
  table_start s = record {
    long = length-replicate {A = ℕ} table_cells 0;
    each = λ x h b l.
        let e : x ≡ 0 = omega arith in
        zeros_at table_cells (x * most_blocks + b) ∙ sym (ap (λ (y : ℕ). sum_from A zs s half y b) e ∙ sum_empty L zs s half b);
  }

  -- row 2 ^ d + y from row y and from the products of user s + d
  table_more : {s x : ℕ} {ts : List ℕ} → Table A zs s x ts → ((i : ℕ) → get_or zs i 0 < A.size) → (d y : ℕ) → d < half → x ≡ 2 ^ d + y → y < 2 ^ d →
      x < half_sets → Table A zs s (x + 1) (sets ts (x * most_blocks) (added_row A ts (y * most_blocks) zs ((s + d) * most_blocks)))
  unfolding added_row
  table_more {s} {x} {ts} t small d y few e l h =
      let f : ℕ → ℕ = λ b. A.add (get_or ts (y * most_blocks + b) 0) (get_or zs ((s + d) * most_blocks + b) 0) in
      let new : List ℕ = sets ts (x * most_blocks) (map f (span most_blocks 0)) in
      let k : d + (1 + (half - d - 1)) ≡ half = omega (arith, few) in
      record {
        long = length-sets ts (x * most_blocks) (map f (span most_blocks 0)) ∙ t.long;
        each = below_more (λ i. (b : ℕ) → b < most_blocks → get_or new (i * most_blocks + b) 0 ≡ sum_from A zs s half i b)
            (λ i g b c. row_other ts (x * most_blocks) f most_blocks refl (i * most_blocks + b) (λ a r same. omega arith) ∙ t.each i g b c) (λ b c.
            row_at ts (x * most_blocks) f most_blocks refl b _ refl c (omega (arith, t.long))
            ∙ ap (λ (z : ℕ). A.add z (get_or zs ((s + d) * most_blocks + b) 0)) (t.each y (omega arith) b c)
            ∙ sym (ap (λ (z : ℕ). sum_from A zs s half z b) e
            ∙ rw k at (sum_top L zs s d (half - d - 1) y b (small ((s + d) * most_blocks + b)) l)));
      }

  pub tables_right : {r w k : ℕ} {low high : List ℕ} → Table A zs 0 r low → Table A zs half w high → k ≤ half + half →
      ((v : ℕ) → v < 2 ^ k → (v % half_sets < r) × (v / half_sets < w)) → Tables A zs k low high
  unfolding set_sum
  tables_right {k = k} t u few in_rows = record {
    low_small = λ v h b c. rw (t.each _ (in_rows v h).0 b c) (sum_from_small L zs 0 half _ b);
    high_small = λ v h b c. rw (u.each _ (in_rows v h).1 b c) (sum_from_small L zs half half _ b);
    right = λ v h b c.
        let e : k + (half + half - k) ≡ half + half = omega (arith, few) in
        ap₂ A.add (t.each _ (in_rows v h).0 b c) (u.each _ (in_rows v h).1 b c) ∙ sym (sum_split L zs 0 half half v b)
        ∙ ap (λ (i : ℕ). sum_from A zs 0 i v b) (sym e) ∙ sum_beyond L zs 0 k (half + half - k) v b h;
  }

-- a table so far: the next row x, from `at` on, is of a set whose last user, behind the first s, is the d-th from 0; the set of that user alone
-- has the row from `top` on, and its products lie from `with` on
pub record Filling (A : Arithmetic) (zs : List ℕ) (s at top with : ℕ) (ts : List ℕ) : Type 0 where
  pub x : ℕ
  pub d : ℕ
  pub at_is : at ≡ x * most_blocks
  pub top_is : top ≡ 2 ^ d * most_blocks
  pub with_is : with ≡ (s + d) * most_blocks
  pub from : 2 ^ d ≤ x
  pub below : x < 2 ^ d + 2 ^ d
  pub table : Table A zs s x ts

module _ {A : Arithmetic} {n m : ℕ} (L : Laws A n m) {zs : List ℕ} {s : ℕ} where
  pub filling_start : (with : ℕ) → with ≡ s * most_blocks → Filling A zs s most_blocks most_blocks with (replicate table_cells 0)
  filling_start with e = record {
    x = 1;
    d = 0;
    at_is = refl;
    top_is = refl;
    with_is = e ∙ ap (λ (i : ℕ). i * most_blocks) (sym (add-zero s));
    from = omega arith;
    below = omega arith;
    table = table_start L s;
  }

  module _ {at top with : ℕ} {ts : List ℕ} (g : Filling A zs s at top with ts) where
    pub filling_top : top ≤ at
    filling_top = omega (arith, g.at_is, g.top_is, g.from)

    -- the last user's place
    pub filling_low : at < table_cells → g.d < half
    filling_low h = elim (dec_lt g.d half) [
      | yes few ↦ few
      | no many ↦ absurd (omega (arith, h, g.at_is, g.from, pow-le-pow_right {n = 2} (omega arith) {i = half} {j = g.d} (omega arith)))
    ]

    pub filling_small : (b : ℕ) → b < most_blocks → get_or ts (at - top + b) 0 < A.size
    filling_small b h =
        let y : ℕ = g.x - 2 ^ g.d in
        let e : at - top ≡ y * most_blocks = omega (arith, g.at_is, g.top_is) in
        let l : y < g.x = omega (arith, g.from, one-le-pow g.d 2 (omega arith)) in
        rw (e, g.table.each y l b h) (sum_from_small L zs s half y b)

    pub filling_more : ((i : ℕ) → get_or zs i 0 < A.size) → at < table_cells
        → Table A zs s (g.x + 1) (sets ts at (added_row A ts (at - top) zs with))
    filling_more small h =
        let y : ℕ = g.x - 2 ^ g.d in
        let e : at - top ≡ y * most_blocks = omega (arith, g.at_is, g.top_is) in
        rw (← e, ← g.with_is, ← g.at_is) at
        (table_more L g.table small g.d y (filling_low h) (omega (arith, g.from)) (omega (arith, g.below)) (omega (arith, g.at_is, h)))

    pub filling_same : {new : List ℕ} → Table A zs s (g.x + 1) new → at + most_blocks ≢ top + top → Filling A zs s (at + most_blocks) top with new
    filling_same t o = record {
      x = g.x + 1;
      d = g.d;
      at_is = omega (arith, g.at_is);
      top_is = g.top_is;
      with_is = g.with_is;
      from = omega (arith, g.from);
      below = elim (ℕ_discrete (g.x + 1) (2 ^ g.d + 2 ^ g.d)) [
        | yes e ↦ absurd (o (omega (arith, e, g.at_is, g.top_is)))
        | no less ↦ omega (arith, less, g.below)
      ];
      table = t;
    }

    pub filling_next : {new : List ℕ} → Table A zs s (g.x + 1) new → at + most_blocks ≡ top + top →
        Filling A zs s (at + most_blocks) (at + most_blocks) (with + most_blocks) new
    filling_next t e =
        let p : 2 ^ (g.d + 1) ≡ 2 ^ g.d + 2 ^ g.d = ap (λ (i : ℕ). 2 ^ i) (add-one g.d) ∙ pow-suc 2 g.d ∙ omega arith in
        record {
          x = g.x + 1;
          d = g.d + 1;
          at_is = omega (arith, g.at_is);
          top_is = omega (arith, e, g.top_is, p);
          with_is = omega (arith, g.with_is);
          from = omega (arith, e, g.at_is, g.top_is, p);
          below = omega (arith, e, g.at_is, g.top_is, p, one-le-pow g.d 2 (omega arith));
          table = t;
        }

    pub filling_end : (rows : ℕ) → at ≡ rows * most_blocks → Table A zs s rows ts
    filling_end rows e =
        let same : g.x ≡ rows = omega (arith, e, g.at_is) in
        subst (λ i. Table A zs s i ts) same g.table
