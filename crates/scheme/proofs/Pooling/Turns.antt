-- The search for the user to set aside, a turn at a time. A turn solves the first U rows and compares the further ones: the further row
-- that alone does not fit is the user; where two do not fit, none of the further ones is. Then the last U rows go to the front.
--   Place, in_place, Arranged    where an entry stands; the users of a set, in some order
--   Turn, turn_agrees, turn_aside, turn_odd, turn_none     a turn, and what it shows
--   Turned, arranged_turned      the rows of the next turn
--   Cleared, cleared_start, cleared_more, cleared_end      the rows that no turn so far leaves to be set aside
-- Assumes nothing.
use mathlib.Core.Path.{◌≡◌, sym, ap, ◌∙◌, subst}
use mathlib.Core.Logic.{◌≢◌, ⊎_elim}
use mathlib.Core.Bool.{Bool, true, false}
use mathlib.Core.List.{List, [], ◌∷◌}
use Prim.Native.Nat.{ℕ, suc, ◌+◌, ◌-◌, ◌≤◌, ◌<◌}
use native.Mathlib.Decide.{dec_lt, ℕ_discrete}
use native.Mathlib.Omega.{arith}
use lib.ListN.{length, get_or}
use Rattle.algebra.specs.Sums.{In}
use Rattle.scheme.specs.Scheme.{Arithmetic, Plan, in_set, row_value}
use Rattle.scheme.specs.Totals.{explains_all}
use Rattle.scheme.specs.Aside.{without, NoChoice, Aside}
use Rattle.scheme.specs.Laws.{Laws}
use Rattle.scheme.proofs.Tests.{holds}
use Rattle.scheme.proofs.Pooling.Totals.{unknown, Enough, Explained, one_explained}
use Rattle.scheme.proofs.Pooling.Fits.{Fits, fits, fits_back}
use Rattle.scheme.proofs.Pooling.Without.{without_other, without_in}

pub record Place (rs : List ℕ) (m k : ℕ) : Type 0 where
  pub at : ℕ
  pub low : at < m
  pub same : get_or rs at 0 ≡ k

pub in_place : (l : List ℕ) (k : ℕ) → In k l → Place l (length l) k
in_place [] k m = absurd m
in_place (x ∷ l) k m = ⊎_elim (λ e. record { at = 0; low = omega arith; same = sym e })
    (λ h. let c = in_place l k h in record { at = suc c.at; low = omega (arith, c.low); same = c.same }) m

-- the first m of the rows
pub record Arranged (p : Plan) (r : ℕ) (rs : List ℕ) (m : ℕ) : Type 0 where
  pub inside : (a : ℕ) → a < m → (1 ≤ get_or rs a 0) × (get_or rs a 0 ≤ p.users) × (in_set r (get_or rs a 0) ≡ true)
  pub apart : (a c : ℕ) → a < m → c < m → a ≢ c → get_or rs a 0 ≢ get_or rs c 0
  pub place : (k : ℕ) → 1 ≤ k → k ≤ p.users → in_set r k ≡ true → Place rs m k

-- ---- a turn: f explains the first U rows, and the test says of which further rows too
pub record Turn (A : Arithmetic) (p : Plan) (r : ℕ) (y : (k block : ℕ) → ℕ) (rs : List ℕ) (m : ℕ) (f : (block : ℕ) → List ℕ) (test : ℕ → Bool) : Type 0 where
  pub rows : Arranged p r rs m
  pub many : p.threshold ≤ m
  pub first : (b : ℕ) → b < p.blocks → Explained A p rs p.threshold (λ k. y k b) (f b)
  pub told : (a : ℕ) → a < m → test a ≡ true → (b : ℕ) → b < p.blocks → row_value A p.threshold (get_or rs a 0) (unknown (f b)) ≡ y (get_or rs a 0) b
  pub back : (a : ℕ) → a < m → ((b : ℕ) → b < p.blocks → row_value A p.threshold (get_or rs a 0) (unknown (f b)) ≡ y (get_or rs a 0) b) → test a ≡ true

module _ (A : Arithmetic) (p : Plan) (r : ℕ) (y : (k block : ℕ) → ℕ) (rs : List ℕ) (m : ℕ) (f : (block : ℕ) → List ℕ) (test : ℕ → Bool)
    (t : Turn A p r y rs m f test) where
  abbrev n : ℕ
  n = p.threshold

  row_right : (a b : ℕ) → a < m → b < p.blocks → (n ≤ a → test a ≡ true) → row_value A n (get_or rs a 0) (unknown (f b)) ≡ y (get_or rs a 0) b
  row_right a b l i h = elim (dec_lt a n) [ yes few ↦ (t.first b i).fits a few | no more ↦ t.told a l (h (omega arith)) b i ]

  -- the rows of a part of the set
  part_fits : (v : ℕ) → ((k : ℕ) → 1 ≤ k → in_set v k ≡ true → in_set r k ≡ true)
      → ((a : ℕ) → n ≤ a → a < m → in_set v (get_or rs a 0) ≡ true → test a ≡ true) → Fits A p v y f
  part_fits v part h = record {
    long = λ b i. (t.first b i).long;
    small = λ b i. (t.first b i).small;
    right = λ b k i lo hi e.
        let c = t.rows.place k lo hi (part k lo e) in
        subst (λ (k : ℕ). row_value A n k (unknown (f b)) ≡ y k b) c.same
        (row_right c.at b c.low i (λ l. h c.at l c.low (ap (in_set v) c.same ∙ e)));
  }

  pub turn_agrees : ((a : ℕ) → p.threshold ≤ a → a < m → test a ≡ true) → explains_all A p r y f ≡ true
  turn_agrees h = fits_back A p r y f (part_fits r (λ k lo e. e) (λ a l few e. h a l few))

  pub turn_aside : (c : ℕ) → p.threshold ≤ c → c < m → ((a : ℕ) → p.threshold ≤ a → a < m → a ≢ c → test a ≡ true) → Aside A p r y (get_or rs c 0) f
  turn_aside c lo few h =
      let s = t.rows.inside c few in
      record {
        low = s.0;
        high = s.1;
        inside = s.2;
        others = fits_back A p _ y f (part_fits (without r (get_or rs c 0)) (λ k lk e. (without_in r _ k s.0 s.2 lk e).1) (λ a l i e.
            h a l i (λ d. (without_in r _ _ s.0 s.2 (t.rows.inside a i).0 e).0 (ap (λ (a : ℕ). get_or rs a 0) d))));
      }

  -- what explains the first U rows and another one is f, so that the other one passes
  module _ (L : Laws A p.users p.threshold) where
    passes : (v : ℕ) (g : (block : ℕ) → List ℕ) → Fits A p v y g → ((a : ℕ) → a < n → in_set v (get_or rs a 0) ≡ true)
        → (a : ℕ) → a < m → in_set v (get_or rs a 0) ≡ true → test a ≡ true
    passes v g h first a l e =
        let row : (a : ℕ) → a < n → a < m = λ a i. omega (arith, t.many) in
        let rows-enough : Enough p rs = record {
          inside = λ a i. let s = t.rows.inside a (row a i) in (s.0, s.1);
          apart = λ a b i j. t.rows.apart a b (row a i) (row b j);
        } in
        t.back a l (λ b i.
        let known : Explained A p rs n (λ k. y k b) (g b) = record {
          long = h.long b i;
          small = h.small b i;
          fits = λ a j. let s = t.rows.inside a (row a j) in h.right b _ i s.0 s.1 (first a j);
        } in
        let same : g b ≡ f b = one_explained A p L rs rows-enough (λ k. y k b) n n (g b) (f b) (omega arith) (omega arith) known (t.first b i) in
        let s = t.rows.inside a l in
        ap (λ (w : List ℕ). row_value A n (get_or rs a 0) (unknown w)) (sym same) ∙ h.right b _ i s.0 s.1 e)

    pub turn_odd : (a : ℕ) → a < m → test a ≡ false → NoChoice A p r y
    turn_odd a l e g h = holds (sym e ∙ passes r g (fits A p r y g h) (λ a i. (t.rows.inside a (omega (arith, t.many))).2) a l (t.rows.inside a l).2)

    pub turn_none : (a c : ℕ) → a < m → c < m → a ≢ c → test a ≡ false → test c ≡ false
        → (j : ℕ) → p.threshold ≤ j → j < m → (g : (block : ℕ) → List ℕ) → Aside A p r y (get_or rs j 0) g → ⊥
    turn_none a c la lc ne ea ec j lo lj g s =
        elim (ℕ_discrete a j) [ yes e ↦ other c lc (λ d. ne (e ∙ sym d)) ec | no d ↦ other a la d ea ]
      where
        left : (i : ℕ) → i < m → i ≢ j → in_set (without r (get_or rs j 0)) (get_or rs i 0) ≡ true
        left i l d =
            let u = t.rows.inside i l in
            without_other r _ _ s.low s.inside u.0 (t.rows.apart i j l lj d) ∙ u.2

        other : (i : ℕ) → i < m → i ≢ j → test i ≡ false → ⊥
        other i l d e =
            holds (sym e ∙ passes (without r (get_or rs j 0)) g (fits A p _ y g s.others) (λ a k. left a (omega arith) (λ d. omega arith)) i l (left i l d))

-- ---- the next turn: the rows from m - n on come first, and the first ones last
pub record Turned (n m : ℕ) (rs next : List ℕ) : Type 0 where
  pub front : (j : ℕ) → j < n → get_or next j 0 ≡ get_or rs (j + (m - n)) 0
  pub behind : (j : ℕ) → n ≤ j → j < m → get_or next j 0 ≡ get_or rs (j - n) 0

module _ (p : Plan) (r : ℕ) (rs next : List ℕ) (m : ℕ) (few : p.threshold ≤ m) (h : Turned p.threshold m rs next) where
  -- where a row stood
  old : (j : ℕ) → j < m → Place rs m (get_or next j 0)
  old j l = elim (dec_lt j p.threshold) [
    | yes i ↦ record { at = j + (m - p.threshold); low = omega arith; same = sym (h.front j i) }
    | no i ↦ record { at = j - p.threshold; low = omega arith; same = sym (h.behind j (omega arith) l) }
  ]

  -- and where it goes
  new : (a : ℕ) → a < m → Place next m (get_or rs a 0)
  new a l = elim (dec_lt a (m - p.threshold)) [
    | yes i ↦
        let e : a + p.threshold - p.threshold ≡ a = omega arith in
        record { at = a + p.threshold; low = omega arith; same = h.behind (a + p.threshold) (omega arith) (omega arith) ∙ ap (λ (i : ℕ). get_or rs i 0) e }
    | no i ↦
        let e : a - (m - p.threshold) + (m - p.threshold) ≡ a = omega arith in
        record { at = a - (m - p.threshold); low = omega arith; same = h.front (a - (m - p.threshold)) (omega arith) ∙ ap (λ (i : ℕ). get_or rs i 0) e }
  ]

  old_apart : Arranged p r rs m → (a c : ℕ) → a < m → c < m → a ≢ c → get_or next a 0 ≢ get_or next c 0
  old_apart g a c la lc ne e =
      let n = p.threshold in
      elim (dec_lt a n) [
        | yes i ↦ elim (dec_lt c n) [
          | yes j ↦ g.apart (a + (m - n)) (c + (m - n)) (omega arith) (omega arith) (λ d. ne (omega arith)) (sym (h.front a i) ∙ e ∙ h.front c j)
          | no j ↦
              g.apart (a + (m - n)) (c - n) (omega arith) (omega arith) (λ d. omega arith) (sym (h.front a i) ∙ e ∙ h.behind c (omega arith) lc)
        ]
        | no i ↦ elim (dec_lt c n) [
          | yes j ↦
              g.apart (a - n) (c + (m - n)) (omega arith) (omega arith) (λ d. omega arith) (sym (h.behind a (omega arith) la) ∙ e ∙ h.front c j)
          | no j ↦ g.apart (a - n) (c - n) (omega arith) (omega arith) (λ d. ne (omega arith))
              (sym (h.behind a (omega arith) la) ∙ e ∙ h.behind c (omega arith) lc)
        ]
      ]

  pub arranged_turned : Arranged p r rs m → Arranged p r next m
  arranged_turned g = record {
    inside = λ a l.
        let o = old a l in
        subst (λ (k : ℕ). (1 ≤ k) × (k ≤ p.users) × (in_set r k ≡ true)) o.same (g.inside o.at o.low);
    apart = old_apart g;
    place = λ k lo hi e. let c = g.place k lo hi e in subst (Place next m) c.same (new c.at c.low);
  }

-- ---- rows that cannot be set aside, once `from` rows were compared
pub record Cleared (A : Arithmetic) (p : Plan) (r : ℕ) (y : (k block : ℕ) → ℕ) (rs : List ℕ) (m from : ℕ) : Type 0 where
  pub first : (j : ℕ) → j < p.threshold → p.threshold ≤ j + from → (g : (block : ℕ) → List ℕ) → Aside A p r y (get_or rs j 0) g → ⊥
  pub further : (j : ℕ) → p.threshold ≤ j → j < m → m + p.threshold ≤ j + from → (g : (block : ℕ) → List ℕ) → Aside A p r y (get_or rs j 0) g → ⊥

module _ (A : Arithmetic) (p : Plan) (r : ℕ) (y : (k block : ℕ) → ℕ) (rs : List ℕ) (m : ℕ) where
  pub cleared_start : Cleared A p r y rs m 0
  cleared_start = record { first = λ j l i. absurd (omega arith); further = λ j l i k. absurd (omega arith) }

  module _ (from : ℕ) (c : Cleared A p r y rs m from) where
    pub cleared_more : (next : List ℕ) → Turned p.threshold m rs next
        → ((j : ℕ) → p.threshold ≤ j → j < m → (g : (block : ℕ) → List ℕ) → Aside A p r y (get_or rs j 0) g → ⊥)
        → p.threshold ≤ m → Cleared A p r y next m (from + (m - p.threshold))
    cleared_more next h none few = record {
      first = λ j l i g a. old (j + (m - p.threshold)) (omega arith) (omega arith) g (subst (λ (k : ℕ). Aside A p r y k g) (h.front j l) a);
      further = λ j l i k g a. old (j - p.threshold) (omega arith) (omega arith) g (subst (λ (k : ℕ). Aside A p r y k g) (h.behind j l i) a);
    }
      where
        old : (j : ℕ) → j < m → p.threshold ≤ j + from → (g : (block : ℕ) → List ℕ) → Aside A p r y (get_or rs j 0) g → ⊥
        old j l i = elim (dec_lt j p.threshold) [ yes e ↦ c.first j e i | no e ↦ none j (omega arith) l ]

    pub cleared_end : Arranged p r rs m → p.threshold ≤ m → m ≤ from → (k : ℕ) (g : (block : ℕ) → List ℕ) → Aside A p r y k g → ⊥
    cleared_end rows few l k g a =
        let o = rows.place k a.low a.high a.inside in
        let s = subst (λ (k : ℕ). Aside A p r y k g) (sym o.same) a in
        elim (dec_lt o.at p.threshold) [
          | yes i ↦ c.first o.at i (omega arith) g s
          | no i ↦ c.further o.at (omega arith) o.low (omega arith) g s
        ]
