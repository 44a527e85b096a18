-- The premises of demand 3 on the colluders are sharp at every good plan, in every arithmetic with the laws, the second one where there are
-- more elements than users.
--   own_needed          tables that differ for a colluder: no matching
--   collusion_needed    T + 1 colluders: no matching. Users 1 to T + 1 collude, all users but the last one are the set, and the last one
--                       has the figure 0 or 1 as the last item of block 0
--   own_needed_sixteen, collusion_needed_sixteen   modulo 65521
-- Assumes nothing.
use mathlib.Core.Path.{◌≡◌, refl, sym, ap, ◌∙◌}
use mathlib.Core.Logic.{◌≢◌}
use mathlib.Core.Bool.{Bool, true, false, cond}
use mathlib.Core.List.{map}
use Prim.Native.Nat.{ℕ, ◌+◌, ◌*◌, ◌-◌, ◌≤◌, ◌<◌}
use native.Mathlib.Nat.{le-div_iff_mul-le}
use native.Mathlib.Omega.{arith}
use lib.Dec.{eqb}
use lib.ListN.{get_or}
use borrow.Author.Tests.{eq-eqb, ne_eqb}
use Rattle.algebra.specs.Sums.{In}
use Rattle.algebra.proofs.Sums.{sum_same as field-sum-same, sum_pick}
use Rattle.scheme.specs.Lists.{span}
use Rattle.scheme.specs.Scheme.{Arithmetic, sixteen, Plan, plan_good, items, places, counts, reach, figure_bound, figures_good, in_set, users_in, total_at}
use Rattle.scheme.specs.Promise.{Table, rows_good, everyone, admissible}
use Rattle.scheme.specs.Good.{Good}
use Rattle.scheme.specs.Laws.{Laws}
use Rattle.scheme.specs.Sharp.{OwnNeeded, CollusionNeeded}
use Rattle.scheme.proofs.Lists.{map_same, map_span_length, map_below_at, members_once}
use Rattle.scheme.proofs.Sums.{el_same, sum_same, sum_el}
use Rattle.scheme.proofs.Sets.{users_in_in, in_users, place_lt}
use Rattle.scheme.proofs.Elements.{within_map}
use Rattle.scheme.proofs.Good.{good}
use Rattle.scheme.proofs.Modular.{sixteen_laws}
use Rattle.scheme.proofs.Privacy.Sharp.{zeros, zeros_good}
use Rattle.scheme.proofs.Privacy.FirstUsers.{first, first_in, first_out, first_size, first_below, first_usable}
use Rattle.scheme.proofs.Privacy.Settled.{own_same, last_total}

pub own_needed : (A : Arithmetic) (p : Plan) → Laws A p.users p.threshold → OwnNeeded A p
unfolding OwnNeeded
own_needed A p L v c k x y ax ay lo hi e ne m =
    ne (own_same A p L v c x y (zeros p) (m.partner (zeros p)) (m.same (zeros p) (zeros_good A p L)) ax ay k (in_users p c k lo hi e))

pub own_needed_sixteen : (p : Plan) → plan_good p ≡ true → OwnNeeded sixteen p
own_needed_sixteen p h = own_needed sixteen p (sixteen_laws p h)

module _ (A : Arithmetic) (p : Plan) (L : Laws A p.users p.threshold) (g : Good p) (large : p.users < A.size) where
  one_within : 1 ≤ figure_bound A counts p
  unfolding figure_bound reach
  one_within = (le-div_iff_mul-le {k = p.users} {x = 1} {y = A.size - 1} (omega arith)).1 (omega arith)

  -- the last item of block 0
  last : ℕ
  last = 0 * items p + (items p - 1)

  last_lt : last < places p
  unfolding last items
  last_lt = place_lt p 0 (items p) (omega arith) (omega arith) (omega arith)

  figure : (n k i : ℕ) → ℕ
  figure n k i = cond (eqb i last) (cond (eqb k p.users) n 0) 0

  table : (n : ℕ) → Table
  table n k = map (figure n k) (span (places p) 0)

  table_at : (n k i : ℕ) → i < places p → get_or (table n k) i 0 ≡ figure n k i
  unfolding table
  table_at n k i h = map_below_at (figure n k) (places p) i h

  figure_small : (n k i most : ℕ) → n ≤ most → figure n k i ≤ most
  unfolding figure
  figure_small n k i most h = elim (eqb i last) as (λ s. cond s (cond (eqb k p.users) n 0) 0 ≤ most) [
    | true ↦ elim (eqb k p.users) as (λ t. cond t n 0 ≤ most) [ true ↦ h | false ↦ omega arith ]
    | false ↦ omega arith
  ]

  table_good : (n : ℕ) → n ≤ figure_bound A counts p → admissible A p everyone (λ k. counts) (table n)
  unfolding rows_good figures_good table
  table_good n h k lo hi w =
      (map_span_length (figure n k) (places p) 0, within_map (figure_bound A counts p) (figure n k) (span (places p) 0) (λ i m. figure_small n k i _ h))

  -- only the last user has another figure, and only there
  user_same : (k i : ℕ) → k ≢ p.users → figure 0 k i ≡ figure 1 k i
  unfolding figure
  user_same k i ne = rw (ne_eqb k p.users ne)

  place_same : (k i : ℕ) → i ≢ last → figure 0 k i ≡ figure 1 k i
  unfolding figure
  place_same k i ne = rw (ne_eqb i last ne)

  totals_same : (w i : ℕ) → i < places p → ((k : ℕ) → In k (users_in p w) → figure 0 k i ≡ figure 1 k i) →
      total_at A p (table 0) w i ≡ total_at A p (table 1) w i
  unfolding total_at
  totals_same w i h f = sum_same A (users_in p w) _ _ (λ k m. table_at 0 k i h ∙ f k m ∙ sym (table_at 1 k i h))

  total_all : (n : ℕ) → L.el (total_at A p (table n) (first p.users) last) ≡ L.el n
  unfolding total_at figure users_in
  total_all n =
      let K = L.K in
      sum_el A _ _ L (users_in p (first p.users)) (λ k. get_or (table n k) last 0)
      ∙ field-sum-same K (users_in p (first p.users)) _ (λ k. L.el (cond (eqb k p.users) n 0)) (λ k m.
      ap L.el (table_at n k last last_lt ∙ ap (λ (t : Bool). cond t (cond (eqb k p.users) n 0) 0) (eq-eqb last last refl)))
      ∙ sum_pick K (users_in p (first p.users)) _ p.users (members_once (in_set (first p.users)) p.users 1)
      (in_users p _ p.users (omega arith) (omega arith) (first_in p.users p.users (omega arith) (omega arith))) (λ k m ne.
      ap (λ (t : Bool). L.el (cond t n 0)) (ne_eqb k p.users ne) ∙ L.el_zero)
      ∙ ap (λ (t : Bool). L.el (cond t n 0)) (eq-eqb p.users p.users refl)

  pub collusion_needed : CollusionNeeded A p
  unfolding last items table
  collusion_needed = record {
    v = first (p.users - 1);
    c = first (p.collusion + 1);
    x = table 0;
    y = table 1;
    usable_set = first_usable p (p.users - 1) (omega arith) (omega arith);
    below = first_below p.users (p.collusion + 1) (omega arith);
    one_more = first_size p.users (p.collusion + 1) (omega arith);
    x_admissible = table_good 0 (omega arith);
    y_admissible = table_good 1 one_within;
    alike = record {
      own = λ k lo hi e. map_same (figure 0 k) (figure 1 k) (span (places p) 0)
          (λ i m. user_same k i (λ d. omega (arith, first_out (p.collusion + 1) k e)));
      totals = λ i h. totals_same (first (p.users - 1)) i h
          (λ k m. user_same k i (λ d. omega (arith, first_out (p.users - 1) k (users_in_in p (first (p.users - 1)) k m).2)));
    };
    no_matching = λ m.
        let settled = last_total A p L (first (p.users - 1)) (first (p.collusion + 1)) (table 0) (table 1) (zeros p) (m.partner (zeros p))
        (m.same (zeros p) (zeros_good A p L)) (first_size p.users (p.collusion + 1) (omega arith)) g.collusion_high
        (first p.users) 0 (first_usable p p.users (omega arith) (omega arith))
        (λ k n. let s = users_in_in p (first (p.collusion + 1)) k n in first_in p.users k s.0 s.1) (omega arith)
        (λ j lo hi. totals_same (first p.users) _ (place_lt p 0 j (omega arith) lo (omega arith)) (λ k n. place_same k _ (λ d. omega arith))) in
        let e : ◌≡◌ {A = ℕ} 0 1 = el_same A _ _ L (omega arith) (omega arith) (sym (total_all 0) ∙ ap L.el settled ∙ total_all 1) in
        omega arith;
  }

pub collusion_needed_sixteen : (p : Plan) → plan_good p ≡ true → CollusionNeeded sixteen p
collusion_needed_sixteen p h = let g = good p h in collusion_needed sixteen p (sixteen_laws p h) g (omega arith)
