-- The threshold of demand 2 is sharp: U - 1 replies do not settle the sums.
--   sums_open            with any element as the first sum, the other unknowns are solved for
--   sums_open_sixteen    modulo 65521, for every good plan
--   threshold_needed     two lists of unknowns at the smallest plan
-- Assumes nothing.
use mathlib.Core.Path.{◌≡◌, refl, ap, ◌∙◌}
use mathlib.Core.Bool.{true, cond}
use mathlib.Core.List.{List, [], ◌∷◌, map}
use Prim.Native.Nat.{ℕ, suc, ◌+◌, ◌-◌, ◌≤◌, ◌<◌}
use native.Mathlib.Omega.{arith}
use lib.Dec.{eqb}
use lib.ListN.{length}
use borrow.Author.Tests.{eq-eqb, ne_eqb}
use Rattle.algebra.specs.Field.{sub}
use Rattle.algebra.specs.Sums.{In}
use Rattle.algebra.specs.Residue.{inverse, inverse_from}
use Rattle.algebra.specs.Cauchy.{System, coefficient, value, solution}
use Rattle.algebra.proofs.Field.{add_sub}
use Rattle.algebra.proofs.Sums.{sum_same as field-sum-same}
use Rattle.algebra.proofs.Cauchy.{solves}
use Rattle.scheme.specs.Lists.{span, all_of}
use Rattle.scheme.specs.Scheme.{Arithmetic, sixteen, elements, sum, Plan, plan_good, in_set, ones, users_in, row_value}
use Rattle.scheme.specs.Totals.{explains}
use Rattle.scheme.specs.Laws.{Laws}
use Rattle.scheme.specs.Sharp.{smallest, ThresholdNeeded, SumsOpen}
use Rattle.scheme.proofs.Tests.{and_joined}
use Rattle.scheme.proofs.Lists.{span_in, map_span_length, map_span_at, members_once, at_all_of, in_at}
use Rattle.scheme.proofs.Sums.{el_same, row_value_el, row_value_small}
use Rattle.scheme.proofs.Sets.{user_in, users_in_size}
use Rattle.scheme.proofs.Keys.{elements_map}
use Rattle.scheme.proofs.Laws.{system_of}
use Rattle.scheme.proofs.Modular.{sixteen_laws}
use Rattle.scheme.proofs.Pooling.Totals.{unknown}

module _ (A : Arithmetic) (p : Plan) (L : Laws A p.users p.threshold) (r : ℕ) (y : (k : ℕ) → ℕ) (c : ℕ)
    (fewer : ones p.users r + 1 ≡ p.threshold) where
  open L use {K, el, val, row, col}

  abbrev rs : List ℕ
  rs = users_in p r

  one_fewer : p.threshold ≡ suc (length rs)
  one_fewer = omega (arith, users_in_size p r)

  -- the columns that are solved for: all but the first
  abbrev solved : List ℕ
  solved = span (length rs) 2

  system : System K row col rs solved
  unfolding users_in
  system = system_of L (λ k. k) rs (length rs) 2 refl (members_once (in_set r) p.users 1) (user_in p r) (λ i k h l ne. ne)
      (omega arith) (omega (arith, one_fewer))

  abbrev rest : (k : ℕ) → K.F
  rest k = sub K (el (y k)) (K.mul (coefficient K row col k 1) (el c))

  columns : (j : ℕ) → K.F
  columns j = cond (eqb j 1) (el c) (solution K row col rs solved rest j)

  columns_right : (k : ℕ) → In k rs → value K row col (span p.threshold 1) k columns ≡ el (y k)
  unfolding columns
  columns_right k m = ap (λ (n : ℕ). value K row col (span n 1) k columns) one_fewer
      ∙ ap (K.add (K.mul (coefficient K row col k 1) (el c)))
      (field-sum-same K solved _ _ (λ j h. rw (ne_eqb j 1 (λ e. omega (arith, (span_in (length rs) 2 j h).0)))) ∙ solves system rest k m) ∙ add_sub K _ _

  ws : List ℕ
  ws = map (λ j. val (columns j)) (span p.threshold 1)

  ws_at : (j : ℕ) → 1 ≤ j → j ≤ p.threshold → unknown ws j ≡ val (columns j)
  unfolding ws
  ws_at j lo hi =
      let e : 1 + (j - 1) ≡ j = omega arith in
      map_span_at (λ j. val (columns j)) p.threshold 1 (j - 1) (omega arith) ∙ ap (λ (j : ℕ). val (columns j)) e

  ws_right : ((k : ℕ) → y k < A.size) → (k : ℕ) → In k rs → row_value A p.threshold k (unknown ws) ≡ y k
  ws_right small k m = el_same A _ _ L (row_value_small A _ _ L p.threshold k (unknown ws)) (small k)
      (row_value_el A _ _ L p.threshold k (unknown ws) (user_in p r k m) (omega arith) ∙ field-sum-same K (span p.threshold 1) _ _ (λ j h.
      let s = span_in p.threshold 1 j h in
      ap (K.mul (coefficient K row col k j)) (ap el (ws_at j s.0 (omega arith)) ∙ L.el_val (columns j))) ∙ columns_right k m)

pub sums_open : (A : Arithmetic) (p : Plan) → Laws A p.users p.threshold → SumsOpen A p
unfolding SumsOpen explains ws columns
sums_open A p L r y c fewer small h = record {
  unknowns = ws A p L r y c fewer;
  right = and_joined (and_joined (eq-eqb _ _ (map_span_length _ p.threshold 1)) (elements_map A _ (span p.threshold 1) (λ j m. L.val_small _)))
      (at_all_of _ (users_in p r) (λ a i. eq-eqb _ _ (ws_right A p L r y c fewer small _ (in_at (users_in p r) a i))));
  first_sum = ws_at A p L r y c fewer 1 (omega arith) (omega arith) ∙ L.val_el c h;
}

pub sums_open_sixteen : (p : Plan) → plan_good p ≡ true → SumsOpen sixteen p
sums_open_sixteen p h = sums_open sixteen p (sixteen_laws p h)

-- user 1 alone: its coefficients are 1 / 2 and 1 / 3, so 2 and - 3 give 0
pub threshold_needed : ThresholdNeeded sixteen smallest
unfolding explains elements all_of users_in in_set ones row_value sum inverse inverse_from
threshold_needed = record {
  r = 1;
  value = λ k. 0;
  u = 0 ∷ 0 ∷ [];
  w = 2 ∷ 65518 ∷ [];
  one_fewer = refl;
  u_explains = refl;
  w_explains = refl;
  sums_differ = λ e. omega arith;
}
