-- Totals of figures within the bound: the whole-number sums, in every arithmetic that adds as whole numbers do.
--   bound_sharp                    the bound is no smaller than it need be
--   total_fits                     the whole-number totals of admissible counts are elements
--   total_whole, totals_whole      and the totals in the arithmetic
--   signed_read                    the totals of signed figures within the bound are read as their whole-number sums
--   changes_admissible             and the elements that are lent for such figures are admissible
--   meant_totals                   what figures of one use mean adds up to those totals
--   alike_whole                    tables whose figures mean the same totals are alike
-- Assumes nothing.
use mathlib.Core.Path.{◌≡◌, refl, sym, ap, ap₂, ◌∙◌}
use mathlib.Core.Logic.{inl, inr}
use mathlib.Core.Bool.{Bool}
use mathlib.Core.List.{List, [], ◌∷◌, map}
use Prim.Native.Nat.{ℕ, ◌+◌, ◌*◌, ◌-◌, ◌/◌, ◌≤◌, ◌<◌}
use native.Mathlib.Nat.{div-le_self, div-mul-le_self, div-lt_iff_lt-mul, mul-le-mul_right}
use native.Mathlib.Omega.{arith}
use lib.IntN.{ℤ, pos, nat_abs, ◌+ℤ◌}
use lib.ListN.{length, get_or, length-map}
use Rattle.algebra.specs.Sums.{In}
use Rattle.scheme.specs.Lists.{span}
use Rattle.scheme.specs.Scheme.{Arithmetic, sum, whole_sum, Plan, places, Use, counts, signed, reach, figure_bound, figures_good, in_set, users_in, total_at, whole_total}
use Rattle.scheme.specs.Promise.{Table, rows_good, element_rows, admissible}
use Rattle.scheme.specs.Signed.{residue, meant, sum_of, meant_total, Changes, changes_good, residues, change_total, ReadBack, SignedRead, MeantTotals, AlikeWhole}
use Rattle.scheme.specs.Totals.{TotalsFit}
use Rattle.scheme.specs.Laws.{AddsWhole}
use Rattle.scheme.specs.Sharp.{BoundSharp}
use Rattle.scheme.proofs.Lists.{map_below_same, members_le}
use Rattle.scheme.proofs.Sets.{users_in_in, users_in_size}
use Rattle.scheme.proofs.Elements.{within_at}
use Rattle.scheme.proofs.Keys.{elements_at}
use Rattle.scheme.proofs.Signed.{itself, read_itself, read_back, meant_back, residue_at, residues_near, absolute_at, sum_residue, sum_near}

whole_most : (most : ℕ) (l : List ℕ) (f : ℕ → ℕ) → ((k : ℕ) → In k l → f k ≤ most) → whole_sum l f ≤ length l * most
unfolding whole_sum
whole_most most [] f h = omega arith
whole_most most (k ∷ l) f h = omega (arith, h k (inl refl), whole_most most l f (λ i m. h i (inr m)))

whole_each : (c : ℕ) (l : List ℕ) (f : ℕ → ℕ) → ((k : ℕ) → In k l → f k ≡ c) → whole_sum l f ≡ length l * c
unfolding whole_sum
whole_each c [] f h = omega arith
whole_each c (k ∷ l) f h = omega (arith, h k (inl refl), whole_each c l f (λ i m. h i (inr m)))

sum_whole : (A : Arithmetic) → AddsWhole A → (l : List ℕ) (f : ℕ → ℕ) → whole_sum l f ≤ A.size - 1 → sum A l f ≡ whole_sum l f
unfolding sum whole_sum AddsWhole
sum_whole A adds [] f h = refl
sum_whole A adds (k ∷ l) f h =
    let n = whole_sum l f in
    ap (A.add (f k)) (sum_whole A adds l f (omega arith)) ∙ ap₂ A.add (sym (itself A (f k) (omega arith))) (sym (itself A n (omega arith)))
    ∙ adds (pos (f k)) (pos n) ∙ itself A (f k + n) h

sum_of_same : (l : List ℕ) (f g : ℕ → ℤ) → ((k : ℕ) → In k l → f k ≡ g k) → sum_of l f ≡ sum_of l g
unfolding sum_of
sum_of_same [] f g h = refl
sum_of_same (k ∷ l) f g h = ap₂ ◌+ℤ◌ (h k (inl refl)) (sum_of_same l f g (λ i m. h i (inr m)))

sum_of_counts : (l : List ℕ) (f : ℕ → ℕ) → sum_of l (λ k. pos (f k)) ≡ pos (whole_sum l f)
unfolding sum_of whole_sum
sum_of_counts [] f = refl
sum_of_counts (k ∷ l) f = ap (λ (z : ℤ). pos (f k) +ℤ z) (sum_of_counts l f)

module _ (A : Arithmetic) (p : Plan) where
  pub bound_sharp : BoundSharp A p
  unfolding BoundSharp whole_total figure_bound
  bound_sharp u x v i some all more =
      let b = figure_bound A u p in
      omega (
        arith,
        whole_each (b + 1) (users_in p v) (λ k. get_or (x k) i 0) (λ k m. let s = users_in_in p v k m in more k s.0 s.1),
        ap (λ (n : ℕ). n * (b + 1)) (users_in_size p v ∙ all),
        (div-lt_iff_lt-mul {k = p.users} {x = reach A u} {y = b + 1} some).0 (omega arith),
      )

  -- so many figures as the set has users, each within the bound, are within reach
  in_reach : (u : Use) (v : ℕ) → length (users_in p v) * figure_bound A u p ≤ reach A u
  unfolding figure_bound users_in
  in_reach u v =
      omega (arith, mul-le-mul_right (reach A u / p.users) (members_le (in_set v) p.users 1), div-mul-le_self (reach A u) p.users)

  module _ (x : Table) (v : ℕ) (ax : admissible A p (in_set v) (λ k. counts) x) where
    pub total_fits : TotalsFit A p x v
    unfolding TotalsFit whole_total rows_good figures_good reach
    total_fits i =
        let b = figure_bound A counts p in
        omega (
          arith,
          whole_most b (users_in p v) (λ k. get_or (x k) i 0)
              (λ k m. let s = users_in_in p v k m in within_at b (x k) i (ax k s.0 s.1 s.2).1),
          in_reach counts v,
        )

    pub total_whole : AddsWhole A → (i : ℕ) → total_at A p x v i ≡ whole_total p x v i
    unfolding total_at whole_total TotalsFit
    total_whole adds i = sum_whole A adds (users_in p v) (λ k. get_or (x k) i 0) (total_fits i)

    pub totals_whole : AddsWhole A → map (total_at A p x v) (span (places p) 0) ≡ map (whole_total p x v) (span (places p) 0)
    totals_whole adds = map_below_same _ _ (places p) (λ i h. total_whole adds i)

  -- ---- signed figures
  pub signed_read : AddsWhole A → SignedRead A p
  unfolding SignedRead total_at change_total changes_good ReadBack
  signed_read adds z v i good =
      let b = figure_bound A signed p in
      let near : nat_abs (change_total p z v i) ≤ reach A signed = omega (
        arith,
        sum_near b (users_in p v) (λ k. get_or (z k) i (pos 0))
            (λ k m. let s = users_in_in p v k m in absolute_at b (z k) i (good k s.0 s.1 s.2).1),
        in_reach signed v,
      ) in
      (ap (meant A signed) (sum_residue A adds (users_in p v) _ (λ k. get_or (z k) i (pos 0)) (λ k m. residue_at A (z k) i)) ∙ read_back A _ near, near)

  pub changes_admissible : (who : ℕ → Bool) (z : Changes) → changes_good A p who z → admissible A p who (λ k. signed) (residues A z)
  unfolding changes_good rows_good figures_good figure_bound
  changes_admissible who z good k lo hi w =
      let g = good k lo hi w in
      (length-map (z k) (residue A) ∙ g.0, residues_near A (figure_bound A signed p) (div-le_self _ _) (z k) g.1)

  pub meant_totals : MeantTotals A p
  unfolding meant_total whole_total change_total rows_good figures_good changes_good figure_bound ReadBack
  meant_totals = record {
    of_counts = λ x v i ax.
        let l = users_in p v in
        let b = figure_bound A counts p in
        sum_of_same l _ (λ k. pos (get_or (x k) i 0)) (λ k m.
        let s = users_in_in p v k m in
        let less = within_at b (x k) i (ax k s.0 s.1 s.2).1 in
        read_itself A counts (get_or (x k) i 0) (omega (arith, less, div-le_self (reach A counts) p.users)))
        ∙ sum_of_counts l (λ k. get_or (x k) i 0);
    of_changes = λ z v i good.
        let b = figure_bound A signed p in
        sum_of_same (users_in p v) _ (λ k. get_or (z k) i (pos 0)) (λ k m.
        let s = users_in_in p v k m in
        let near = absolute_at b (z k) i (good k s.0 s.1 s.2).1 in
        ap (meant A signed) (residue_at A (z k) i) ∙ read_back A (get_or (z k) i (pos 0)) (omega (arith, near, div-le_self (reach A signed) p.users)));
  }

  pub alike_whole : AddsWhole A → 0 < A.size → AlikeWhole A p
  unfolding AlikeWhole rows_good total_at meant_total
  alike_whole adds some uses v c x y ax ay own same =
      record { own = own; totals = λ i h. residue_total x ax i h ∙ ap (residue A) (same i h) ∙ sym (residue_total y ay i h) }
    where
      residue_total : (x : Table) → element_rows A p x → (i : ℕ) → i < places p → total_at A p x v i ≡ residue A (meant_total A p uses x v i)
      residue_total x ax i h = sum_residue A adds (users_in p v) (λ k. get_or (x k) i 0) _ (λ k m.
          let s = users_in_in p v k m in
          let e = ax k s.0 s.1 refl in
          sym (meant_back A (uses k) (get_or (x k) i 0) (elements_at A some (x k) i e.1)))
