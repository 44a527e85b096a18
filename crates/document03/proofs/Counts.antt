-- Document 03's demands for figures within the bound.
--   nothing_told        the third demand, from our Demand3
--   totals_right        the second: its whole-number sums are ours
-- Assumes nothing.
use Rattle.std.proofs.Common.{◌≡◌, refl, sym, ap, ap₂, ◌∙◌, Bool, true, false, cond, List, ◌∷◌, ℕ, zero, suc, ◌+◌, ◌-◌, ◌≤◌, zero-add, lit<, get_or}
use Rattle.scheme.specs.Lists.{keep, members}
use Rattle.scheme.specs.Scheme.{q, sixteen, whole_sum, counts, in_set, users_in, whole_total}
use Rattle.scheme.specs.Promise.{Table, rows_good, everyone, admissible, Demand3}
use Rattle.scheme.specs.Totals.{TotalsFit}
use Rattle.scheme.proofs.Elements.{figures_elements}
use Rattle.scheme.proofs.Signed.{sixteen_whole}
use Rattle.scheme.proofs.Whole.{total_fits, total_whole}
use Rattle.scheme.proofs.Privacy.Demand.{demand_3}
use Rattle.document03.specs.Ours.{our_plan}
use Rattle.document03.specs.Scheme as D
use Rattle.document03.specs.Service as S
use Rattle.document03.specs.Promise as P
use Rattle.document03.specs.Counts as C
use Rattle.document03.proofs.Sets.{places_same, in_set_same}
use Rattle.document03.proofs.Shares.{total_at_same}
use Rattle.document03.proofs.Shown.{elements_same, figures_same, from_ours}
use Rattle.document03.proofs.Answers as answers

-- ---- tables
counted_same : (p : D.Plan) (who : ℕ → Bool) (x : Table) → C.counted p x → admissible sixteen (our_plan p) who (λ k. counts) x
unfolding C.counted rows_good
counted_same p who x h k lo hi w = let s = h k lo hi in (s.0 ∙ places_same p, sym (figures_same p (x k)) ∙ s.1)

counted_elements : (p : D.Plan) (x : Table) → C.counted p x → P.admissible p x
unfolding C.counted P.admissible
counted_elements p x h k lo hi =
    let s = h k lo hi in
    let small = figures_elements sixteen (lit< tt) counts (our_plan p) (x k) (sym (figures_same p (x k)) ∙ s.1) in
    (s.0, elements_same (x k) ∙ small)

-- DOCUMENT 03'S THIRD DEMAND
pub nothing_told : C.NothingTold
unfolding C.NothingTold Demand3
nothing_told =
    from_ours C.counted (λ p. admissible sixteen p everyone (λ k. counts)) counted_elements (λ p. counted_same p everyone) (λ p. demand_3 p (λ k. counts))

-- ---- sums
whole_set_same : (n k v : ℕ) (f : ℕ → ℕ) → C.whole_set n k v f ≡ whole_sum (members (in_set v) n k) f
unfolding C.whole_set whole_sum
whole_set_same zero k v f = refl
whole_set_same (suc n) k v f =
    ap₂ (λ (b : Bool) (s : ℕ). cond b (f k) 0 + s) (in_set_same v k) (whole_set_same n (suc k) v f) ∙ step (in_set v k) (members (in_set v) n (suc k))
  where
    step : (b : Bool) (l : List ℕ) → cond b (f k) 0 + whole_sum l f ≡ whole_sum (keep b k l) f
    step true l = refl
    step false l = zero-add (whole_sum l f)

module _ (p : D.Plan) (x : Table) (cx : C.counted p x) (v : ℕ) where
  whole_same : (i : ℕ) → C.whole_at p x v i ≡ whole_total (our_plan p) x v i
  unfolding C.whole_at whole_total users_in
  whole_same i = whole_set_same p.k 1 v (λ k. get_or (x k) i 0)

  at_most : (i : ℕ) → C.whole_at p x v i ≤ q - 1
  unfolding TotalsFit
  at_most i = rw (whole_same i) (total_fits sixteen (our_plan p) x v (counted_same p (in_set v) x cx) i)

  totals_whole : (n i : ℕ) → P.survivor_totals n i p x v ≡ C.whole_totals n i p x v
  unfolding P.survivor_totals C.whole_totals
  totals_whole zero i = refl
  totals_whole (suc n) i =
      ap₂ ◌∷◌
      (total_at_same p x v i ∙ total_whole sixteen (our_plan p) x v (counted_same p (in_set v) x cx) sixteen_whole i ∙ sym (whole_same i))
      (totals_whole n (suc i))

-- DOCUMENT 03'S SECOND DEMAND
pub totals_right : C.TotalsRight
unfolding C.TotalsRight P.TotalsRight
totals_right p xs x s t l pg lg cx true-state fine inside h = (
  answers.totals_right p xs x s t l pg lg (counted_elements p x cx) true-state fine inside h
      ∙ ap (S.told_total s.round) (totals_whole p x cx s.survivors (D.places p) 0),
  at_most p x cx s.survivors,
)
