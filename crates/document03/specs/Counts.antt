-- What document 02's item 2 makes of document 03, in its words: figures within the bound, and totals that are whole-number sums.
--   figure_bound, figures_good   the largest figure; a row with none beyond it, which Entry.antt's message_refusal asks for by 32
--   counted                      tables of such rows, each admissible in document 03's sense
--   NothingToldOf, NothingTold    its third demand for the tables of a kind; for these
--   whole_set, whole_at, whole_totals    its sums over a set, nothing taken off
--   TotalsRight                 its second demand for them: the totals are whole-number sums, each below q
-- Assumes nothing: these are definitions.
use Rattle.std.specs.Prelude.{◌≡◌, Bool, true, ◌&&◌, cond, List, [], ◌∷◌, ℕ, zero, suc, ◌+◌, ◌-◌, ◌/◌, ◌^◌, ◌≤◌, ◌<◌, leb, length, get_or}
use Rattle.document03.specs.Scheme.{q, Plan, plan_good, places, in_set, ones, usable}
use Rattle.document03.specs.Service.{State, Line, Steps, replied, told_total, finish_round, finish_refusal}
use Rattle.document03.specs.Promise.{Table, list_good, Alike, Matching, within, RuleTrue}

unfoldable pub figure_bound : Plan → ℕ
figure_bound p = (q - 1) / p.k

unfoldable pub figures_good : Plan → List ℕ → Bool
figures_good p [] = true
figures_good p (x ∷ xs) = leb x (figure_bound p) && figures_good p xs

unfoldable pub counted : Plan → Table → Type 0
counted p x = (k : ℕ) → 1 ≤ k → k ≤ p.k → (length (x k) ≡ places p) × (figures_good p (x k) ≡ true)

unfoldable pub NothingToldOf : (kind : Plan → Table → Type 0) → Type 0
NothingToldOf kind =
    (p : Plan) (v c : ℕ) (x y : Table) → plan_good p ≡ true → usable p v ≡ true → c < 2 ^ p.k → ones p.k c ≤ p.t →
    kind p x → kind p y → Alike p v c x y → Matching p v c x y

-- THE THIRD DEMAND
unfoldable pub NothingTold : Type 0
NothingTold = NothingToldOf counted

unfoldable pub whole_set : (left k : ℕ) → (set : ℕ) → (ℕ → ℕ) → ℕ
whole_set zero k v f = 0
whole_set (suc n) k v f = cond (in_set v k) (f k) 0 + whole_set n (suc k) v f

unfoldable pub whole_at : Plan → Table → (set place : ℕ) → ℕ
whole_at p x v i = whole_set p.k 1 v (λ k. get_or (x k) i 0)

unfoldable pub whole_totals : (left i : ℕ) → Plan → Table → (set : ℕ) → List ℕ
whole_totals zero i p x v = []
whole_totals (suc n) i p x v = whole_at p x v i ∷ whole_totals n (suc i) p x v

-- THE SECOND DEMAND
unfoldable pub TotalsRight : Type 0
TotalsRight =
    (p : Plan) (xs : List ℕ) (x : Table) (s t : State) (l : Line) → plan_good p ≡ true → list_good p xs ≡ true → counted p x →
    RuleTrue p xs x s → finish_refusal s ≡ 0 → within (replied s) s.survivors p.k ≡ true → Steps finish_round s l t →
    (l ≡ told_total s.round (whole_totals (places p) 0 p x s.survivors)) × ((i : ℕ) → whole_at p x s.survivors i ≤ q - 1)
