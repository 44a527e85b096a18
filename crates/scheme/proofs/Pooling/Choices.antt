-- Choices of the unknowns that explain replies.
--   same_choice     at least U replies leave one
--   totals_same     choices that are equal at each block give equal totals
--   decided         some choice explains at least U replies, or none does
-- Assumes nothing.
use mathlib.Core.Path.{◌≡◌, refl, sym, ap, ◌∙◌}
use mathlib.Core.Logic.{◌⊎◌, inl, inr}
use mathlib.Core.Bool.{true, false}
use mathlib.Core.List.{List}
use Prim.Native.Nat.{ℕ, ◌/◌, ◌%◌, ◌≤◌, ◌<◌}
use native.Mathlib.Nat.{mul-zero, div-lt_iff_lt-mul, lt_of_mul-lt-mul_left}
use native.Mathlib.Omega.{arith}
use lib.ListN.{get_or}
use Rattle.scheme.specs.Scheme.{Arithmetic, sum, Plan, items, places, ones, users_in}
use Rattle.scheme.specs.Totals.{explains_all, total_of, totals, Choice, OneChoice, SomeChoice}
use Rattle.scheme.specs.Aside.{NoChoice}
use Rattle.scheme.specs.Laws.{Laws}
use Rattle.scheme.proofs.Tests.{holds}
use Rattle.scheme.proofs.Lists.{map_below_same}
use Rattle.scheme.proofs.Pooling.Held.{part}
use Rattle.scheme.proofs.Pooling.Totals.{one_choice, some_choice}
use Rattle.scheme.proofs.Pooling.Fits.{Fits, fits, fits_back, fits_part, fits_same}

module _ (A : Arithmetic) (p : Plan) (y : (k block : ℕ) → ℕ) where
  pub totals_same : (v : ℕ) (x : (k place : ℕ) → ℕ) (f g : (block : ℕ) → List ℕ) → ((b : ℕ) → b < p.blocks → f b ≡ g b) → totals A p v x f ≡ totals A p v x g
  unfolding totals total_of places
  totals_same v x f g same = map_below_same _ _ (places p) (λ i l.
      let some : 0 < items p = lt_of_mul-lt-mul_left p.blocks (omega (arith, mul-zero p.blocks)) in
      ap (λ (w : List ℕ). A.subtract (sum A (users_in p v) (λ k. x k i)) (get_or w (i % items p) 0))
      (same (i / items p) ((div-lt_iff_lt-mul {k = items p} {x = i} {y = p.blocks} some).1 l)))

  module _ (L : Laws A p.users p.threshold) where
    pub same_choice : (r : ℕ) (f g : (block : ℕ) → List ℕ) → p.threshold ≤ ones p.users r → Fits A p r y f → Fits A p r y g
        → (b : ℕ) → b < p.blocks → f b ≡ g b
    unfolding OneChoice
    same_choice r f g many h l = one_choice A p L r y f g many (fits_back A p r y f h) (fits_back A p r y g l)

    -- U of the replies leave one choice: it explains all of them, or nothing does
    pub decided : ((k b : ℕ) → y k b < A.size) → (r : ℕ) → p.threshold ≤ ones p.users r → Choice A p r y ⊎ NoChoice A p r y
    unfolding SomeChoice
    decided small r many =
        let few = part p.users r p.threshold many in
        let c = some_choice A p L few.set y (sym few.size) small in
        elim (explains_all A p r y c.choice) as (λ b. explains_all A p r y c.choice ≡ b → Choice A p r y ⊎ NoChoice A p r y) [
          | true ↦ λ e. inl (record { choice = c.choice; right = e })
          | false ↦ λ e. inr (λ f h.
              let g = fits A p r y f h in
              let same = same_choice few.set f c.choice (omega arith) (fits_part A p r few.set y f few.inside g) (fits A p _ y _ c.right) in
              holds (sym e ∙ fits_back A p r y c.choice (fits_same A p r y f c.choice same g)))
        ] refl
