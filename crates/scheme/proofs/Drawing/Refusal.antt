-- What list_refusal takes.
--   list_taken      a call that is taken has a good plan, a lent list of the right length and bytes that fill it
--   list_passes     and such a call is taken
-- Assumes nothing.
use mathlib.Core.Path.{◌≡◌}
use mathlib.Core.Bool.{true}
use mathlib.Core.List.{List}
use Prim.Native.Nat.{ℕ}
use borrow.Author.Tests.{eqb-true, eq-eqb}
use Rattle.scheme.specs.Scheme.{Arithmetic, Plan, plan_good, list_length, ◌then◌, unless}
use Rattle.scheme.specs.Drawn.{fills, list_refusal}
use Rattle.scheme.proofs.Refusals.{test_held, unless_zero}

module _ (A : Arithmetic) (p : Plan) (s : List ℕ) (n : ℕ) where
  pub list_taken : list_refusal A p s n ≡ 0 → (plan_good p ≡ true) × (n ≡ list_length p) × (fills A n s ≡ true)
  unfolding list_refusal
  list_taken e =
      let g = test_held _ _ _ e in
      let l = test_held _ _ _ g.1 in
      (g.0, eqb-true _ _ l.0, unless_zero _ _ l.1)

  pub list_passes : (plan_good p ≡ true) × (n ≡ list_length p) × (fills A n s ≡ true) → list_refusal A p s n ≡ 0
  unfolding list_refusal unless ◌then◌
  list_passes h = simp (h.0, eq-eqb _ _ h.1, h.2)
