-- Who is complete: a row that is held, and one turn of the loop over the users.
--   held_at, all_held       the tests that the two loops make of each element and of each user
--   sliced_at, look_row     a row, as the code takes it out of the array and as the view sees it
--   Completing, completing_more, completing_end     the loop over the users
--   whole, counted          the complete set is what the view gathered; it has no member above K, so the machine counts the ones that the
--                           definition counts
-- Assumes nothing.
use Rattle.std.proofs.Common.{◌≡◌, sym, ap, ◌∙◌, Bool, true, false, not, cond, List, ℕ, suc, ◌+◌, ◌*◌, ◌-◌, ◌^◌, ◌≤◌, ◌<◌, add-zero, pow-suc, add-one, arith, eqb, get_or, take, drop, le-leb, lt-ltb}
use Rattle.std.proofs.lemmas.List.{get_or-take, get_or-drop}
use lib.Count as machine
use Rattle.scheme.specs.Limits.{most_users, most_places}
use Rattle.scheme.specs.Lists.{span, all_of}
use Rattle.scheme.specs.Scheme.{ones, places}
use Rattle.scheme.specs.Service.{is_held, set_of, complete_set, gathered}
use Rattle.scheme.proofs.Lists.{span_in, all_of_same}
use Rattle.scheme.proofs.Pooling.Held.{complete_below}
use Rattle.plan.specs.Plan.{plan_of}
use Rattle.plan.proofs.Laws.{ones_same}
use Rattle.service.specs.declared.Service.{Service}
use Rattle.service.specs.View.{look, row_held, view}
use Rattle.service.proofs.View.{stored_held}

abbrev pub held_at : List ℕ → (start i : ℕ) → Bool
held_at xs start i = not (eqb (get_or xs (start + i) 0) 0)

abbrev pub all_held : List ℕ → (stride each k : ℕ) → Bool
all_held xs w n k = all_of (λ i. is_held (look w xs k i)) (span n 0)

-- ---- a row, as the code takes it out of the array, and as the view sees it
pub sliced_at : (xs : List ℕ) (s n i : ℕ) → i < n → get_or (take (s + n - s) (drop s xs)) i 0 ≡ get_or xs (s + i) 0
sliced_at xs s n i h = let e : s + n - s ≡ n = omega arith in get_or-take _ _ i 0 (rw e h) ∙ get_or-drop s xs i 0

pub look_row : (w n k : ℕ) (xs : List ℕ) → k < most_users → n ≤ w → row_held xs (k * w) n ≡ all_of (λ i. is_held (look w xs (k + 1) i)) (span n 0)
unfolding row_held look
look_row w n k xs h l =
    all_of_same _ _ (span n 0) (λ i m.
    let s = span_in n 0 i m in
    let e : k + 1 - 1 ≡ k = omega arith in
    let a : 1 ≤ k + 1 = omega arith in
    let b : k + 1 ≤ most_users = omega arith in
    let d : i < w = omega arith in
    simp (le-leb _ _ a, le-leb _ _ b, lt-ltb _ _ d, e, stored_held))

-- ---- the loop over the users: k are passed, and those among them that pass the test make the set
pub record Completing (t : ℕ → Bool) (users set k : ℕ) : Type 0 where
  pub below : set < 2 ^ k
  pub total : set + set_of t (users - k) (k + 1) ≡ set_of t users 1

module _ (t : ℕ → Bool) (users : ℕ) {set k : ℕ} (g : Completing t users set k) where
  pub completing_end : users ≤ k → set ≡ set_of t users 1
  unfolding set_of
  completing_end h = let e : users - k ≡ 0 = omega arith in sym (add-zero set) ∙ (rw e at g.total)

  turn : k < users → set_of t (users - k) (k + 1) ≡ cond (t (k + 1)) (2 ^ k) 0 + set_of t (users - (k + 1)) (k + 1 + 1)
  unfolding set_of
  turn h = let e : users - k ≡ suc (users - (k + 1)) = omega arith in let z : k + 1 - 1 ≡ k = omega arith in rw (e, z, add-one (k + 1))

  pub completing_more : k < users → (b : Bool) → b ≡ t (k + 1) → Completing t users (set + cond b (2 ^ k) 0) (k + 1)
  completing_more h b e =
      record {
        below = rw (add-one k, pow-suc 2 k) (small b);
        total = omega (arith, g.total, turn h, ap (λ (x : Bool). cond x (2 ^ k) 0) e);
      }
    where
      small : (b : Bool) → set + cond b (2 ^ k) 0 < 2 ^ k * 2
      small true = omega (arith, g.below)
      small false = omega (arith, g.below)

-- ---- the complete set, and its ones
module _ (s : Service) {set each : ℕ} (e : set ≡ complete_set (plan_of s.head.plan) (look most_places s.first) each)
    (f : each ≡ places (plan_of s.head.plan)) where
  pub whole : set ≡ gathered (view s)
  unfolding gathered view
  whole = e ∙ ap (complete_set _ _) f

  pub counted : machine.ones set ≡ ones s.head.plan.users (gathered (view s))
  counted = let h : set < 2 ^ s.head.plan.users = rw e (complete_below _ _ _) in ones_same _ _ h ∙ ap (ones s.head.plan.users) whole
