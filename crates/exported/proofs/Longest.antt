-- How long the lists can be that callers lend, over all plans.
--   block_list, block_key   what one block adds to the longest random list, and to the longest key
--   computed   no block of any numbers of users, thresholds and collusions adds more
--   longest    the statement of specs/Longest.antt
-- Assumes nothing.
use mathlib.Core.Path.{◌≡◌, refl, sym, ap, ap₂, ◌∙◌, subst}
use mathlib.Core.Bool.{Bool, true, ◌&&◌}
use Prim.Native.Nat.{ℕ, suc, ◌+◌, ◌*◌, ◌-◌, ◌/◌, ◌≤◌, zero}
use native.Mathlib.Nat.{mul_comm, mul_assoc, add-mul, mul-le-mul}
use native.Mathlib.Omega.{arith}
use lib.Dec.{leb}
use lib.ListN.{length}
use borrow.Author.Tests.{leb-true}
use Rattle.scheme.proofs.Refusals.{unless_zero, start_taken}
use Rattle.scheme.specs.Limits.{most_users, most_blocks, most_places}
use Rattle.scheme.specs.Lists.{span, all_of}
use Rattle.scheme.specs.Scheme.{Plan, plan_good, items, places, is_user, in_set, ones, usable, usable_with, usable_sets, sets_with, list_length, key_length, after, unless, ◌then◌, start_refusal}
use Rattle.scheme.specs.Good.{Good}
use Rattle.scheme.proofs.Tests.{and_both}
use Rattle.scheme.proofs.Good.{good}
use Rattle.scheme.proofs.Lists.{in_span, all_of_in}
use Rattle.plan.specs.Counts.{sets_of}
use Rattle.plan.specs.Lengths.{row_len, list_len, key_len}
use Rattle.scheme.proofs.PlanBounds.{places_le}
use Rattle.plan.proofs.Counts.{sets_same, with_same}
use Rattle.exported.specs.Longest.{longest_list, longest_key, Longest}

abbrev block_list : ℕ
block_list = longest_list / most_blocks

abbrev block_key : ℕ
block_key = longest_key / most_blocks

-- the numbers of a block: n users, threshold u, collusion t
fits : (n u t : ℕ) → Bool
fits n u t = leb (n * (u - t) + sets_of n u * t) block_list && leb ((u - t) + sets_of (n - 1) (u - 1)) block_key

computed : all_of (λ n. all_of (λ u. all_of (fits n u) (span (u - 1) 1)) (span n 0)) (span (suc most_users) 0) ≡ true
unfolding all_of fits sets_of usable_sets usable ones
computed = refl

module _ (p : Plan) (g : Good p) where
  few : (p.users * (p.threshold - p.collusion) + sets_of p.users p.threshold * p.collusion ≤ block_list)
      × ((p.threshold - p.collusion) + sets_of (p.users - 1) (p.threshold - 1) ≤ block_key)
  unfolding fits
  few =
      let a = all_of_in _ (span (suc most_users) 0) computed p.users (in_span (suc most_users) 0 p.users (omega arith) (omega arith)) in
      let b = all_of_in _ (span p.users 0) a p.threshold (in_span p.users 0 p.threshold (omega arith) (omega arith)) in
      let i = in_span (p.threshold - 1) 1 p.collusion (omega arith) (omega arith) in
      let c = and_both _ _ (all_of_in (fits p.users p.threshold) (span (p.threshold - 1) 1) b p.collusion i) in
      (leb-true _ _ c.0, leb-true _ _ c.1)

-- M taken out
list_blocks : (n m d s t : ℕ) → n * (m * d) + s * m * t ≡ (n * d + s * t) * m
list_blocks n m d s t =
    ap₂ ◌+◌ (ap (λ (x : ℕ). n * x) (mul_comm m d) ∙ sym (mul_assoc n d m)) (mul_assoc s m t ∙ ap (λ (x : ℕ). s * x) (mul_comm m t) ∙ sym (mul_assoc s t m))
    ∙ sym (add-mul (n * d) (s * t) m)

list_le : (p : Plan) → Good p → list_length p ≤ longest_list
unfolding list_length places items
list_le p g =
    let h = subst (λ (s : ℕ). p.users * (p.threshold - p.collusion) + s * p.collusion ≤ block_list) (sets_same p) (few p g).0 in
    rw (list_blocks p.users p.blocks (p.threshold - p.collusion) (length (usable_sets p)) p.collusion) (mul-le-mul h g.blocks_high)

key_le : (p : Plan) (k : ℕ) → Good p → 1 ≤ k → k ≤ p.users → key_length p k ≤ longest_key
unfolding key_length places items
key_le p k g lo hi =
    let d = p.threshold - p.collusion in
    let h = subst (λ (s : ℕ). d + s ≤ block_key) (with_same p k lo hi) (few p g).1 in
    rw (ap (λ (x : ℕ). x + length (sets_with p k) * p.blocks) (mul_comm p.blocks d) ∙ sym (add-mul d (length (sets_with p k)) p.blocks))
    (mul-le-mul h g.blocks_high)

when : (n x m : ℕ) → (n ≡ 0 → x ≤ m) → after n x 0 ≤ m
unfolding after
when zero x m h = h refl
when (suc n) x m h = omega arith

row_le : (p : Plan) → row_len p ≤ most_places
unfolding row_len
row_le p = when (unless (plan_good p) 1) _ _ (λ e. places_le p (good p (unless_zero _ 0 e)))

any_list_le : (p : Plan) → list_len p ≤ longest_list
unfolding list_len
any_list_le p = when (unless (plan_good p) 1) _ _ (λ e. list_le p (good p (unless_zero _ 0 e)))

any_key_le : (p : Plan) (k : ℕ) → key_len p k ≤ longest_key
unfolding key_len
any_key_le p k = when (start_refusal p k) _ _ (λ e. let s = start_taken p k e in key_le p k s.0 s.1 s.2)

pub longest : Longest
unfolding row_len list_len key_len unless ◌then◌ after start_refusal is_user plan_good places items list_length key_length
    sets_of usable_sets sets_with usable_with usable in_set ones
longest = record { row = row_le; list = any_list_le; key = any_key_le; row_met = refl; list_met = refl; key_met = refl }
