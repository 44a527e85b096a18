-- Bounds that a good plan keeps, and what lies inside a key.
--   sets_le, places_le, masks_le, shares_le, noise_le   of sets, a row of figures, and the parts of list and key
--   usable_le, with_usable       a usable set is at most most_sets; one that holds a user is usable
--   masks_inside, reply_inside   the masks and a reply lie inside the key
-- Assumes nothing.
use mathlib.Core.Path.{◌≡◌}
use mathlib.Core.Bool.{true}
use Prim.Native.Nat.{ℕ, ◌+◌, ◌*◌, ◌^◌, ◌≤◌}
use native.Mathlib.Nat.{suc-mul, mul-le-mul, mul-le-mul_right}
use native.Mathlib.Omega.{arith}
use lib.Pow.{pow_mono}
use Rattle.scheme.specs.Limits.{most_users, most_blocks, most_collusion, most_items, most_places, most_sets, firsts}
use Rattle.scheme.specs.Lists.{rank}
use Rattle.scheme.specs.Scheme.{Plan, items, places, usable, usable_with, sets_with, key_length, reply_start}
use Rattle.scheme.specs.Good.{Good}
use Rattle.scheme.proofs.Tests.{and_both}
use Rattle.scheme.proofs.Sets.{usable_below}
use Rattle.scheme.proofs.Lists.{rank_lt}

pub sets_le : (p : Plan) → Good p → 2 ^ p.users ≤ most_sets
sets_le p g = pow_mono {j = most_users} g.users_high

pub places_le : (p : Plan) → Good p → places p ≤ most_places
unfolding places items
places_le p g = mul-le-mul {n₂ = most_blocks} {m₂ = most_items} g.blocks_high (omega arith)

module _ {p : Plan} (g : Good p) where
  pub masks_le : {n : ℕ} → n ≤ most_places → p.users * n ≤ firsts
  masks_le h = mul-le-mul {n₂ = most_users} {m₂ = most_places} g.users_high h

  pub shares_le : {n : ℕ} → n ≤ most_sets → n * p.blocks ≤ most_sets * most_blocks
  shares_le h = mul-le-mul {n₂ = most_sets} {m₂ = most_blocks} h g.blocks_high

  pub noise_le : {n : ℕ} → n ≤ most_sets → n * p.blocks * p.collusion ≤ most_sets * most_blocks * most_collusion
  noise_le {n} h = mul-le-mul {n₂ = most_sets * most_blocks} {m₂ = most_collusion} (shares_le h) (omega arith)

-- ---- usable sets
pub usable_le : (p : Plan) (v : ℕ) → Good p → usable p v ≡ true → v ≤ most_sets
usable_le p v g e = omega (arith, usable_below p v e, sets_le p g)

pub with_usable : (p : Plan) (k v : ℕ) → usable_with p k v ≡ true → usable p v ≡ true
unfolding usable_with
with_usable p k v e = (and_both _ _ e).0

-- ---- inside the key
pub masks_inside : (p : Plan) (k : ℕ) → places p ≤ key_length p k
unfolding key_length
masks_inside p k = omega arith

pub reply_inside : (p : Plan) (k v : ℕ) → usable_with p k v ≡ true → reply_start p k v + p.blocks ≤ key_length p k
unfolding key_length reply_start sets_with
reply_inside p k v e =
    let l = rank_lt (usable_with p k) (2 ^ p.users) v (usable_below p v (with_usable p k v e)) e in
    omega (arith, mul-le-mul_right p.blocks l, suc-mul (rank (usable_with p k) v) p.blocks)
