-- Where masks, sums, noise and shares lie.
--   row_in, row_next                       row k, from 0, of n rows
--   rows_in                                the masks of all users in the random list
--   noise_block, noise_next, noise_room    the noise of a block, of the next set; it lies in the list
--   noise_zero, reply_first                the noise of the first set, the shares for it
--   reply_next                             the shares for the next set that holds a user
-- Assumes nothing.
use mathlib.Core.Path.{◌≡◌, sym, ap, ◌∙◌}
use mathlib.Core.Bool.{Bool, true, false, cond}
use Prim.Native.Nat.{ℕ, ◌+◌, ◌*◌, ◌^◌, ◌≤◌, ◌<◌}
use native.Mathlib.Nat.{suc-mul, add-mul, zero-add, zero-mul, mul-le-mul_right, add-zero, mul_assoc}
use native.Mathlib.Numerals.{add-one}
use native.Mathlib.Omega.{arith}
use lib.ListN.{length}
use Rattle.scheme.specs.Lists.{rank}
use Rattle.scheme.specs.Scheme.{Plan, places, usable, usable_with, usable_sets, list_length, noise_start, reply_start}
use Rattle.scheme.proofs.Lists.{rank_more, rank_lt}
use Rattle.scheme.proofs.Sets.{usable_below}

pub row_in : (k n row : ℕ) → k < n → k * row + row ≤ n * row
row_in k n row h = omega (arith, mul-le-mul_right row h, suc-mul k row)

pub row_next : (k row : ℕ) → k * row + row ≡ (k + 1) * row
row_next k row = sym (ap (λ (x : ℕ). x * row) (add-one k) ∙ suc-mul k row)

pub rows_in : (p : Plan) → p.users * places p ≤ list_length p
unfolding list_length
rows_in p = omega arith

-- what lies behind the rows of the numbers below v + 1 that pass a test
rank_next : (t : ℕ → Bool) (v n : ℕ) → rank t (v + 1) * n ≡ rank t v * n + cond (t v) n 0
rank_next t v n = ap (λ (m : ℕ). m * n) (rank_more t v) ∙ elim (t v) as (λ b. (rank t v + cond b 1 0) * n ≡ rank t v * n + cond b n 0)
    [ true ↦ sym (row_next (rank t v) n) | false ↦ rw (add-zero, add-zero) ]

pub noise_zero : (p : Plan) → noise_start p 0 0 ≡ p.users * places p
unfolding noise_start rank
noise_zero p = rw (zero-mul, zero-add, zero-mul, add-zero)

pub reply_first : (p : Plan) (k : ℕ) → reply_start p k 0 ≡ places p
unfolding reply_start rank
reply_first p k = rw (zero-mul, add-zero)

module _ (p : Plan) where
  noise_first : (v : ℕ) → noise_start p v 0 ≡ p.users * places p + rank (usable p) v * (p.blocks * p.collusion)
  unfolding noise_start
  noise_first v = rw (add-zero, mul_assoc)

  module _ (v : ℕ) where
    pub noise_block : (b : ℕ) → noise_start p v b ≡ noise_start p v 0 + b * p.collusion
    unfolding noise_start
    noise_block b =
        let m : ℕ = rank (usable p) v * p.blocks in
        omega (arith, add-mul m b p.collusion, add-mul m 0 p.collusion, zero-mul p.collusion)

    pub noise_next : noise_start p (v + 1) 0 ≡ noise_start p v 0 + cond (usable p v) (p.blocks * p.collusion) 0
    noise_next = omega (arith, noise_first v, noise_first (v + 1), rank_next (usable p) v (p.blocks * p.collusion))

    pub noise_room : usable p v ≡ true → noise_start p v 0 + p.blocks * p.collusion ≤ list_length p
    unfolding list_length usable_sets
    noise_room u =
        let n : ℕ = length (usable_sets p) in
        let l = rank_lt (usable p) (2 ^ p.users) v (usable_below p v u) u in
        omega (arith, noise_first v, row_in (rank (usable p) v) n (p.blocks * p.collusion) l, mul_assoc n p.blocks p.collusion)

    pub reply_next : (k : ℕ) → reply_start p k (v + 1) ≡ reply_start p k v + cond (usable_with p k v) p.blocks 0
    unfolding reply_start
    reply_next k = omega (arith, rank_next (usable_with p k) v p.blocks)
