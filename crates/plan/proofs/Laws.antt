-- The count of ones, which callers use too, and a loop that counts.
--   ones_same                                the machine's count of ones is the definition's, of a number of k bits
--   Counting, counting_start, counting_more_in, counting_more_out, counting_end   a loop that counts the numbers that pass a test
-- Assumes nothing.
use Rattle.std.proofs.Common.{◌≡◌, sym, ap, ◌∙◌, ◌≢◌, Bool, true, false, ℕ, zero, suc, ◌+◌, ◌/◌, ◌%◌, ◌^◌, ◌≤◌, ◌<◌, pow-suc, arith}
use lib.Count as machine
use Rattle.scheme.specs.Lists.{rank}
use Rattle.scheme.specs.Scheme.{ones}
use Rattle.scheme.proofs.Lists.{rank_start, rank_more}

pub ones_same : (k v : ℕ) → v < 2 ^ k → machine.ones v ≡ ones k v
unfolding ones machine.ones
ones_same zero v h = let e : v ≡ 0 = omega arith in rw e
ones_same (suc k) v h =
    let below : v / 2 < 2 ^ k = omega (arith, pow-suc 2 k) in
    machine.ones_step v ∙ ap (λ (n : ℕ). v % 2 + n) (ones_same k (v / 2) below)

-- ---- counting
pub record Counting (t : ℕ → Bool) (end v n : ℕ) : Type 0 where
  pub inside : v ≤ end
  pub few : n ≤ v
  pub exact : n ≡ rank t v

module _ (t : ℕ → Bool) (end : ℕ) where
  pub counting_start : Counting t end 0 0
  counting_start = record { inside = omega arith; few = omega arith; exact = sym (rank_start t) }

  pub counting_more_in : (v n : ℕ) → Counting t end v n → v ≢ end → t v ≡ true → Counting t end (v + 1) (n + 1)
  counting_more_in v n g h e = record { inside = omega arith; few = omega arith; exact = omega (arith, rw e at (rank_more t v)) }

  pub counting_more_out : (v n : ℕ) → Counting t end v n → v ≢ end → t v ≡ false → Counting t end (v + 1) n
  counting_more_out v n g h e = record { inside = omega arith; few = omega arith; exact = omega (arith, rw e at (rank_more t v)) }

  pub counting_end : (v n : ℕ) → Counting t end v n → v ≡ end → (n ≡ rank t end) × (n ≤ end)
  counting_end v n g h = (g.exact ∙ ap (rank t) h, omega arith)
