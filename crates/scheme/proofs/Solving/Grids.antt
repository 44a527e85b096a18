-- Grids: rows of numbers, one number for each block.
--   block_at                                  the numbers of a block
--   grid_at, grid_small                       a grid by its rule; numbers below a bound
--   Rows, rows_long, rows_start, rows_more, rows_end     a loop that writes row after row
-- Assumes nothing.
use mathlib.Core.Path.{◌≡◌, refl, sym, ap, ap₂, ◌∙◌}
use mathlib.Core.List.{List, map}
use Prim.Native.Nat.{ℕ, ◌+◌, ◌*◌, ◌-◌, ◌/◌, ◌%◌, ◌≤◌, ◌<◌}
use native.Mathlib.Nat.{zero-add}
use native.Mathlib.Decide.{dec_lt}
use native.Mathlib.Omega.{arith}
use lib.ListN.{length, get_or, replicate}
use lib.Seq.{sets}
use Rattle.scheme.specs.Limits.{most_users, most_blocks, cells}
use Rattle.scheme.specs.Lists.{span, filled}
use Rattle.scheme.specs.Solve.{cell, grid, block}
use Rattle.scheme.proofs.Lists.{map_below_at, high, low, digits_lt}
use Rattle.scheme.proofs.Padded.{filled_at, filled_behind, filled_length, filled_sets, filled_zeros, filling_start}

pub block_at : (g : List ℕ) (b i : ℕ) → i < most_users → get_or (block g b) i 0 ≡ cell g i b
unfolding block
block_at g b i h = map_below_at (λ a. cell g a b) most_users i h

module _ (f : (a b : ℕ) → ℕ) where
  -- the number at a place of a grid
  abbrev entry : ℕ → ℕ
  entry k = f (k / most_blocks) (k % most_blocks)

  entry_at : (a b : ℕ) → b < most_blocks → entry (a * most_blocks + b) ≡ f a b
  entry_at a b h = ap₂ f (high a b most_blocks h) (low a b most_blocks h)

  is_filled : (n : ℕ) → grid n f ≡ filled cells (n * most_blocks) entry
  unfolding grid
  is_filled n = refl

  pub grid_at : (n a b : ℕ) → a < n → b < most_blocks → cell (grid n f) a b ≡ f a b
  grid_at n a b h l = ap (λ (g : List ℕ). cell g a b) (is_filled n)
      ∙ filled_at cells entry (n * most_blocks) (a * most_blocks + b) (digits_lt a n b most_blocks h l) ∙ entry_at a b l

  pub grid_small : (n s : ℕ) → 0 < s → ((a b : ℕ) → a < n → b < most_blocks → f a b < s) → (k : ℕ) → get_or (grid n f) k 0 < s
  grid_small n s z h k = rw (is_filled n) (elim (dec_lt k (n * most_blocks)) [
    | yes l ↦ rw (filled_at cells entry (n * most_blocks) k l) (h (k / most_blocks) (k % most_blocks) (omega arith) (omega arith))
    | no l ↦ rw (filled_behind cells entry (n * most_blocks) k (omega arith)) z
  ])

  -- ---- i rows of a grid are written; the next starts at `at`
  pub record Rows (n i at : ℕ) (out : List ℕ) : Type 0 where
    pub inside : i ≤ n
    pub place : at ≡ i * most_blocks
    pub done : out ≡ grid i f

  pub rows_long : (n i at : ℕ) (out : List ℕ) → n ≤ most_users → Rows n i at out → length out ≡ cells
  rows_long n i at out h r = ap length (r.done ∙ is_filled i) ∙ filled_length cells entry (i * most_blocks) (omega arith)

  pub rows_start : (n : ℕ) → Rows n 0 0 (replicate cells 0)
  rows_start n = record { inside = omega arith; place = refl; done = (filling_start cells entry 0).done ∙ sym (is_filled 0) }

  -- a row of m numbers, where the rule is 0 for the blocks from m on
  pub rows_more : (n i at : ℕ) (out new : List ℕ) (m : ℕ) (h : ℕ → ℕ) → n ≤ most_users → m ≤ most_blocks → i < n
      → ((b : ℕ) → b < m → h b ≡ f i b) → ((b : ℕ) → m ≤ b → b < most_blocks → f i b ≡ 0)
      → new ≡ sets out at (map h (span m 0)) → Rows n i at out → Rows n (i + 1) (at + most_blocks) new
  rows_more n i at out new m h few le l same none e r = record {
    inside = omega arith;
    place = omega arith;
    done = e ∙ ap₂ (λ (o : List ℕ) (k : ℕ). sets o k (map h (span m 0))) (r.done ∙ is_filled i) r.place
        ∙ filled_sets cells entry m (i * most_blocks) 0 h (omega arith) (λ b k. ap h (zero-add b) ∙ same b k ∙ sym (entry_at i b (omega arith)))
        ∙ filled_zeros cells entry (i * most_blocks + m) ((i + 1) * most_blocks) (omega arith) (omega arith) zeros ∙ sym (is_filled (i + 1));
  }
    where
      zeros : (k : ℕ) → i * most_blocks + m ≤ k → k < (i + 1) * most_blocks → entry k ≡ 0
      zeros k a b =
          let d : k ≡ i * most_blocks + (k - i * most_blocks) = omega arith in
          ap entry d ∙ entry_at i (k - i * most_blocks) (omega arith) ∙ none (k - i * most_blocks) (omega arith) (omega arith)

  pub rows_end : (n i at : ℕ) (out : List ℕ) → n ≤ i → Rows n i at out → out ≡ grid n f
  rows_end n i at out h r = let e : i ≡ n = omega arith in r.done ∙ ap (λ (k : ℕ). grid k f) e
