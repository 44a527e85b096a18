-- Blocks of shares from sums and noise.
--   weight_end, weight_one     numbers times factors, with a sum, are the value of a block; of one number, without a remainder of its own
--   added_at                   a number of the sum of two rows
--   added_copy, added_values   the whole sum from a row that is filled with it; from one that is filled so far as there are blocks, their values
--   scaled_start, scaled_more, scaled_end     the same plus numbers times a factor, one lane a turn; the shares with one noise element a block
--   tables_ready               with the noise the sums from both tables are the shares
-- Assumes nothing.
use mathlib.Core.Path.{◌≡◌, sym, ap, ◌∙◌}
use mathlib.Core.List.{List, map}
use Prim.Native.Nat.{ℕ, ◌+◌, ◌*◌, ◌/◌, ◌%◌, ◌^◌, ◌≤◌, ◌<◌}
use native.Mathlib.Nat.{add-zero, add-mod-mod, le_refl}
use native.Mathlib.Omega.{arith}
use lib.ListN.{length, get_or, set}
use lib.Seq.{get_or-set_same, get_or-set_other}
use Rattle.scheme.specs.Limits.{most_blocks}
use Rattle.scheme.specs.Lists.{span, filled}
use Rattle.scheme.specs.Scheme.{Arithmetic, modular, Plan, items}
use Rattle.scheme.specs.Laws.{Laws}
use Rattle.scheme.specs.Weighed.{weighed_by, weighed, Unreduced}
use Rattle.scheme.specs.KeyParts.{Coefficients, block_item, block_value, block_values, Products, share_from, shares_from, half_sets, added_row, ScaledRow, Tables, Ready}
use Rattle.scheme.proofs.Lists.{map_below_same, map_below_at}
use Rattle.scheme.proofs.Padded.{filled_at}
use Rattle.scheme.proofs.Tests.{none_below}
use Rattle.scheme.proofs.Weighed.{weighed_same, unreduced_one}
use Rattle.scheme.proofs.Making.Rows.{below_more}
use Rattle.scheme.proofs.Making.Shares.{shares_right}

-- ---- numbers times factors
pub weight_end : {q most : ℕ} (sums cs : List ℕ) (n : ℕ) (xs : List ℕ) (start from b total : ℕ) → from ≡ start + b * n
    → Unreduced q most (λ i. get_or cs i 0 * get_or xs (from + i) 0) 0 n total → (get_or sums b 0 + total) % q ≡ block_value (modular q) sums cs n xs start b
unfolding block_value weighed_by
weight_end {q} sums cs n xs start from b total e d = sym (add-mod-mod (get_or sums b 0) total q)
    ∙ ap (λ (x : ℕ). (get_or sums b 0 + x) % q) (d.right ∙ weighed_same (modular q) _ n (λ i h.
    let same : from + i ≡ start + (b * n + i) = omega arith in ap (λ (j : ℕ). get_or xs j 0) same))

-- one number times the first factor, as it is
pub weight_one : {q n m : ℕ} → Laws (modular q) n m → (sums cs xs : List ℕ) (start b : ℕ)
    → (get_or sums b 0 + get_or cs 0 0 * get_or xs (start + b) 0) % q ≡ block_value (modular q) sums cs 1 xs start b
weight_one {q} L sums cs xs start b =
    weight_end sums cs 1 xs start (start + b) b _ (omega arith)
    (unreduced_one L 0 (get_or cs 0 0 * get_or xs (start + b) 0) (ap (λ (x : ℕ). get_or cs 0 0 * get_or xs x 0 % q) (sym (add-zero (start + b)))) (le_refl _))

-- ---- sums over a set, of its two halves
pub added_at : (A : Arithmetic) (xs : List ℕ) (i : ℕ) (ys : List ℕ) (j b : ℕ) → b < most_blocks
    → get_or (added_row A xs i ys j) b 0 ≡ A.add (get_or xs (i + b) 0) (get_or ys (j + b) 0)
unfolding added_row
added_at A xs i ys j b h = map_below_at (λ b. A.add (get_or xs (i + b) 0) (get_or ys (j + b) 0)) most_blocks b h

module _ (A : Arithmetic) (xs : List ℕ) (i : ℕ) (ys : List ℕ) (j : ℕ) where
  abbrev added : ℕ → List ℕ
  added n = filled most_blocks n (λ b. A.add (get_or xs (i + b) 0) (get_or ys (j + b) 0))

  pub added_copy : map (λ b. get_or (added most_blocks) b 0) (span most_blocks 0) ≡ added_row A xs i ys j
  unfolding added_row
  added_copy = map_below_same (λ b. get_or (added most_blocks) b 0) (λ b. A.add (get_or xs (i + b) 0) (get_or ys (j + b) 0)) most_blocks
      (filled_at most_blocks (λ b. A.add (get_or xs (i + b) 0) (get_or ys (j + b) 0)) most_blocks)

  pub added_values : (cs : List ℕ) (n : ℕ) (zs : List ℕ) (from blocks : ℕ) → blocks ≤ most_blocks
      → block_values A (added blocks) cs n zs from blocks ≡ block_values A (added_row A xs i ys j) cs n zs from blocks
  unfolding block_values block_value
  added_values cs n zs from blocks few =
      map_below_same (block_value A (added blocks) cs n zs from) (block_value A (added_row A xs i ys j) cs n zs from) blocks (λ b h.
      ap (λ (x : ℕ). A.add x (weighed A cs n (block_item zs from n b)))
      (filled_at most_blocks (λ b. A.add (get_or xs (i + b) 0) (get_or ys (j + b) 0)) blocks b h ∙ sym (added_at A xs i ys j b (omega arith))))

pub scaled_start : {A : Arithmetic} {xs : List ℕ} {i : ℕ} {ys : List ℕ} {j c : ℕ} {zs : List ℕ} {k : ℕ} {row : List ℕ} → ScaledRow A xs i ys j c zs k 0 row
scaled_start = record { each = λ b h. absurd (none_below b h) }

pub scaled_more : {A : Arithmetic} {xs : List ℕ} {i : ℕ} {ys : List ℕ} {j c : ℕ} {zs : List ℕ} {k n : ℕ} {row : List ℕ} → ScaledRow A xs i ys j c zs k n row →
    n < length row → (x : ℕ) → x ≡ A.add (A.add (get_or xs (i + n) 0) (get_or ys (j + n) 0)) (A.multiply c (get_or zs (k + n) 0)) →
    ScaledRow A xs i ys j c zs k (n + 1) (set row n x)
scaled_more {A} {xs} {i} {ys} {j} {c} {zs} {k} {n} {row} s h x e =
    record {
      each = below_more (λ b. get_or (set row n x) b 0 ≡ A.add (A.add (get_or xs (i + b) 0) (get_or ys (j + b) 0)) (A.multiply c (get_or zs (k + b) 0)))
          (λ b l. get_or-set_other row n b x 0 (λ d. omega arith) ∙ s.each b l) (get_or-set_same row n x 0 h ∙ e);
    }

-- with one number a block, and the first factor, they are the values of all blocks
pub scaled_end : {q n m : ℕ} → Laws (modular q) n m → {xs ys zs row : List ℕ} {i j k : ℕ} (cs : List ℕ)
    → ScaledRow (modular q) xs i ys j (get_or cs 0 0) zs k most_blocks row
    → map (λ b. get_or row b 0) (span most_blocks 0) ≡ block_values (modular q) (added_row (modular q) xs i ys j) cs 1 zs k most_blocks
unfolding block_values
scaled_end {q} L {xs} {ys} {zs} {row} {i} {j} {k} cs s =
    map_below_same (λ b. get_or row b 0) (block_value (modular q) (added_row (modular q) xs i ys j) cs 1 zs k) most_blocks (λ b h.
    s.each b h ∙ ap (λ (x : ℕ). (x + get_or cs 0 0 * get_or zs (k + b) 0) % q) (sym (added_at (modular q) xs i ys j b h))
    ∙ weight_one L (added_row (modular q) xs i ys j) cs zs k b)

sums_end : {A : Arithmetic} (p : Plan) {zs low high : List ℕ} (cs xs : List ℕ) (v from : ℕ) → p.blocks ≤ most_blocks → Tables A zs p.users low high
    → v < 2 ^ p.users
    → block_values A (added_row A low (v % half_sets * most_blocks) high (v / half_sets * most_blocks)) cs p.collusion xs from p.blocks
    ≡ shares_from A p zs cs xs v from
unfolding block_values block_value shares_from share_from
sums_end {A} p {zs} {low} {high} cs xs v from few t lt =
    map_below_same _ (share_from A p zs cs xs v from) p.blocks (λ b h.
    ap (λ (x : ℕ). A.add x (weighed A cs p.collusion (block_item xs from p.collusion b)))
    (added_at A low _ high _ b (omega arith) ∙ t.right v lt b (omega arith)))

pub tables_ready : {A : Arithmetic} {n m : ℕ} → Laws A n m → (p : Plan) (k : ℕ) (xs zs cs : List ℕ) {low high : List ℕ} → Tables A zs p.users low high
    → Products A p k xs p.users zs → Coefficients A k (1 + items p) p.collusion cs → p.collusion ≤ p.threshold → p.blocks ≤ most_blocks
    → Ready A p k xs low high cs
tables_ready L p k xs zs cs t z c less few = record {
  low_small = t.low_small;
  high_small = t.high_small;
  right = λ v h from e. sums_end p cs xs v from few t h ∙ shares_right L p xs k zs cs z less c v from e;
}
