-- The parts from which a key is made, over an arithmetic: columns times masks once a key, their sums over each set, then the noise.
--   KeyInput                                a good plan, one of its users, a random list of the plan's length
--   columns_value, Coefficients              some columns of a share with their coefficients; a list of these coefficients
--   block_item, block_value, block_values    the numbers of a block; a sum plus these times factors, for a block and for each
--   Products                                 the first columns with the masks of all users, a row of most_blocks numbers a user
--   sum_from, set_sum                        sums of products over a set: of some users, of the first ones
--   share_from, shares_from                  the shares from these and the noise
--   half, half_sets, table_cells             how many users the first table is for; its sets, its cells
--   added_row, ScaledRow                    a row plus another; the same plus numbers times a factor
--   Table, Tables                            a table of sums; both, which together give the sums over every set
--   Ready                                    the shares for every set follow from such tables, factors and the noise
--   Written                                  the shares for some sets in a row, and where the noise and the shares of the next set lie
-- Assumes nothing: these are definitions.
use Rattle.std.specs.Prelude.{◌≡◌, List, map, ℕ, ◌+◌, ◌*◌, ◌-◌, ◌/◌, ◌%◌, ◌^◌, ◌≤◌, ◌<◌, length, get_or}
use Rattle.std.proofs.lemmas.List.Edits.{sets}
use Rattle.scheme.specs.Limits.{most_blocks, cells}
use Rattle.scheme.specs.Lists.{span, members, rows}
use Rattle.scheme.specs.Scheme.{Arithmetic, sum, Plan, items, places, in_set, usable_with, list_length, noise_start, shares, reply_start}
use Rattle.scheme.specs.Good.{Good}
use Rattle.scheme.specs.Weighed.{weighed_by, weighed}

pub record KeyInput (p : Plan) (k : ℕ) (xs : List ℕ) : Type 0 where
  pub good : Good p
  pub user_low : 1 ≤ k
  pub user_high : k ≤ p.users
  pub long : length xs ≡ list_length p

-- n columns from `first` on, column first + i with value i, times the coefficients of user k
abbrev pub columns_value : Arithmetic → (k first n : ℕ) → (value : ℕ → ℕ) → ℕ
columns_value A k s n f = weighed_by A (λ i. A.coefficient k (s + i)) n f

pub record Coefficients (A : Arithmetic) (k first n : ℕ) (cs : List ℕ) : Type 0 where
  pub each : (i : ℕ) → i < n → get_or cs i 0 ≡ A.coefficient k (first + i)

-- number i of block b, where blocks of n numbers lie from `from` on
abbrev pub block_item : (xs : List ℕ) → (from n b i : ℕ) → ℕ
block_item xs from n b i = get_or xs (from + (b * n + i)) 0

unfoldable pub block_value : Arithmetic → (sums factors : List ℕ) → (n : ℕ) → (xs : List ℕ) → (from b : ℕ) → ℕ
block_value A sums cs n xs from b = A.add (get_or sums b 0) (weighed A cs n (block_item xs from n b))

unfoldable pub block_values : Arithmetic → (sums factors : List ℕ) → (n : ℕ) → (xs : List ℕ) → (from blocks : ℕ) → List ℕ
block_values A sums cs n xs from blocks = map (block_value A sums cs n xs from) (span blocks 0)

-- of user k's columns, with the masks of each of the first n users
pub record Products (A : Arithmetic) (p : Plan) (k : ℕ) (xs : List ℕ) (n : ℕ) (zs : List ℕ) : Type 0 where
  pub long : length zs ≡ cells
  pub small : (i : ℕ) → get_or zs i 0 < A.size
  pub each : (i : ℕ) → i < n → (b : ℕ) → b < p.blocks
      → get_or zs (i * most_blocks + b) 0 ≡ columns_value A k 1 (items p) (block_item xs (i * places p) (items p) b)

-- block b of the products, over those of n users behind the first s that are in the set
unfoldable pub sum_from : Arithmetic → (products : List ℕ) → (s n set b : ℕ) → ℕ
sum_from A zs s n v b = sum A (members (in_set v) n 1) (λ k. get_or zs ((s + (k - 1)) * most_blocks + b) 0)

unfoldable pub set_sum : Arithmetic → (products : List ℕ) → (n set b : ℕ) → ℕ
set_sum A zs n v b = sum_from A zs 0 n v b

-- the noise of the set lies from `from` on
unfoldable pub share_from : Arithmetic → Plan → (products factors xs : List ℕ) → (set from b : ℕ) → ℕ
share_from A p zs cs xs v from b = A.add (set_sum A zs p.users v b) (weighed A cs p.collusion (block_item xs from p.collusion b))

unfoldable pub shares_from : Arithmetic → Plan → (products factors xs : List ℕ) → (set from : ℕ) → List ℕ
shares_from A p zs cs xs v from = map (share_from A p zs cs xs v from) (span p.blocks 0)

-- ---- sums over sets from two tables: of the first users, and of the others
abbrev pub half : ℕ
half = 4

abbrev pub half_sets : ℕ
half_sets = 2 ^ half

abbrev pub table_cells : ℕ
table_cells = half_sets * most_blocks

-- a row of a list, from i on, plus one of another, from j on
unfoldable pub added_row : Arithmetic → (xs : List ℕ) → (i : ℕ) → (ys : List ℕ) → (j : ℕ) → List ℕ
added_row A xs i ys j = map (λ b. A.add (get_or xs (i + b) 0) (get_or ys (j + b) 0)) (span most_blocks 0)

-- the first n numbers of such a row, each plus a number of zs, from k on, times the factor
pub record ScaledRow (A : Arithmetic) (xs : List ℕ) (i : ℕ) (ys : List ℕ) (j factor : ℕ) (zs : List ℕ) (k n : ℕ) (row : List ℕ) : Type 0 where
  pub each : (b : ℕ) → b < n → get_or row b 0 ≡ A.add (A.add (get_or xs (i + b) 0) (get_or ys (j + b) 0)) (A.multiply factor (get_or zs (k + b) 0))

-- a row of sums for each of the first sets of `half` users behind the first s
pub record Table (A : Arithmetic) (zs : List ℕ) (s rows : ℕ) (ts : List ℕ) : Type 0 where
  pub long : length ts ≡ table_cells
  pub each : (x : ℕ) → x < rows → (b : ℕ) → b < most_blocks → get_or ts (x * most_blocks + b) 0 ≡ sum_from A zs s half x b

-- the sums over the sets of n users are those of their halves
pub record Tables (A : Arithmetic) (zs : List ℕ) (n : ℕ) (low high : List ℕ) : Type 0 where
  pub low_small : (v : ℕ) → v < 2 ^ n → (b : ℕ) → b < most_blocks → get_or low (v % half_sets * most_blocks + b) 0 < A.size
  pub high_small : (v : ℕ) → v < 2 ^ n → (b : ℕ) → b < most_blocks → get_or high (v / half_sets * most_blocks + b) 0 < A.size
  pub right : (v : ℕ) → v < 2 ^ n → (b : ℕ) → b < most_blocks →
      A.add (get_or low (v % half_sets * most_blocks + b) 0) (get_or high (v / half_sets * most_blocks + b) 0) ≡ set_sum A zs n v b

-- ---- the shares of user k, set by set
pub record Ready (A : Arithmetic) (p : Plan) (k : ℕ) (xs low high factors : List ℕ) : Type 0 where
  pub low_small : (v : ℕ) → v < 2 ^ p.users → (b : ℕ) → b < most_blocks → get_or low (v % half_sets * most_blocks + b) 0 < A.size
  pub high_small : (v : ℕ) → v < 2 ^ p.users → (b : ℕ) → b < most_blocks → get_or high (v / half_sets * most_blocks + b) 0 < A.size
  pub right : (v : ℕ) → v < 2 ^ p.users → (from : ℕ) → from ≡ noise_start p v 0 →
      block_values A (added_row A low (v % half_sets * most_blocks) high (v / half_sets * most_blocks)) factors p.collusion xs from p.blocks
      ≡ shares A p xs k v

-- for the first n sets from `first` on
pub record Written (A : Arithmetic) (p : Plan) (k : ℕ) (xs : List ℕ) (first : ℕ) (old new : List ℕ) (noise at n : ℕ) : Type 0 where
  pub noise_is : noise ≡ noise_start p (first + n) 0
  pub at_is : at ≡ reply_start p k (first + n)
  pub written : new ≡ sets old (reply_start p k first) (rows (shares A p xs k) (members (usable_with p k) n first))
