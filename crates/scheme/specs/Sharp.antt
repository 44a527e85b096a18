-- The premises of demands 2 and 3 are sharp.
--   TotalsNeeded      tables with another total over the set have no matching, whoever colludes
--   OwnNeeded         nor have tables that differ for a colluder
--   CollusionNeeded   with one colluder more than T, some tables that are alike have no matching
--   BoundSharp        were all users to report one more than the bound of a use, their total would be out of its reach
--   smallest           the plan with the least K, U, T and M
--   ThresholdNeeded   with one reply fewer than U, some replies are explained by unknowns with other sums
--   Explanation        unknowns that explain replies, with a given sum of the block's first item
--   SumsOpen          all such replies have one for every element
-- Assumes nothing: these are definitions.
use Rattle.std.specs.Prelude.{◌≡◌, ◌≢◌, true, List, ℕ, ◌+◌, ◌^◌, ◌≤◌, ◌<◌, get_or}
use Rattle.scheme.specs.Limits.{least_users, least_collusion, least_blocks}
use Rattle.scheme.specs.Scheme.{Arithmetic, Plan, places, Use, counts, reach, figure_bound, in_set, ones, usable, total_at, whole_total}
use Rattle.scheme.specs.Promise.{Table, everyone, element_rows, admissible, Alike, Matching}
use Rattle.scheme.specs.Totals.{explains}

unfoldable pub TotalsNeeded : Arithmetic → Plan → Type 0
TotalsNeeded A p =
    (v c : ℕ) (x y : Table) (i : ℕ) → usable p v ≡ true → i < places p → total_at A p x v i ≢ total_at A p y v i → Matching A p v c x y → ⊥

unfoldable pub OwnNeeded : Arithmetic → Plan → Type 0
OwnNeeded A p =
    (v c k : ℕ) (x y : Table) → element_rows A p x → element_rows A p y →
    1 ≤ k → k ≤ p.users → in_set c k ≡ true → x k ≢ y k → Matching A p v c x y → ⊥

-- a set, colluders and tables that meet every premise of demand 3 but the number of colluders
pub record CollusionNeeded (A : Arithmetic) (p : Plan) : Type 0 where
  pub v : ℕ
  pub c : ℕ
  pub x : Table
  pub y : Table
  pub usable_set : usable p v ≡ true
  pub below : c < 2 ^ p.users
  pub one_more : ones p.users c ≡ p.collusion + 1
  pub x_admissible : admissible A p everyone (λ k. counts) x
  pub y_admissible : admissible A p everyone (λ k. counts) y
  pub alike : Alike A p v c x y
  pub no_matching : Matching A p v c x y → ⊥

unfoldable pub BoundSharp : Arithmetic → Plan → Type 0
BoundSharp A p =
    (u : Use) (x : Table) (v i : ℕ) → 1 ≤ p.users → ones p.users v ≡ p.users →
    ((k : ℕ) → 1 ≤ k → k ≤ p.users → get_or (x k) i 0 ≡ figure_bound A u p + 1) → reach A u < whole_total p x v i

abbrev pub smallest : Plan
smallest = record { users = least_users; threshold = least_collusion + 1; collusion = least_collusion; blocks = least_blocks }

-- replies of a block by a set r, and two lists of unknowns that explain them and differ in the sum of the block's first item
pub record ThresholdNeeded (A : Arithmetic) (p : Plan) : Type 0 where
  pub r : ℕ
  pub value : (k : ℕ) → ℕ
  pub u : List ℕ
  pub w : List ℕ
  pub one_fewer : ones p.users r + 1 ≡ p.threshold
  pub u_explains : explains A p r value u ≡ true
  pub w_explains : explains A p r value w ≡ true
  pub sums_differ : get_or u 0 0 ≢ get_or w 0 0

pub record Explanation (A : Arithmetic) (p : Plan) (r : ℕ) (value : (k : ℕ) → ℕ) (c : ℕ) : Type 0 where
  pub unknowns : List ℕ
  pub right : explains A p r value unknowns ≡ true
  pub first_sum : get_or unknowns 0 0 ≡ c

unfoldable pub SumsOpen : Arithmetic → Plan → Type 0
SumsOpen A p =
    (r : ℕ) (value : (k : ℕ) → ℕ) (c : ℕ) → ones p.users r + 1 ≡ p.threshold → ((k : ℕ) → value k < A.size) → c < A.size → Explanation A p r value c
