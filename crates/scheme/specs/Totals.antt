-- Demand 2 of one round, over an arithmetic: which sums and noise explain the complete replies, and the total.
--   explains, explains_all  unknowns of a block, and of every block, that explain the replies of a set
--   total_of, totals        the survivors' first messages less the sums of the masks
--   Follows                 first messages and replies that follow the rules from one random list and one table
--   OneChoice              at least U replies leave at most one choice
--   SomeChoice             U replies leave one
--   Choice, RulesExplain   replies that follow the rules have one
--   TotalsFit              the survivors' whole-number totals are elements
--   TotalsRight            where the messages follow the rules and the survivors' figures are admissible counts, what explains the
--                           replies gives the survivors' whole-number total
--   ResiduesRight          behind it: of any table, the total in the arithmetic
-- Assumes nothing: these are definitions.
use Rattle.std.specs.Prelude.{◌≡◌, Bool, true, ◌&&◌, List, map, ℕ, ◌-◌, ◌/◌, ◌%◌, ◌≤◌, ◌<◌, eqb, length, get_or}
use Rattle.scheme.specs.Lists.{span, all_of}
use Rattle.scheme.specs.Scheme.{Arithmetic, elements, sum, Plan, items, places, counts, in_set, ones, usable, users_in, row_value, key, first_message, reply, total_at, whole_total}
use Rattle.scheme.specs.Promise.{Table, admissible, list_good}

-- U unknowns of a block, the sums of the masks and then the noise: elements that give the value of each user of the set
unfoldable pub explains : Arithmetic → Plan → (set : ℕ) → (value : (k : ℕ) → ℕ) → (unknowns : List ℕ) → Bool
explains A p r y w =
    (eqb (length w) p.threshold && elements A w) && all_of (λ k. eqb (row_value A p.threshold k (λ j. get_or w (j - 1) 0)) (y k)) (users_in p r)

unfoldable pub explains_all : Arithmetic → Plan → (set : ℕ) → (replies : (k block : ℕ) → ℕ) → (choice : (block : ℕ) → List ℕ) → Bool
explains_all A p r y f = all_of (λ b. explains A p r (λ k. y k b) (f b)) (span p.blocks 0)

-- place i is item i % (U - T) of block i / (U - T)
unfoldable pub total_of : Arithmetic → Plan → (survivors : ℕ) → (firsts : (k place : ℕ) → ℕ) → (choice : (block : ℕ) → List ℕ) → (place : ℕ) → ℕ
total_of A p v x f i = A.subtract (sum A (users_in p v) (λ k. x k i)) (get_or (f (i / items p)) (i % items p) 0)

unfoldable pub totals : Arithmetic → Plan → (survivors : ℕ) → (firsts : (k place : ℕ) → ℕ) → (choice : (block : ℕ) → List ℕ) → List ℕ
totals A p v x f = map (total_of A p v x f) (span (places p) 0)

-- the first messages of the survivors v, and the replies to v of the users of r
pub record Follows (A : Arithmetic) (p : Plan) (xs : List ℕ) (x : Table) (v r : ℕ) (firsts replies : (k at : ℕ) → ℕ) : Type 0 where
  pub first : (k i : ℕ) → 1 ≤ k → k ≤ p.users → in_set v k ≡ true → i < places p → firsts k i ≡ get_or (first_message A p (key A p xs k) (x k)) i 0
  pub survives : (k : ℕ) → 1 ≤ k → k ≤ p.users → in_set r k ≡ true → in_set v k ≡ true
  pub answer : (k b : ℕ) → 1 ≤ k → k ≤ p.users → in_set r k ≡ true → b < p.blocks → replies k b ≡ get_or (reply p (key A p xs k) k v) b 0

unfoldable pub OneChoice : Arithmetic → Plan → Type 0
OneChoice A p =
    (r : ℕ) (y : (k block : ℕ) → ℕ) (f g : (block : ℕ) → List ℕ) → p.threshold ≤ ones p.users r →
    explains_all A p r y f ≡ true → explains_all A p r y g ≡ true → (b : ℕ) → b < p.blocks → f b ≡ g b

unfoldable pub ResiduesRight : Arithmetic → Plan → Type 0
ResiduesRight A p =
    (xs : List ℕ) (x : Table) (v r : ℕ) (firsts replies : (k at : ℕ) → ℕ) (f : (block : ℕ) → List ℕ) → list_good A p xs ≡ true →
    usable p v ≡ true → p.threshold ≤ ones p.users r → Follows A p xs x v r firsts replies →
    explains_all A p r replies f ≡ true → totals A p v firsts f ≡ map (total_at A p x v) (span (places p) 0)

-- in `sixteen`: at most 65520
unfoldable pub TotalsFit : Arithmetic → Plan → Table → (set : ℕ) → Type 0
TotalsFit A p x v = (i : ℕ) → whole_total p x v i ≤ A.size - 1

unfoldable pub TotalsRight : Arithmetic → Plan → Type 0
TotalsRight A p =
    (xs : List ℕ) (x : Table) (v r : ℕ) (firsts replies : (k at : ℕ) → ℕ) (f : (block : ℕ) → List ℕ) → list_good A p xs ≡ true →
    admissible A p (in_set v) (λ k. counts) x → usable p v ≡ true → p.threshold ≤ ones p.users r → Follows A p xs x v r firsts replies →
    explains_all A p r replies f ≡ true → (totals A p v firsts f ≡ map (whole_total p x v) (span (places p) 0)) × TotalsFit A p x v

pub record Choice (A : Arithmetic) (p : Plan) (r : ℕ) (y : (k block : ℕ) → ℕ) : Type 0 where
  pub choice : (block : ℕ) → List ℕ
  pub right : explains_all A p r y choice ≡ true

-- with exactly U replies, all elements, some choice explains them
unfoldable pub SomeChoice : Arithmetic → Plan → Type 0
SomeChoice A p =
    (r : ℕ) (y : (k block : ℕ) → ℕ) → p.threshold ≡ ones p.users r → ((k b : ℕ) → y k b < A.size) → Choice A p r y

-- replies that follow the rules are explained by the sums and the noise themselves
unfoldable pub RulesExplain : Arithmetic → Plan → Type 0
RulesExplain A p =
    (xs : List ℕ) (x : Table) (v r : ℕ) (firsts replies : (k at : ℕ) → ℕ) → list_good A p xs ≡ true → usable p v ≡ true →
    Follows A p xs x v r firsts replies → Choice A p r replies
