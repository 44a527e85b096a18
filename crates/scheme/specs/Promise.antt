-- Demand 3 as a type: the bytes that the server and at most T colluders see say nothing of the figures beyond the total.
-- `demand_3` of proofs/Privacy/Demand.antt proves it.
--   Table, rows_good, everyone     a row of figures for each user; tables in which the rows of some users, or of all, pass a test
--   element_rows, admissible       rows of elements; of figures within the plan's bound for the user's own use
--   list_good                      random lists
--   Shown, shown                   what a random list and a table show
--   Alike                          tables that agree for each colluder and have the same survivors' total
--   MatchingUnder, Matching       one matching of all random lists, whose partners are the same in some way; in that they show the same
--   OfAlike                       what holds whichever usable set, at most T colluders, and two tables of a kind that are alike
--   NothingTold                   demand 3 for one plan and the tables of a kind
--   Demand3                       for every plan, uses in any mix, and admissible figures, modulo 65521; over the messages themselves:
--                                  client/specs/Shown.antt states it over all that may ever come to the airfield ends
--   KeyAdd                        behind it: the key of a sum of two lists is the sum of their keys
-- Assumes nothing: these are definitions.
use Rattle.std.specs.Prelude.{◌≡◌, Bool, true, ◌&&◌, List, map, ℕ, ◌^◌, ◌≤◌, ◌<◌, eqb, length}
use Rattle.scheme.specs.Lists.{span, each}
use Rattle.scheme.specs.Scheme.{Arithmetic, sixteen, elements, Plan, plan_good, places, Use, figures_good, in_set, ones, usable, users_in, list_length, key, key_length, first_message, reply, total_at}

-- a row of figures for each user
abbrev pub Table : Type 0
Table = (k : ℕ) → List ℕ

-- L figures a row, which passes its user's test
unfoldable pub rows_good : (who : ℕ → Bool) → (test : (k : ℕ) → List ℕ → Bool) → Plan → Table → Type 0
rows_good w t p x = (k : ℕ) → 1 ≤ k → k ≤ p.users → w k ≡ true → (length (x k) ≡ places p) × (t k (x k) ≡ true)

abbrev pub everyone : ℕ → Bool
everyone k = true

abbrev pub element_rows : Arithmetic → Plan → Table → Type 0
element_rows A p x = rows_good everyone (λ k. elements A) p x

abbrev pub admissible : Arithmetic → Plan → (who : ℕ → Bool) → (uses : ℕ → Use) → Table → Type 0
admissible A p w u x = rows_good w (λ k. figures_good A (u k) p) p x

unfoldable pub list_good : Arithmetic → Plan → (list : List ℕ) → Bool
list_good A p xs = eqb (length xs) (list_length p) && elements A xs

pub record Shown : Type 0 where
  pub firsts : List (List ℕ)
  pub replies : List (List ℕ)
  pub keys : List (List ℕ)

-- the first messages of all users, in the set or not; the replies to the set of all users in it; the whole keys of the colluders
unfoldable pub shown : Arithmetic → Plan → (set colluders : ℕ) → (list : List ℕ) → Table → Shown
shown A p v c xs x =
    record {
      firsts = map (λ k. first_message A p (key A p xs k) (x k)) (span p.users 1);
      replies = map (λ k. reply p (key A p xs k) k v) (users_in p v);
      keys = map (key A p xs) (users_in p c);
    }

-- the totals need agree in the arithmetic alone
pub record Alike (A : Arithmetic) (p : Plan) (v c : ℕ) (x y : Table) : Type 0 where
  pub own : (k : ℕ) → 1 ≤ k → k ≤ p.users → in_set c k ≡ true → x k ≡ y k
  pub totals : (i : ℕ) → i < places p → total_at A p x v i ≡ total_at A p y v i

-- each list has exactly one partner
pub record MatchingUnder (A : Arithmetic) (p : Plan) (Same : (xs ys : List ℕ) → Type 0) : Type 0 where
  pub partner : List ℕ → List ℕ
  pub back : List ℕ → List ℕ
  pub stays : (xs : List ℕ) → list_good A p xs ≡ true → (list_good A p (partner xs) ≡ true) × (list_good A p (back xs) ≡ true)
  pub one_to_one : (xs : List ℕ) → list_good A p xs ≡ true → (back (partner xs) ≡ xs) × (partner (back xs) ≡ xs)
  pub same : (xs : List ℕ) → list_good A p xs ≡ true → Same xs (partner xs)

-- with the first table a list shows what its partner shows with the second
abbrev pub Matching : Arithmetic → Plan → (set colluders : ℕ) → (x y : Table) → Type 0
Matching A p v c x y = MatchingUnder A p (λ xs ys. shown A p v c xs x ≡ shown A p v c ys y)

abbrev pub OfAlike : Arithmetic → Plan → (kind : Table → Type 0) → (Holds : (set colluders : ℕ) → (x y : Table) → Type 0) → Type 0
OfAlike A p kind Holds =
    (v c : ℕ) (x y : Table) → usable p v ≡ true → c < 2 ^ p.users → ones p.users c ≤ p.collusion →
    kind x → kind y → Alike A p v c x y → Holds v c x y

unfoldable pub NothingTold : Arithmetic → Plan → (kind : Table → Type 0) → Type 0
NothingTold A p kind = OfAlike A p kind (Matching A p)

-- THE THIRD DEMAND
unfoldable pub Demand3 : Type 0
Demand3 = (p : Plan) (uses : ℕ → Use) → plan_good p ≡ true → NothingTold sixteen p (admissible sixteen p everyone uses)

-- place by place, whatever numbers the lists hold
unfoldable pub KeyAdd : Arithmetic → Plan → Type 0
KeyAdd A p =
    (xs ys : List ℕ) (k : ℕ) → 1 ≤ k → k ≤ p.users →
    key A p (each A.add (list_length p) xs ys) k ≡ each A.add (key_length p k) (key A p xs k) (key A p ys k)
