-- Document 03's specs/Promise.antt, word for word.
-- What is promised of the scheme and the service. Each statement is a type whose proof is owed. Assumes nothing.
use Rattle.std.specs.Prelude.{◌≡◌, Bool, true, ◌&&◌, ◌||◌, not, cond, List, [], ◌∷◌, ℕ, zero, suc, ◌^◌, ◌≤◌, ◌<◌, eqb, length, get_or}
use Rattle.document03.specs.Scheme.{Plan, plan_good, places, in_set, ones, usable, list_long, key, first_message, reply, total_at}
use Rattle.document03.specs.Service.{elements_good, Record, State, Line, Steps, held, held_value, replied, planned, gathered, told_total, told_open, open_round, finish_round, finish_refusal}

-- tables of figures: a row for each airfield
abbrev pub Table : Type 0
Table = ℕ → List ℕ

unfoldable pub admissible : Plan → Table → Type 0
admissible p x = (k : ℕ) → 1 ≤ k → k ≤ p.k → (length (x k) ≡ places p) × (elements_good (x k) ≡ true)

-- what a random list and a table show, to set V, with colluders C
unfoldable pub firsts_from : (left k : ℕ) → Plan → (list : List ℕ) → Table → List (List ℕ)
firsts_from zero k p xs x = []
firsts_from (suc n) k p xs x = first_message p (key p xs k) (x k) ∷ firsts_from n (suc k) p xs x

unfoldable pub replies_from : (left k : ℕ) → Plan → (list : List ℕ) → (set : ℕ) → List (List ℕ)
replies_from zero k p xs v = []
replies_from (suc n) k p xs v =
    cond (in_set v k) (reply p (key p xs k) k v ∷ replies_from n (suc k) p xs v) (replies_from n (suc k) p xs v)

unfoldable pub keys_from : (left k : ℕ) → Plan → (list : List ℕ) → (colluders : ℕ) → List (List ℕ)
keys_from zero k p xs c = []
keys_from (suc n) k p xs c = cond (in_set c k) (key p xs k ∷ keys_from n (suc k) p xs c) (keys_from n (suc k) p xs c)

pub record Shown : Type 0 where
  pub firsts : List (List ℕ)
  pub replies : List (List ℕ)
  pub keys : List (List ℕ)

unfoldable pub shown : Plan → (set colluders : ℕ) → (list : List ℕ) → Table → Shown
shown p v c xs x =
    record { firsts = firsts_from p.k 1 p xs x; replies = replies_from p.k 1 p xs v; keys = keys_from p.k 1 p xs c }

unfoldable pub list_good : Plan → List ℕ → Bool
list_good p xs = eqb (length xs) (list_long p) && elements_good xs

-- tables that agree for each colluder and have the same survivors' total
pub record Alike (p : Plan) (v c : ℕ) (x y : Table) : Type 0 where
  pub own : (k : ℕ) → 1 ≤ k → k ≤ p.k → in_set c k ≡ true → x k ≡ y k
  pub totals : (i : ℕ) → i < places p → total_at p x v i ≡ total_at p y v i

-- THE THIRD DEMAND: one matching of all lists, one to one, and each list with the first table shows what its partner with the second shows
pub record Matching (p : Plan) (v c : ℕ) (x y : Table) : Type 0 where
  pub partner : List ℕ → List ℕ
  pub back : List ℕ → List ℕ
  pub stays : (xs : List ℕ) → list_good p xs ≡ true → (list_good p (partner xs) ≡ true) × (list_good p (back xs) ≡ true)
  pub one_to_one : (xs : List ℕ) → list_good p xs ≡ true → (back (partner xs) ≡ xs) × (partner (back xs) ≡ xs)
  pub same : (xs : List ℕ) → list_good p xs ≡ true → shown p v c xs x ≡ shown p v c (partner xs) y

unfoldable pub NothingTold : Type 0
NothingTold =
    (p : Plan) (v c : ℕ) (x y : Table) → plan_good p ≡ true → usable p v ≡ true → c < 2 ^ p.k → ones p.k c ≤ p.t →
    admissible p x → admissible p y → Alike p v c x y → Matching p v c x y

-- THE SECOND DEMAND: where the messages follow the rules, complete replies of at least U survivors give their total
unfoldable pub within_from : (left k : ℕ) → (a b : ℕ) → Bool
within_from zero k a b = true
within_from (suc n) k a b = (not (in_set a k) || in_set b k) && within_from n (suc k) a b

unfoldable pub within : (a b k : ℕ) → Bool
within a b k = within_from k 1 a b

-- a state that holds rule-true messages of one list and one table: at least U survivors' replies to their set
pub record RuleTrue (p : Plan) (xs : List ℕ) (x : Table) (s : State) : Type 0 where
  pub plan : s.plan_of ≡ p
  pub replying : s.phase ≡ 3
  pub set : usable p s.survivors ≡ true
  pub firsts :
      (k i : ℕ) → in_set s.survivors k ≡ true → i < places p →
      held_value k i s.firsts ≡ get_or (first_message p (key p xs k) (x k)) i 0
  pub replies :
      (k b : ℕ) → in_set s.survivors k ≡ true → held k b s.replies ≡ true →
      held_value k b s.replies ≡ get_or (reply p (key p xs k) k s.survivors) b 0

unfoldable pub survivor_totals : (left i : ℕ) → Plan → Table → (set : ℕ) → List ℕ
survivor_totals zero i p x v = []
survivor_totals (suc n) i p x v = total_at p x v i ∷ survivor_totals n (suc i) p x v

unfoldable pub TotalsRight : Type 0
TotalsRight =
    (p : Plan) (xs : List ℕ) (x : Table) (s t : State) (l : Line) → plan_good p ≡ true → list_good p xs ≡ true → admissible p x →
    RuleTrue p xs x s → finish_refusal s ≡ 0 → within (replied s) s.survivors p.k ≡ true → Steps finish_round s l t →
    l ≡ told_total s.round (survivor_totals (places p) 0 p x s.survivors)

-- each record has just one answer
unfoldable pub OneAnswer : Type 0
OneAnswer =
    (r : Record) (s t u : State) (l m : Line) → plan_good s.plan_of ≡ true → Steps r s l t → Steps r s m u → (l ≡ m) × (t ≡ u)

-- after a round is opened, all is as with a new service of the same plan, opened at that round
unfoldable pub AsNew : Type 0
AsNew = (r : ℕ) (s t : State) (l : Line) → Steps (open_round r) s l t → l ≡ told_open r → t ≡ gathered r (planned s.plan_of)
