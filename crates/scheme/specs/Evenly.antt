-- Raw random bytes favour no random list, so demand 3 begins at the noise source.
--   Matched                  the byte strings of one kind and those of another, one to one
--   Draws, Gives             a string of n bytes that the call takes; one from which it fills every lent list with the same elements
--   EvenlyDrawn             what the call leaves is a random list; it leaves each; and any two of as many byte strings of a length
--   ByteMatchingUnder, ByteMatching    one matching of all byte strings that are taken, whose partners give lists that are the same in
--                            some way; in that they show the same
--   NothingToldOfBytes    demand 3 from bytes for one plan and the tables of a kind
--   Demand3OfBytes        for every plan, uses in any mix, and admissible figures, modulo 65521
-- `evenly_drawn` and `demand_3_of_bytes` of proofs/Drawing/ prove them. Assumes nothing: these are definitions.
use Rattle.std.specs.Prelude.{◌≡◌, true, List, ℕ, ◌*◌, length}
use Rattle.scheme.specs.Scheme.{Arithmetic, sixteen, Plan, plan_good, Use, list_length}
use Rattle.scheme.specs.Promise.{Table, everyone, admissible, list_good, shown, OfAlike}
use Rattle.scheme.specs.Drawn.{bytes_good, bytes_of, list_refusal, list_left}

pub record Matched (P Q : List ℕ → Type 0) : Type 0 where
  pub there : List ℕ → List ℕ
  pub back : List ℕ → List ℕ
  pub there_in : (s : List ℕ) → P s → Q (there s)
  pub back_in : (s : List ℕ) → Q s → P (back s)
  pub there_back : (s : List ℕ) → P s → back (there s) ≡ s
  pub back_there : (s : List ℕ) → Q s → there (back s) ≡ s

pub record Draws (A : Arithmetic) (p : Plan) (n : ℕ) (s : List ℕ) : Type 0 where
  pub long : length s ≡ n
  pub small : bytes_good s ≡ true
  pub taken : list_refusal A p s (list_length p) ≡ 0

-- whatever the lent list held
pub record Gives (A : Arithmetic) (p : Plan) (n : ℕ) (xs s : List ℕ) : Type 0 where
  pub draws : Draws A p n s
  pub right : (o : List ℕ) → length o ≡ list_length p → list_left A p s o ≡ xs

-- "for a fixed even length .. every full list is reached by the same number of byte strings": at every length, an odd one too
pub record EvenlyDrawn (A : Arithmetic) (p : Plan) : Type 0 where
  pub full : (n : ℕ) (s o : List ℕ) → Draws A p n s → length o ≡ list_length p → list_good A p (list_left A p s o) ≡ true
  pub reached : (xs : List ℕ) → list_good A p xs ≡ true → Gives A p (list_length p * 2) xs (bytes_of xs)
  pub evenly : (n : ℕ) (xs ys : List ℕ) → list_good A p xs ≡ true → list_good A p ys ≡ true → Matched (Gives A p n xs) (Gives A p n ys)

-- each byte string that is taken has exactly one partner, whatever lists were lent
pub record ByteMatchingUnder (A : Arithmetic) (p : Plan) (n : ℕ) (Same : (xs ys : List ℕ) → Type 0) : Type 0 where
  pub matched : Matched (Draws A p n) (Draws A p n)
  pub same : (s o o' : List ℕ) → Draws A p n s → length o ≡ list_length p → length o' ≡ list_length p
      → Same (list_left A p s o) (list_left A p (matched.there s) o')

-- what the call leaves of a string shows with the first table what its partner's shows with the second
abbrev pub ByteMatching : Arithmetic → Plan → (n set colluders : ℕ) → (x y : Table) → Type 0
ByteMatching A p n v c x y = ByteMatchingUnder A p n (λ xs ys. shown A p v c xs x ≡ shown A p v c ys y)

unfoldable pub NothingToldOfBytes : Arithmetic → Plan → (kind : Table → Type 0) → Type 0
NothingToldOfBytes A p kind = (n : ℕ) → OfAlike A p kind (ByteMatching A p n)

-- THE THIRD DEMAND FROM RAW BYTES
unfoldable pub Demand3OfBytes : Type 0
Demand3OfBytes = (p : Plan) (uses : ℕ → Use) → plan_good p ≡ true → NothingToldOfBytes sixteen p (admissible sixteen p everyone uses)
