-- One reply set aside: where at least U + 2 complete replies disagree, the one user without whose reply all others agree.
--   without               a set without one of its users
--   NoChoice             replies that nothing explains: they disagree
--   Aside                 a user without whose whole reply the others' are explained
--   AtMostOne           of at least U + 2 replies that disagree, at most one user fits
--   Settles, Apart        how replies end a round: with the user set aside, 0 if none, and what explains the others; or with 16
--   OneSettled           at least U replies are settled in one way
--   reply_right, named    whether a reply is the one that the rules give; the user to name, 0 if it is
--   OneFalse             all messages follow the rules but perhaps one user's reply
--   SettledResidues      then replies that are settled give the survivors' total, and name that user exactly if its reply is false
--   NeverApart           and they are settled
-- Assumes nothing: these are definitions.
use Rattle.std.specs.Prelude.{◌≡◌, ◌⊎◌, Bool, true, cond, List, map, ℕ, ◌+◌, ◌-◌, ◌^◌, ◌≤◌, ◌<◌, eqb, get_or}
use Rattle.scheme.specs.Lists.{span, all_of}
use Rattle.scheme.specs.Scheme.{Arithmetic, Plan, places, in_set, ones, usable, key, reply, total_at}
use Rattle.scheme.specs.Promise.{Table, list_good}
use Rattle.scheme.specs.Totals.{explains_all, totals, Follows}

-- of a user of the set
unfoldable pub without : (set k : ℕ) → ℕ
without v k = v - 2 ^ (k - 1)

abbrev pub NoChoice : Arithmetic → Plan → (set : ℕ) → (replies : (k block : ℕ) → ℕ) → Type 0
NoChoice A p r y = (f : (block : ℕ) → List ℕ) → explains_all A p r y f ≡ true → ⊥

-- one user for all blocks together
pub record Aside (A : Arithmetic) (p : Plan) (r : ℕ) (y : (k block : ℕ) → ℕ) (k : ℕ) (f : (block : ℕ) → List ℕ) : Type 0 where
  pub low : 1 ≤ k
  pub high : k ≤ p.users
  pub inside : in_set r k ≡ true
  pub others : explains_all A p (without r k) y f ≡ true

unfoldable pub AtMostOne : Arithmetic → Plan → Type 0
AtMostOne A p =
    (r : ℕ) (y : (k block : ℕ) → ℕ) (k l : ℕ) (f g : (block : ℕ) → List ℕ) → p.threshold + 2 ≤ ones p.users r → NoChoice A p r y →
    Aside A p r y k f → Aside A p r y l g → k ≡ l

-- ---- how replies end a round
pub data Settles (A : Arithmetic) (p : Plan) (r : ℕ) (y : (k block : ℕ) → ℕ) : (aside : ℕ) → (choice : (block : ℕ) → List ℕ) → Type 0 where
  all_agree : (f : (block : ℕ) → List ℕ) → explains_all A p r y f ≡ true → Settles A p r y 0 f
  one_aside : (k : ℕ) (f : (block : ℕ) → List ℕ) → p.threshold + 2 ≤ ones p.users r → NoChoice A p r y → Aside A p r y k f → Settles A p r y k f

-- "if replies disagree and there are U + 1 of them or no single airfield fits"
pub record Apart (A : Arithmetic) (p : Plan) (r : ℕ) (y : (k block : ℕ) → ℕ) : Type 0 where
  pub no_choice : NoChoice A p r y
  pub no_aside : (ones p.users r ≡ p.threshold + 1) ⊎ ((k : ℕ) (f : (block : ℕ) → List ℕ) → Aside A p r y k f → ⊥)

unfoldable pub OneSettled : Arithmetic → Plan → Type 0
OneSettled A p =
    (r : ℕ) (y : (k block : ℕ) → ℕ) (k l : ℕ) (f g : (block : ℕ) → List ℕ) → p.threshold ≤ ones p.users r →
    Settles A p r y k f → Settles A p r y l g → (k ≡ l) × ((b : ℕ) → b < p.blocks → f b ≡ g b)

-- ---- one false reply
unfoldable pub reply_right : Arithmetic → Plan → (list : List ℕ) → (survivors k : ℕ) → (reply : (block : ℕ) → ℕ) → Bool
reply_right A p xs v k y = all_of (λ b. eqb (y b) (get_or (reply p (key A p xs k) k v) b 0)) (span p.blocks 0)

-- the user if its reply is false, and 0 if it is right
unfoldable pub named : Arithmetic → Plan → (list : List ℕ) → (survivors k : ℕ) → (reply : (block : ℕ) → ℕ) → ℕ
named A p xs v k y = cond (reply_right A p xs v k y) 0 k

-- z is a survivor whose reply is complete, and may be anything; its first message follows the rules, as those of all survivors do
pub record OneFalse (A : Arithmetic) (p : Plan) (xs : List ℕ) (x : Table) (v r z : ℕ) (firsts replies : (k at : ℕ) → ℕ) : Type 0 where
  pub low : 1 ≤ z
  pub high : z ≤ p.users
  pub inside : in_set r z ≡ true
  pub survives : in_set v z ≡ true
  pub others : Follows A p xs x v (without r z) firsts replies

unfoldable pub SettledResidues : Arithmetic → Plan → Type 0
SettledResidues A p =
    (xs : List ℕ) (x : Table) (v r z : ℕ) (firsts replies : (k at : ℕ) → ℕ) (k : ℕ) (f : (block : ℕ) → List ℕ) → list_good A p xs ≡ true →
    usable p v ≡ true → p.threshold + 2 ≤ ones p.users r → OneFalse A p xs x v r z firsts replies → Settles A p r replies k f →
    (k ≡ named A p xs v z (replies z)) × (totals A p v firsts f ≡ map (total_at A p x v) (span (places p) 0))

unfoldable pub NeverApart : Arithmetic → Plan → Type 0
NeverApart A p =
    (xs : List ℕ) (x : Table) (v r z : ℕ) (firsts replies : (k at : ℕ) → ℕ) → list_good A p xs ≡ true → usable p v ≡ true →
    p.threshold + 2 ≤ ones p.users r → OneFalse A p xs x v r z firsts replies → Apart A p r replies → ⊥
