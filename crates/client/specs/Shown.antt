-- Demand 3 over whole histories of the airfield ends: each end of one random list, all started with one round, gets any calls.
--   OneSet, Announced   every request for the ends' own round names one set: of one end, of all but the colluders', who may be asked anything
--   KeyRoom, KeyRooms  a lent buffer for the key has the key's length: of one end, of all
--   told, now_sent       what a call of an end hands out, told by its first message, its shares for one set and whether it has sent
--   all_told             the same of a list of calls, from a fresh end on
--   told_by              what a random list and a row give by that: the key; the first message, and the shares if the end is in the set
--   ShownIsSent        what the calls of an end hand out is so told
--   Seen, seen           what a random list and a table show: what the calls of all ends hand out, and the colluders' whole keys
--   SameSeen            two lists, each with its table, show the same, call by call, whatever comes to the ends
--   Demand3             THE THIRD DEMAND over what the calls give; Demand3OfBytes: from raw bytes on
-- For one set: whoever chooses a call by what was handed out before chooses the same under the partner, since all before was the same.
-- All of them over an arithmetic as a parameter. Assumes nothing: these are definitions.
use Rattle.std.specs.Prelude.{◌≡◌, Bool, true, false, cond, List, [], ◌∷◌, map, ℕ, ◌≤◌, eqb, length}
use Rattle.scheme.specs.Scheme as scheme
use Rattle.scheme.specs.Lists.{span}
use Rattle.scheme.specs.Scheme.{Arithmetic, plan_good, places, in_set, usable, users_in, key, key_length, first_message, reply, unless, ◌then◌, after}
use Rattle.scheme.specs.Promise.{Table, everyone, admissible, list_good, MatchingUnder, OfAlike}
use Rattle.scheme.specs.Evenly.{ByteMatchingUnder}
use Rattle.plan.specs.declared.Plan.{Plan}
use Rattle.plan.specs.declared.Use.{Use}
use Rattle.plan.specs.Plan.{plan_of, use_of}
use Rattle.client.specs.History.{Call, send, ask, Given, Handed, calls}

unfoldable pub OneSet : (own set : ℕ) → List Call → Type 0
OneSet own v [] = Unit {0}
OneSet own v (send o ∷ es) = OneSet own v es
OneSet own v (ask w r ∷ es) = (r ≡ own → w ≡ v) × OneSet own v es

abbrev pub Announced : Plan → (own set colluders : ℕ) → (calls : (k : ℕ) → List Call) → Type 0
Announced p own v c es = (k : ℕ) → 1 ≤ k → k ≤ p.users → in_set c k ≡ false → OneSet own v (es k)

abbrev pub KeyRoom : Plan → (k : ℕ) → (key_buffer : List ℕ) → Type 0
KeyRoom p k ko = length ko ≡ key_length (plan_of p) k

abbrev pub KeyRooms : Plan → (key_buffer : (k : ℕ) → List ℕ) → Type 0
KeyRooms p ko = (k : ℕ) → 1 ≤ k → k ≤ p.users → KeyRoom p k (ko k)

-- ---- what one end hands out
-- the first message goes into the first buffer of its length, once; then the shares go to whoever asks for the own round
unfoldable pub told : scheme.Plan → (k own : ℕ) → (message shares : List ℕ) → (sent : Bool) → Call → Given
told p k own m s false (send o) = let n = unless (eqb (length o) (places p)) 2 in record { number = n; out = after n m o }
told p k own m s true (send o) = record { number = 18; out = o }
told p k own m s false (ask w r) = record { number = 18; out = [] }
told p k own m s true (ask w r) =
    let n = unless (usable p w) 5 then unless (in_set w k) 6 then unless (eqb r own) 33 in record { number = n; out = after n s [] }

unfoldable pub now_sent : scheme.Plan → (sent : Bool) → Call → Bool
now_sent p false (send o) = eqb (length o) (places p)
now_sent p true (send o) = true
now_sent p b (ask w r) = b

unfoldable pub all_told : scheme.Plan → (k own : ℕ) → (message shares : List ℕ) → (sent : Bool) → List Call → List Given
all_told p k own m s b [] = []
all_told p k own m s b (e ∷ es) = told p k own m s b e ∷ all_told p k own m s (now_sent p b e) es

-- the messages are those of demand 3 in scheme/specs/Promise.antt, by the definitions of document 01
abbrev pub told_by : Arithmetic → Plan → (own set k : ℕ) → (list figures : List ℕ) → List Call → Handed
told_by A p own v k xs fs es = let ks = key A (plan_of p) xs k in
    record {
      key = ks;
      given = all_told (plan_of p) k own (first_message A (plan_of p) ks fs) (cond (in_set v k) (reply (plan_of p) ks k v) []) false es;
    }

unfoldable pub ShownIsSent : Arithmetic → Type 0
ShownIsSent A =
    (p : Plan) (u : Use) (own v k : ℕ) (xs fs ko : List ℕ) (es : List Call) →
    plan_good (plan_of p) ≡ true → list_good A (plan_of p) xs ≡ true → 1 ≤ k → k ≤ p.users →
    (length fs ≡ places (plan_of p)) × (scheme.figures_good A (use_of u) (plan_of p) fs ≡ true) → KeyRoom p k ko → OneSet own v es →
    calls A p u own xs fs k ko es ≡ told_by A p own v k xs fs es

-- ---- what all ends show
pub record Seen : Type 0 where
  pub handed : List (List Given)
  pub keys : List (List ℕ)

-- of all users, each with its own use, in the set or not; of the colluders the keys
unfoldable pub seen : Arithmetic → Plan → (uses : (k : ℕ) → Use) → (own colluders : ℕ) → (list : List ℕ) → Table
    → (key_buffer : (k : ℕ) → List ℕ) → (calls : (k : ℕ) → List Call) → Seen
seen A p u own c xs x ko es =
    record {
      handed = map (λ k. (calls A p (u k) own xs (x k) k (ko k) (es k)).given) (span p.users 1);
      keys = map (λ k. (calls A p (u k) own xs (x k) k (ko k) (es k)).key) (users_in (plan_of p) c);
    }

-- whatever the buffers for the keys held, and whatever comes to the ends, if every request for their round, to others than colluders, names v
unfoldable pub SameSeen : Arithmetic → Plan → (uses : (k : ℕ) → Use) → (own set colluders : ℕ) → (x y : Table) → (xs ys : List ℕ) → Type 0
SameSeen A p u own v c x y xs ys =
    (ko : (k : ℕ) → List ℕ) (es : (k : ℕ) → List Call) → KeyRooms p ko → Announced p own v c es →
    seen A p u own c xs x ko es ≡ seen A p u own c ys y ko es

-- THE THIRD DEMAND: one matching for all that may come
unfoldable pub Demand3 : Arithmetic → Type 0
Demand3 A =
    (p : Plan) (u : (k : ℕ) → Use) (own : ℕ) → plan_good (plan_of p) ≡ true →
    OfAlike A (plan_of p) (admissible A (plan_of p) everyone (λ k. use_of (u k))) (λ v c x y.
    MatchingUnder A (plan_of p) (SameSeen A p u own v c x y))

-- THE THIRD DEMAND FROM RAW BYTES: n of them
unfoldable pub Demand3OfBytes : Arithmetic → Type 0
Demand3OfBytes A =
    (p : Plan) (u : (k : ℕ) → Use) (own n : ℕ) → plan_good (plan_of p) ≡ true →
    OfAlike A (plan_of p) (admissible A (plan_of p) everyone (λ k. use_of (u k))) (λ v c x y.
    ByteMatchingUnder A (plan_of p) n (SameSeen A p u own v c x y))
