-- Document 03's specs/Scheme.antt, word for word.
-- Plans, sets, keys, messages and shares. Assumes nothing: these are definitions.
use Rattle.std.specs.Prelude.{Bool, ◌&&◌, cond, List, [], ◌∷◌, ◌++◌, ℕ, zero, suc, ◌+◌, ◌*◌, ◌-◌, ◌/◌, ◌%◌, ◌^◌, ltb, leb, eqb, length, get_or, take, drop}

abbrev pub q : ℕ
q = 65521

pub record Plan : Type 0 where
  pub k : ℕ
  pub u : ℕ
  pub t : ℕ
  pub m : ℕ

unfoldable pub plan : (k u t m : ℕ) → Plan
plan k u t m = record { k = k; u = u; t = t; m = m }

unfoldable pub plan_good : Plan → Bool
plan_good p =
    ((leb 3 p.k && leb p.k 8) && (leb 1 p.t && ltb p.t p.u)) && (ltb p.u p.k && (leb 1 p.m && leb p.m 16))

-- items a block, and places of a row
unfoldable pub items : Plan → ℕ
items p = p.u - p.t

unfoldable pub places : Plan → ℕ
places p = p.m * items p

-- sets of airfields: bit k - 1 stands for airfield k
unfoldable pub in_set : (set k : ℕ) → Bool
in_set v k = eqb (v / 2 ^ (k - 1) % 2) 1

unfoldable pub ones : (left v : ℕ) → ℕ
ones zero v = 0
ones (suc n) v = v % 2 + ones n (v / 2)

unfoldable pub usable : Plan → (set : ℕ) → Bool
usable p v = ltb v (2 ^ p.k) && leb p.u (ones p.k v)

unfoldable pub usable_from : (left v : ℕ) → Plan → List ℕ
usable_from zero v p = []
usable_from (suc n) v p = cond (usable p v) (v ∷ usable_from n (suc v) p) (usable_from n (suc v) p)

unfoldable pub usable_sets : Plan → List ℕ
usable_sets p = usable_from (2 ^ p.k) 0 p

unfoldable pub holding : (k : ℕ) → List ℕ → List ℕ
holding k [] = []
holding k (v ∷ vs) = cond (in_set v k) (v ∷ holding k vs) (holding k vs)

-- the place of a set in a row of sets
unfoldable pub index_of : (v : ℕ) → List ℕ → ℕ
index_of v [] = 0
index_of v (w ∷ ws) = cond (eqb v w) 0 (suc (index_of v ws))

-- inverses modulo q, by the power q - 2
unfoldable pub power : (fuel a e : ℕ) → ℕ
power zero a e = 1
power (suc n) a e = let half = power n (a * a % q) (e / 2) in cond (eqb (e % 2) 1) (a * half % q) half

unfoldable pub inverse : ℕ → ℕ
inverse a = power 17 (a % q) (q - 2)

unfoldable pub coefficient : (k j : ℕ) → ℕ
coefficient k j = inverse (k + j)

-- THE RANDOM LIST: S of each airfield, then T noise elements for each usable set and block
unfoldable pub list_long : Plan → ℕ
list_long p = p.k * places p + length (usable_sets p) * p.m * p.t

unfoldable pub S : Plan → (list : List ℕ) → (k place : ℕ) → ℕ
S p xs k i = get_or xs ((k - 1) * places p + i) 0

unfoldable pub noise : Plan → (list : List ℕ) → (set block item : ℕ) → ℕ
noise p xs v b i = get_or xs (p.k * places p + (index_of v (usable_sets p) * p.m + b) * p.t + i) 0

-- sums over a set
unfoldable pub sum_set : (left k : ℕ) → (set : ℕ) → (ℕ → ℕ) → ℕ
sum_set zero k v f = 0
sum_set (suc n) k v f = (cond (in_set v k) (f k) 0 + sum_set n (suc k) v f) % q

unfoldable pub sum_S : Plan → (list : List ℕ) → (set place : ℕ) → ℕ
sum_S p xs v i = sum_set p.k 1 v (λ k. S p xs k i)

-- shares: columns 1 to U - T times the sums, the rest times the noise
unfoldable pub dotted : (left j : ℕ) → (k : ℕ) → (ℕ → ℕ) → ℕ
dotted zero j k f = 0
dotted (suc n) j k f = (coefficient k j * f j + dotted n (suc j) k f) % q

unfoldable pub share : Plan → (list : List ℕ) → (k set block : ℕ) → ℕ
share p xs k v b =
    (dotted (items p) 1 k (λ j. sum_S p xs v (b * items p + (j - 1)))
    + dotted p.t (suc (items p)) k (λ j. noise p xs v b (j - suc (items p)))) % q

unfoldable pub shares_from : (left b : ℕ) → Plan → (list : List ℕ) → (k set : ℕ) → List ℕ
shares_from zero b p xs k v = []
shares_from (suc n) b p xs k v = share p xs k v b ∷ shares_from n (suc b) p xs k v

unfoldable pub shares : Plan → (list : List ℕ) → (k set : ℕ) → List ℕ
shares p xs k v = shares_from p.m 0 p xs k v

unfoldable pub all_shares : Plan → (list : List ℕ) → (k : ℕ) → (sets : List ℕ) → List ℕ
all_shares p xs k [] = []
all_shares p xs k (v ∷ vs) = shares p xs k v ++ all_shares p xs k vs

-- KEYS, FIRST MESSAGES, REPLIES
unfoldable pub key : Plan → (list : List ℕ) → (k : ℕ) → List ℕ
key p xs k = take (places p) (drop ((k - 1) * places p) xs) ++ all_shares p xs k (holding k (usable_sets p))

unfoldable pub key_long : Plan → (k : ℕ) → ℕ
key_long p k = places p + length (holding k (usable_sets p)) * p.m

unfoldable pub masked : (figures s : List ℕ) → List ℕ
masked [] ss = []
masked (x ∷ xs) [] = []
masked (x ∷ xs) (s ∷ ss) = ((x + s) % q) ∷ masked xs ss

unfoldable pub first_message : Plan → (key figures : List ℕ) → List ℕ
first_message p ks fs = masked fs (take (places p) ks)

unfoldable pub reply_start : Plan → (k set : ℕ) → ℕ
reply_start p k v = places p + index_of v (holding k (usable_sets p)) * p.m

unfoldable pub reply : Plan → (key : List ℕ) → (k set : ℕ) → List ℕ
reply p ks k v = take p.m (drop (reply_start p k v) ks)

-- totals
unfoldable pub total_at : Plan → (table : ℕ → List ℕ) → (set place : ℕ) → ℕ
total_at p x v i = sum_set p.k 1 v (λ k. get_or (x k) i 0)
