-- The scheme of document 01 (section 4.3 of Zhao and Sun), over an arithmetic as a parameter.
--   Arithmetic, modular, sixteen       elements; modulo q; modulo 65521
--   elements, within, is_near, near    tests of a list
--   sum, whole_sum                     sums in an arithmetic, and of whole numbers
--   Plan, plan_good, items, places     K, U, T, M; U - T and L
--   Use                                figures are counts or signed
--   reach, figure_bound, figures_good  how far from zero a total can be told, and a figure may lie; a row of such figures
--   in_set, ones, usable               a set of airfields as a number; its size
--   list_length, mask, noise           the random list and what stands where
--   column, row_value, share, key      shares and keys
--   first_message, reply               messages
--   total_at, whole_total              totals, in an arithmetic and as whole numbers
--   Stage, start_refusal, key_refusal, message_refusal, reply_refusal, lookup_refusal, after, key_left    what the calls answer and leave
-- Document 01's airfield is a user here, and its S of an airfield is that user's mask. Assumes nothing: these are definitions.
use Rattle.std.specs.Prelude.{Bool, true, false, ◌&&◌, ◌||◌, not, cond, List, [], ◌∷◌, ◌++◌, map, ℕ, zero, suc, ◌+◌, ◌*◌, ◌-◌, ◌/◌, ◌%◌, ◌^◌, ltb, leb, eqb, length, get_or, take, drop}
use Rattle.algebra.specs.Residue.{inverse}
use Rattle.scheme.specs.Limits.{least_users, most_users, least_collusion, least_blocks, most_blocks}
use Rattle.scheme.specs.Lists.{span, members, rank, rows, each, all_of}

-- ---- ARITHMETIC
-- elements are the numbers below size; sums and differences are elements, a product may be unreduced;
-- the coefficient of user k and column j
pub record Arithmetic : Type 0 where
  pub size : ℕ
  pub add : (a b : ℕ) → ℕ
  pub subtract : (a b : ℕ) → ℕ
  pub multiply : (a b : ℕ) → ℕ
  pub coefficient : (k j : ℕ) → ℕ

-- modulo q: row k at the point k, column j at - j
abbrev pub modular : (q : ℕ) → Arithmetic
modular q =
    record {
      size = q;
      add = λ a b. (a + b) % q;
      subtract = λ a b. (a + (q - b % q)) % q;
      multiply = λ a b. a * b;
      coefficient = λ k j. inverse q (k + j);
    }

abbrev pub q : ℕ
q = 65521

-- the elements of document 01, held in 16 bits
abbrev pub sixteen : Arithmetic
sixteen = modular q

unfoldable pub elements : Arithmetic → List ℕ → Bool
elements A xs = all_of (λ x. ltb x A.size) xs

-- no number is above the most
unfoldable pub within : (most : ℕ) → List ℕ → Bool
within n xs = all_of (λ x. leb x n) xs

-- an element no further than the most from zero, up or down
unfoldable pub is_near : Arithmetic → (most x : ℕ) → Bool
is_near A n x = leb x n || (leb (A.size - n) x && ltb x A.size)

unfoldable pub near : Arithmetic → (most : ℕ) → List ℕ → Bool
near A n xs = all_of (is_near A n) xs

unfoldable pub sum : Arithmetic → (indices : List ℕ) → (ℕ → ℕ) → ℕ
sum A [] f = 0
sum A (k ∷ l) f = A.add (f k) (sum A l f)

unfoldable pub whole_sum : (indices : List ℕ) → (ℕ → ℕ) → ℕ
whole_sum [] f = 0
whole_sum (k ∷ l) f = f k + whole_sum l f

-- ---- PLANS
-- K, U, T and M
pub record Plan : Type 0 where
  pub users : ℕ
  pub threshold : ℕ
  pub collusion : ℕ
  pub blocks : ℕ

unfoldable pub plan_good : Plan → Bool
plan_good p =
    ((leb least_users p.users && leb p.users most_users) && (leb least_collusion p.collusion && ltb p.collusion p.threshold))
    && (ltb p.threshold p.users && (leb least_blocks p.blocks && leb p.blocks most_blocks))

-- U - T items a block, and L places a row of figures
unfoldable pub items : Plan → ℕ
items p = p.threshold - p.collusion

unfoldable pub places : Plan → ℕ
places p = p.blocks * items p

-- what an airfield reports
pub data Use : Type 0 where
  counts : Use
  signed : Use

-- elements stand for as many numbers below zero as above it, where figures are signed
unfoldable pub reach : Arithmetic → Use → ℕ
reach A counts = A.size - 1
reach A signed = (A.size - 1) / 2

-- "a figure is at most 65520 / K, rounded down"; "a signed figure lies within 32760 / K of zero, rounded down"
unfoldable pub figure_bound : Arithmetic → Use → Plan → ℕ
figure_bound A u p = reach A u / p.users

unfoldable pub figures_good : Arithmetic → Use → Plan → (figures : List ℕ) → Bool
figures_good A counts p fs = within (figure_bound A counts p) fs
figures_good A signed p fs = near A (figure_bound A signed p) fs

unfoldable pub is_user : Plan → (k : ℕ) → Bool
is_user p k = leb 1 k && leb k p.users

-- ---- SETS: bit k - 1 stands for user k
unfoldable pub in_set : (set k : ℕ) → Bool
in_set v k = eqb (v / 2 ^ (k - 1) % 2) 1

-- how many of the lowest bits are one
unfoldable pub ones : (bits v : ℕ) → ℕ
ones zero v = 0
ones (suc n) v = v % 2 + ones n (v / 2)

unfoldable pub usable : Plan → (set : ℕ) → Bool
usable p v = ltb v (2 ^ p.users) && leb p.threshold (ones p.users v)

unfoldable pub usable_with : Plan → (k set : ℕ) → Bool
usable_with p k v = usable p v && in_set v k

-- in rising number: the users of a set, the usable sets, the usable sets that hold a user
unfoldable pub users_in : Plan → (set : ℕ) → List ℕ
users_in p v = members (in_set v) p.users 1

unfoldable pub usable_sets : Plan → List ℕ
usable_sets p = members (usable p) (2 ^ p.users) 0

unfoldable pub sets_with : Plan → (k : ℕ) → List ℕ
sets_with p k = members (usable_with p k) (2 ^ p.users) 0

-- ---- THE RANDOM LIST: the masks of each user, then T noise elements for each usable set and block
unfoldable pub list_length : Plan → ℕ
list_length p = p.users * places p + length (usable_sets p) * p.blocks * p.collusion

unfoldable pub mask : Plan → (list : List ℕ) → (k place : ℕ) → ℕ
mask p xs k i = get_or xs ((k - 1) * places p + i) 0

unfoldable pub noise_start : Plan → (set block : ℕ) → ℕ
noise_start p v b = p.users * places p + (rank (usable p) v * p.blocks + b) * p.collusion

unfoldable pub noise : Plan → (list : List ℕ) → (set block item : ℕ) → ℕ
noise p xs v b i = get_or xs (noise_start p v b + i) 0

-- ---- SHARES AND KEYS
-- what stands in column j, 1 to U, of a set's block: the sums of the masks over the set, then the noise
unfoldable pub column : Arithmetic → Plan → (list : List ℕ) → (set block j : ℕ) → ℕ
column A p xs v b j =
    cond (leb j (items p)) (sum A (users_in p v) (λ k. mask p xs k (b * items p + (j - 1)))) (noise p xs v b (j - suc (items p)))

-- columns 1 to n times the coefficients of user k
unfoldable pub row_value : Arithmetic → (n k : ℕ) → (columns : ℕ → ℕ) → ℕ
row_value A n k f = sum A (span n 1) (λ j. A.multiply (A.coefficient k j) (f j))

unfoldable pub share : Arithmetic → Plan → (list : List ℕ) → (k set block : ℕ) → ℕ
share A p xs k v b = row_value A p.threshold k (column A p xs v b)

unfoldable pub shares : Arithmetic → Plan → (list : List ℕ) → (k set : ℕ) → List ℕ
shares A p xs k v = map (share A p xs k v) (span p.blocks 0)

-- the user's masks, then its shares for each usable set that holds it
unfoldable pub key : Arithmetic → Plan → (list : List ℕ) → (k : ℕ) → List ℕ
key A p xs k = map (mask p xs k) (span (places p) 0) ++ rows (shares A p xs k) (sets_with p k)

unfoldable pub key_length : Plan → (k : ℕ) → ℕ
key_length p k = places p + length (sets_with p k) * p.blocks

-- ---- MESSAGES AND TOTALS
unfoldable pub first_message : Arithmetic → Plan → (key figures : List ℕ) → List ℕ
first_message A p ks fs = each A.add (places p) fs ks

-- the part of the key where the shares for the set lie: behind those of the smaller sets
unfoldable pub reply_start : Plan → (k set : ℕ) → ℕ
reply_start p k v = places p + rank (usable_with p k) v * p.blocks

unfoldable pub reply : Plan → (key : List ℕ) → (k set : ℕ) → List ℕ
reply p ks k v = take p.blocks (drop (reply_start p k v) ks)

-- the sum over a set of a place of a table, which gives each user's row of figures
unfoldable pub total_at : Arithmetic → Plan → (table : ℕ → List ℕ) → (set place : ℕ) → ℕ
total_at A p x v i = sum A (users_in p v) (λ k. get_or (x k) i 0)

-- the same as a whole number: nothing is taken off
unfoldable pub whole_total : Plan → (table : ℕ → List ℕ) → (set place : ℕ) → ℕ
whole_total p x v i = whole_sum (users_in p v) (λ k. get_or (x k) i 0)

-- ---- THE CALLS: 0 where a call is taken, else the earliest refusal that applies
infixr 20 ◌then◌
unfoldable pub ◌then◌ : ℕ → ℕ → ℕ
zero then n = n
suc m then n = suc m

-- the number where the condition does not hold
unfoldable pub unless : Bool → (number : ℕ) → ℕ
unless true n = 0
unless false n = n

-- an airfield end is fresh, or has sent, or has answered one named set
pub data Stage : Type 0 where
  fresh : Stage
  sent : Stage
  answered : (set : ℕ) → Stage

unfoldable pub is_fresh : Stage → Bool
is_fresh fresh = true
is_fresh sent = false
is_fresh (answered w) = false

-- no other set was answered
unfoldable pub open_to : (set : ℕ) → Stage → Bool
open_to v fresh = true
open_to v sent = true
open_to v (answered w) = eqb w v

unfoldable pub start_refusal : Plan → (k : ℕ) → ℕ
start_refusal p k = unless (plan_good p) 1 then unless (is_user p k) 4

-- of the key maker: 1, 4, 2, 3; `out` is the length of the lent buffer
unfoldable pub key_refusal : Arithmetic → Plan → (k : ℕ) → (list : List ℕ) → (out : ℕ) → ℕ
key_refusal A p k xs out =
    start_refusal p k then unless (eqb (length xs) (list_length p) && eqb out (key_length p k)) 2 then unless (elements A xs) 3

-- of the first message: 18, 2, 3, 32, of an end that start has made
unfoldable pub message_refusal : Arithmetic → Plan → (k : ℕ) → Use → Stage → (key figures : List ℕ) → (out : ℕ) → ℕ
message_refusal A p k u g ks fs out =
    start_refusal p k then unless (is_fresh g) 18
    then unless (eqb (length ks) (key_length p k) && (eqb (length fs) (places p) && eqb out (places p))) 2
    then unless (elements A ks && elements A fs) 3 then unless (figures_good A u p fs) 32

-- of the reply: 18, 2, 3, 5, 6, 33, 19, of an end that start has made; `own` is the round that its key belongs to
unfoldable pub reply_refusal : Arithmetic → Plan → (k : ℕ) → Stage → (own : ℕ) → (key : List ℕ) → (set round : ℕ) → ℕ
reply_refusal A p k g own ks v r =
    start_refusal p k then unless (not (is_fresh g)) 18 then unless (eqb (length ks) (key_length p k)) 2 then unless (elements A ks) 3
    then unless (usable p v) 5 then unless (in_set v k) 6 then unless (eqb r own) 33 then unless (open_to v g) 19

-- of the lookup of a set's shares in a user's key: 1, 4, 5, 6
unfoldable pub lookup_refusal : Plan → (k set : ℕ) → ℕ
lookup_refusal p k v = start_refusal p k then unless (usable p v) 5 then unless (in_set v k) 6

-- what a call leaves, of its state or in a lent buffer: the new value, or after a refusal the old one
unfoldable pub after : {A : Type 0} → (refusal : ℕ) → (new old : A) → A
after zero new old = new
after (suc n) new old = old

abbrev pub key_left : Arithmetic → Plan → (k : ℕ) → (list out : List ℕ) → List ℕ
key_left A p k xs o = after (key_refusal A p k xs (length o)) (key A p xs k) o
