-- Plans, sets and lengths: ours are document 03's.
--   plan_good_same, places_same                          plans
--   in_set_same, ones_same, usable_same                  sets
--   usable_sets_same, holding_same                       the usable sets, and those that hold an airfield
--   index_rank, usable_index, holding_index              the place of a set in a row of sets
--   list_long_same, key_long_same, reply_start_same      lengths and places
-- Assumes nothing.
use Rattle.std.proofs.Common.{◌≡◌, refl, sym, ap, ap₂, ◌∙◌, Bool, true, false, ◌&&◌, cond, List, ◌∷◌, ℕ, zero, suc, ◌+◌, ◌*◌, ◌/◌, ◌%◌, ◌^◌, ◌<◌, add-zero, zero-add, arith, eq-eqb, ne_eqb, ltb, leb, length}
use Rattle.scheme.specs.Lists.{keep, members, rank}
use Rattle.scheme.specs.Scheme.{plan_good, items, places, in_set, ones, usable, usable_with, usable_sets, sets_with, list_length, key_length, reply_start}
use Rattle.scheme.proofs.Tests.{and_joined, holds}
use Rattle.scheme.proofs.Sets.{usable_below}
use Rattle.document03.specs.Ours.{our_plan}
use Rattle.document03.specs.Scheme as D

-- ---- plans
pub plan_good_same : (p : D.Plan) → D.plan_good p ≡ plan_good (our_plan p)
unfolding D.plan_good plan_good
plan_good_same p = refl

pub places_same : (p : D.Plan) → D.places p ≡ places (our_plan p)
unfolding D.places places D.items items
places_same p = refl

-- ---- sets
pub in_set_same : (v k : ℕ) → D.in_set v k ≡ in_set v k
unfolding D.in_set in_set
in_set_same v k = refl

pub ones_same : (n v : ℕ) → D.ones n v ≡ ones n v
unfolding D.ones ones
ones_same zero v = refl
ones_same (suc n) v = ap (λ (m : ℕ). v % 2 + m) (ones_same n (v / 2))

pub usable_same : (p : D.Plan) (v : ℕ) → D.usable p v ≡ usable (our_plan p) v
unfolding D.usable usable
usable_same p v = ap (λ (n : ℕ). ltb v (2 ^ p.k) && leb p.u n) (ones_same p.k v)

-- ---- rows of sets
cond_keep : {a b : Bool} → a ≡ b → (k : ℕ) {l m : List ℕ} → l ≡ m → cond a (k ∷ l) l ≡ keep b k m
cond_keep {b = true} e k d = rw e (ap (λ (l : List ℕ). k ∷ l) d)
cond_keep {b = false} e k d = rw e d

usable_from_same : (n v : ℕ) (p : D.Plan) → D.usable_from n v p ≡ members (usable (our_plan p)) n v
unfolding D.usable_from
usable_from_same zero v p = refl
usable_from_same (suc n) v p = cond_keep (usable_same p v) v (usable_from_same n (suc v) p)

pub usable_sets_same : (p : D.Plan) → D.usable_sets p ≡ usable_sets (our_plan p)
unfolding D.usable_sets usable_sets
usable_sets_same p = usable_from_same (2 ^ p.k) 0 p

holding_members : (t : ℕ → Bool) (k n v : ℕ) → D.holding k (members t n v) ≡ members (λ w. t w && in_set w k) n v
unfolding D.holding
holding_members t k zero v = refl
holding_members t k (suc n) v = go (t v) (holding_members t k n (suc v))
  where
    go : (b : Bool) → D.holding k (members t n (suc v)) ≡ members (λ w. t w && in_set w k) n (suc v)
        → D.holding k (keep b v (members t n (suc v))) ≡ keep (b && in_set v k) v (members (λ w. t w && in_set w k) n (suc v))
    go true e = cond_keep (in_set_same v k) v e
    go false e = e

pub holding_same : (p : D.Plan) (k : ℕ) → D.holding k (D.usable_sets p) ≡ sets_with (our_plan p) k
unfolding usable_sets sets_with usable_with
holding_same p k = ap (D.holding k) (usable_sets_same p) ∙ holding_members (usable (our_plan p)) k (2 ^ p.k) 0

-- ---- the place of a set
index_first : (v : ℕ) (b : Bool) (l : List ℕ) → b ≡ true → D.index_of v (keep b v l) ≡ 0
unfolding D.index_of
index_first v true l e = rw (eq-eqb v v refl)
index_first v false l e = absurd (holds e)

index_after : (v w : ℕ) (b : Bool) (l m : List ℕ) → (v ≡ w → ⊥) → D.index_of v l ≡ length m → D.index_of v (keep b w l) ≡ length (keep b w m)
unfolding D.index_of
index_after v w true l m h e = rw (ne_eqb v w h) (ap suc e)
index_after v w false l m h e = e

index_from : (t : ℕ → Bool) (n d k : ℕ) → d < n → t (k + d) ≡ true → D.index_of (k + d) (members t n k) ≡ length (members t d k)
index_from t zero d k h e = absurd (omega arith)
index_from t (suc n) zero k h e =
    ap (λ (v : ℕ). D.index_of v (members t (suc n) k)) (add-zero k) ∙ index_first k (t k) (members t n (suc k)) (ap t (sym (add-zero k)) ∙ e)
index_from t (suc n) (suc d) k h e =
    let s : k + suc d ≡ suc k + d = omega arith in
    index_after (k + suc d) k (t k) (members t n (suc k)) (members t d (suc k)) (λ r. omega arith)
    (ap (λ (v : ℕ). D.index_of v (members t n (suc k))) s ∙ index_from t n d (suc k) (omega arith) (ap t (sym s) ∙ e))

pub index_rank : (t : ℕ → Bool) (n v : ℕ) → v < n → t v ≡ true → D.index_of v (members t n 0) ≡ rank t v
unfolding rank
index_rank t n v h e = ap (λ (w : ℕ). D.index_of w (members t n 0)) (sym (zero-add v)) ∙ index_from t n v 0 h (ap t (zero-add v) ∙ e)

module _ (p : D.Plan) (v : ℕ) (h : usable (our_plan p) v ≡ true) where
  pub usable_index : D.index_of v (D.usable_sets p) ≡ rank (usable (our_plan p)) v
  unfolding usable_sets
  usable_index = ap (D.index_of v) (usable_sets_same p) ∙ index_rank (usable (our_plan p)) (2 ^ p.k) v (usable_below (our_plan p) v h) h

  pub holding_index : (k : ℕ) → in_set v k ≡ true → D.index_of v (D.holding k (D.usable_sets p)) ≡ rank (usable_with (our_plan p) k) v
  unfolding sets_with usable_with
  holding_index k i =
      ap (D.index_of v) (holding_same p k)
      ∙ index_rank (usable_with (our_plan p) k) (2 ^ p.k) v (usable_below (our_plan p) v h) (and_joined h i)

  pub reply_start_same : (k : ℕ) → in_set v k ≡ true → D.reply_start p k v ≡ reply_start (our_plan p) k v
  unfolding D.reply_start reply_start
  reply_start_same k i = ap₂ (λ (a b : ℕ). a + b * p.m) (places_same p) (holding_index k i)

-- ---- lengths
pub list_long_same : (p : D.Plan) → D.list_long p ≡ list_length (our_plan p)
unfolding D.list_long list_length
list_long_same p = ap₂ (λ (a : ℕ) (l : List ℕ). p.k * a + length l * p.m * p.t) (places_same p) (usable_sets_same p)

pub key_long_same : (p : D.Plan) (k : ℕ) → D.key_long p k ≡ key_length (our_plan p) k
unfolding D.key_long key_length
key_long_same p k = ap₂ (λ (a : ℕ) (l : List ℕ). a + length l * p.m) (places_same p) (holding_same p k)
