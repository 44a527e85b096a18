-- Keys, messages and replies: ours modulo 65521 are document 03's.
--   key_same, places_in_key    keys of a good plan's airfields from a list of the right length; the least length of a key
--   first_message_same         first messages from lists that are long enough
--   reply_same                 replies to a usable set that holds the airfield
-- Assumes nothing.
use Rattle.std.proofs.Common.{◌≡◌, refl, sym, ap, ap₂, ◌∙◌, true, List, [], ◌∷◌, ◌++◌, map, ℕ, zero, suc, ◌+◌, ◌*◌, ◌-◌, ◌%◌, ◌^◌, ◌≤◌, ◌<◌, min, zero-add, suc-mul, mul-le-mul_right, arith, length, get_or, take, drop, length-take, length-drop, length-append, ext_get_or, get_or-take, get_or-drop, length-take-le}
use Rattle.scheme.specs.Lists.{span, rows}
use Rattle.scheme.specs.Scheme.{q, sixteen, items, places, in_set, usable, usable_with, sets_with, list_length, mask, shares, key, first_message, reply}
use Rattle.scheme.specs.Good.{Good}
use Rattle.scheme.proofs.Tests.{and_both}
use Rattle.scheme.proofs.Lists.{map_span_length, map_span_at, members_in, rows_same}
use Rattle.document03.specs.Ours.{our_plan}
use Rattle.document03.specs.Scheme as D
use Rattle.document03.proofs.Sets.{places_same, holding_same, reply_start_same}
use Rattle.document03.proofs.Shares.{shares_same}

-- a list of n elements that are f's is f's row
list_span : (l : List ℕ) (f : ℕ → ℕ) (n : ℕ) → length l ≡ n → ((i : ℕ) → i < n → get_or l i 0 ≡ f i) → l ≡ map f (span n 0)
list_span l f n long h =
    ext_get_or 0 l (map f (span n 0)) (long ∙ sym (map_span_length f n 0)) (λ i s.
    let k : i < n = omega (arith, long) in
    h i k ∙ sym (map_span_at f n 0 i k ∙ ap f (zero-add i)))

-- ---- keys
all_shares_rows : (p : D.Plan) (xs : List ℕ) (k : ℕ) (l : List ℕ) → D.all_shares p xs k l ≡ rows (D.shares p xs k) l
unfolding D.all_shares
all_shares_rows p xs k [] = refl
all_shares_rows p xs k (v ∷ l) = ap (λ (r : List ℕ). D.shares p xs k v ++ r) (all_shares_rows p xs k l)

module _ (p : D.Plan) (g : Good (our_plan p)) (xs : List ℕ) (k : ℕ) (lo : 1 ≤ k) (hi : k ≤ p.k) where
  all_shares_same : D.all_shares p xs k (D.holding k (D.usable_sets p)) ≡ rows (shares sixteen (our_plan p) xs k) (sets_with (our_plan p) k)
  unfolding sets_with usable_with
  all_shares_same =
      ap (D.all_shares p xs k) (holding_same p k) ∙ all_shares_rows p xs k (sets_with (our_plan p) k)
      ∙ rows_same (D.shares p xs k) (shares sixteen (our_plan p) xs k) (sets_with (our_plan p) k) (λ v i.
      let s = members_in (usable_with (our_plan p) k) (2 ^ p.k) 0 v i in
      shares_same p xs v (and_both _ _ s.2).0 g k lo hi)

  pub key_same : length xs ≡ list_length (our_plan p) → D.key p xs k ≡ key sixteen (our_plan p) xs k
  unfolding D.key key D.places places D.items items list_length mask
  key_same long =
      let n = places (our_plan p) in
      let a = (k - 1) * n in
      let s : a + n ≤ length xs = omega (arith, long, mul-le-mul_right {m = suc (k - 1)} {n = p.k} n (omega arith), suc-mul (k - 1) n) in
      ap₂ ◌++◌ (list_span (take n (drop a xs)) (mask (our_plan p) xs k) n (simp (length-take, length-drop) (omega arith)) (λ i l.
      get_or-take n (drop a xs) i 0 l ∙ get_or-drop a xs i 0)) all_shares_same

pub places_in_key : (p : D.Plan) (xs : List ℕ) (k : ℕ) → places (our_plan p) ≤ length (key sixteen (our_plan p) xs k)
unfolding key
places_in_key p xs k = simp length-append (omega (arith, map_span_length (mask (our_plan p) xs k) (places (our_plan p)) 0))

-- ---- first messages
masked_length : (a b : List ℕ) → length (D.masked a b) ≡ min (length a) (length b)
unfolding D.masked
masked_length [] b = omega arith
masked_length (x ∷ a) [] = omega arith
masked_length (x ∷ a) (y ∷ b) = omega (arith, masked_length a b)

masked_at : (a b : List ℕ) (i : ℕ) → i < length a → i < length b → get_or (D.masked a b) i 0 ≡ (get_or a i 0 + get_or b i 0) % q
unfolding D.masked
masked_at [] b i h l = absurd (omega arith)
masked_at (x ∷ a) [] i h l = absurd (omega arith)
masked_at (x ∷ a) (y ∷ b) zero h l = refl
masked_at (x ∷ a) (y ∷ b) (suc i) h l = masked_at a b i (omega arith) (omega arith)

pub first_message_same : (p : D.Plan) (ks fs : List ℕ) → length fs ≡ places (our_plan p) → places (our_plan p) ≤ length ks
    → D.first_message p ks fs ≡ first_message sixteen (our_plan p) ks fs
unfolding D.first_message first_message
first_message_same p ks fs e h =
    let n = places (our_plan p) in
    let s : length (take n ks) ≡ n = length-take-le n ks h in
    ap (λ (m : ℕ). D.masked fs (take m ks)) (places_same p)
    ∙ list_span (D.masked fs (take n ks)) (λ i. (get_or fs i 0 + get_or ks i 0) % q) n (omega (arith, masked_length fs (take n ks), s, e)) (λ i l.
    masked_at fs (take n ks) i (omega (arith, e)) (omega (arith, s)) ∙ ap (λ (m : ℕ). (get_or fs i 0 + m) % q) (get_or-take n ks i 0 l))

-- ---- replies
pub reply_same : (p : D.Plan) (ks : List ℕ) (k v : ℕ) → usable (our_plan p) v ≡ true → in_set v k ≡ true
    → D.reply p ks k v ≡ reply (our_plan p) ks k v
unfolding D.reply reply
reply_same p ks k v h i = ap (λ (n : ℕ). take p.m (drop n ks)) (reply_start_same p v h k i)
