-- What is shown, and document 03's third demand from ours.
--   elements_same, figures_same                       tests of lists
--   list_good_same, rows_same                         random lists, tables
--   as_document, shown_same                           what a random list and a table show
--   from_ours                                         its third demand for tables of a kind follows from ours
--   nothing_told                                      so it holds for all elements
-- Assumes nothing.
use Rattle.std.proofs.Common.{◌≡◌, refl, sym, ap, ap₂, ◌∙◌, Bool, true, false, ◌&&◌, cond, List, [], ◌∷◌, map, ℕ, zero, suc, ◌+◌, ◌-◌, ◌/◌, ◌≤◌, arith, eqb-true, ltb, leb, eqb, length}
use Rattle.scheme.specs.Lists.{span, keep, members, all_of}
use Rattle.scheme.specs.Scheme.{q, sixteen, elements, within, Plan, plan_good, counts, reach, figure_bound, figures_good, in_set, usable, users_in, list_length, key, first_message, reply}
use Rattle.scheme.specs.Promise.{Table, rows_good, element_rows, list_good, Shown, shown, Alike, Matching, NothingTold}
use Rattle.scheme.specs.Good.{Good}
use Rattle.scheme.proofs.Tests.{and_both}
use Rattle.scheme.proofs.Good.{good}
use Rattle.scheme.proofs.Privacy.Demand.{nothing_told_sixteen}
use Rattle.document03.specs.Ours.{our_plan}
use Rattle.document03.specs.Scheme as D
use Rattle.document03.specs.Service.{elements_good}
use Rattle.document03.specs.Promise as P
use Rattle.document03.specs.Counts as C
use Rattle.document03.proofs.Sets.{plan_good_same, places_same, in_set_same, ones_same, usable_same, list_long_same}
use Rattle.document03.proofs.Shares.{total_at_same}
use Rattle.document03.proofs.Keys.{key_same, places_in_key, first_message_same, reply_same}

pub elements_same : (xs : List ℕ) → elements_good xs ≡ elements sixteen xs
unfolding elements_good elements all_of
elements_same [] = refl
elements_same (x ∷ xs) = ap (λ (b : Bool). ltb x q && b) (elements_same xs)

pub figures_same : (p : D.Plan) (xs : List ℕ) → C.figures_good p xs ≡ figures_good sixteen counts (our_plan p) xs
unfolding C.figures_good C.figure_bound figures_good within figure_bound reach all_of
figures_same p [] = refl
figures_same p (x ∷ xs) = ap (λ (b : Bool). leb x ((q - 1) / p.k) && b) (figures_same p xs)

pub list_good_same : (p : D.Plan) (xs : List ℕ) → P.list_good p xs ≡ list_good sixteen (our_plan p) xs
unfolding P.list_good list_good
list_good_same p xs = ap₂ (λ (n : ℕ) (b : Bool). eqb (length xs) n && b) (list_long_same p) (elements_same xs)

pub rows_same : (p : D.Plan) (x : Table) → P.admissible p x → element_rows sixteen (our_plan p) x
unfolding P.admissible rows_good
rows_same p x h k lo hi w = let s = h k lo hi in (s.0 ∙ places_same p, sym (elements_same (x k)) ∙ s.1)

-- ---- what is shown
abbrev pub as_document : Shown → P.Shown
as_document s = record { firsts = s.firsts; replies = s.replies; keys = s.keys }

-- of the numbers that pass a test, one list each
cond_map : {a b : Bool} → a ≡ b → (k : ℕ) (f : ℕ → List ℕ) {l : List ℕ} {r : List (List ℕ)} (m : List ℕ) → (b ≡ true → l ≡ f k) → r ≡ map f m
    → cond a (l ∷ r) r ≡ map f (keep b k m)
cond_map {b = true} e k f m h d = rw e (ap₂ ◌∷◌ (h refl) d)
cond_map {b = false} e k f m h d = rw e d

module _ (p : D.Plan) (g : Good (our_plan p)) (xs : List ℕ) (long : length xs ≡ list_length (our_plan p)) where
  firsts_same : (x : Table) → element_rows sixteen (our_plan p) x → (n k : ℕ) → 1 ≤ k → k + n ≤ suc p.k
      → P.firsts_from n k p xs x ≡ map (λ i. first_message sixteen (our_plan p) (key sixteen (our_plan p) xs i) (x i)) (span n k)
  unfolding P.firsts_from rows_good
  firsts_same x h zero k lo hi = refl
  firsts_same x h (suc n) k lo hi =
      ap₂ ◌∷◌
      (ap (λ ks. D.first_message p ks (x k)) (key_same p g xs k lo (omega arith) long)
      ∙ first_message_same p (key sixteen (our_plan p) xs k) (x k) (h k lo (omega arith) refl).0 (places_in_key p xs k))
      (firsts_same x h n (suc k) (omega arith) (omega arith))

  replies_same : (v : ℕ) → usable (our_plan p) v ≡ true → (n k : ℕ) → 1 ≤ k → k + n ≤ suc p.k
      → P.replies_from n k p xs v ≡ map (λ i. reply (our_plan p) (key sixteen (our_plan p) xs i) i v) (members (in_set v) n k)
  unfolding P.replies_from
  replies_same v h zero k lo hi = refl
  replies_same v h (suc n) k lo hi =
      cond_map (in_set_same v k) k (λ i. reply (our_plan p) (key sixteen (our_plan p) xs i) i v) (members (in_set v) n (suc k))
      (λ i. ap (λ ks. D.reply p ks k v) (key_same p g xs k lo (omega arith) long) ∙ reply_same p (key sixteen (our_plan p) xs k) k v h i)
      (replies_same v h n (suc k) (omega arith) (omega arith))

  keys_same : (c n k : ℕ) → 1 ≤ k → k + n ≤ suc p.k → P.keys_from n k p xs c ≡ map (key sixteen (our_plan p) xs) (members (in_set c) n k)
  unfolding P.keys_from
  keys_same c zero k lo hi = refl
  keys_same c (suc n) k lo hi =
      cond_map (in_set_same c k) k (key sixteen (our_plan p) xs) (members (in_set c) n (suc k)) (λ i. key_same p g xs k lo (omega arith) long)
      (keys_same c n (suc k) (omega arith) (omega arith))

pub shown_same : (p : D.Plan) (v c : ℕ) (xs : List ℕ) (x : Table) → Good (our_plan p) → usable (our_plan p) v ≡ true
    → list_good sixteen (our_plan p) xs ≡ true → element_rows sixteen (our_plan p) x → P.shown p v c xs x ≡ as_document (shown sixteen (our_plan p) v c xs x)
unfolding P.shown shown users_in list_good
shown_same p v c xs x g h ok ax =
    let long : length xs ≡ list_length (our_plan p) = eqb-true _ _ (and_both _ _ ok).0 in
    λ i.
    record {
      firsts = firsts_same p g xs long x ax p.k 1 (omega arith) (omega arith) i;
      replies = replies_same p g xs long v h p.k 1 (omega arith) (omega arith) i;
      keys = keys_same p g xs long c p.k 1 (omega arith) (omega arith) i;
    }

-- ---- the third demand
alike_same : (p : D.Plan) (v c : ℕ) (x y : Table) → P.Alike p v c x y → Alike sixteen (our_plan p) v c x y
alike_same p v c x y s =
    record {
      own = λ k lo hi i. s.own k lo hi (in_set_same c k ∙ i);
      totals = λ i l. sym (total_at_same p x v i) ∙ s.totals i (rw (places_same p) l) ∙ total_at_same p y v i;
    }

pub from_ours : (theirs : D.Plan → Table → Type 0) (kind : Plan → Table → Type 0) → ((p : D.Plan) (x : Table) → theirs p x → P.admissible p x)
    → ((p : D.Plan) (x : Table) → theirs p x → kind (our_plan p) x) → ((p : Plan) → plan_good p ≡ true → NothingTold sixteen p (kind p)) → C.NothingToldOf theirs
unfolding NothingTold C.NothingToldOf
from_ours theirs kind good-rows same_kind ours p v c x y pg u cl few ax ay al =
    record {
      partner = m.partner;
      back = m.back;
      stays = λ xs ok. let s = m.stays xs (list_ours xs ok) in (list_good_same p _ ∙ s.0, list_good_same p _ ∙ s.1);
      one_to_one = λ xs ok. m.one_to_one xs (list_ours xs ok);
      same = λ xs ok.
          let o = list_ours xs ok in
          shown_same p v c xs x g h o (rows_same p x (good-rows p x ax)) ∙ ap as_document (m.same xs o)
          ∙ sym (shown_same p v c (m.partner xs) y g h (m.stays xs o).0 (rows_same p y (good-rows p y ay)));
    }
  where
    ok_plan : plan_good (our_plan p) ≡ true
    ok_plan = sym (plan_good_same p) ∙ pg

    g : Good (our_plan p)
    g = good (our_plan p) ok_plan

    h : usable (our_plan p) v ≡ true
    h = sym (usable_same p v) ∙ u

    list_ours : (xs : List ℕ) → P.list_good p xs ≡ true → list_good sixteen (our_plan p) xs ≡ true
    list_ours xs ok = sym (list_good_same p xs) ∙ ok

    m : Matching sixteen (our_plan p) v c x y
    m = ours (our_plan p) ok_plan v c x y h cl (rw (← ones_same p.k c) few) (same_kind p x ax) (same_kind p y ay) (alike_same p v c x y al)

-- DOCUMENT 03'S THIRD DEMAND
pub nothing_told : P.NothingTold
unfolding P.NothingTold C.NothingToldOf
nothing_told = from_ours P.admissible (element_rows sixteen) (λ p x h. h) rows_same (λ p h. nothing_told_sixteen p h (element_rows sixteen p))
