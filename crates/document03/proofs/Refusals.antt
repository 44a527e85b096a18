-- Refusals: ours are document 03's.
--   refuse, refuse_last, refuse_user            one test of a chain, the last, and that of an airfield's number
--   is_user_same, fresh_same, open_same         the tests of an airfield's number and of a stage
--   start_refusal_same .. part_refusal_same     the numbers of start, key maker, first message, and reply asked for the round of the key
-- Assumes nothing.
use Rattle.std.proofs.Common.{◌≡◌, refl, sym, ap, ap₂, ◌∙◌, Bool, true, false, ◌&&◌, ◌||◌, not, cond, List, ℕ, zero, suc, ◌+◌, ◌≤◌, arith, le-ltb, lt-ltb, le-leb, eq-eqb, ne_eqb, ltb, leb, eqb, length}
use native.Mathlib.Decide.{dec_le}
use borrow.Author.Tests.{lt-leb}
use lib.Dec.{eqb-suc-zero, eqb-suc-suc}
use Rattle.scheme.specs.Scheme.{sixteen, counts, plan_good, is_user, ◌then◌, unless, is_fresh, open_to, start_refusal, key_refusal, message_refusal, reply_refusal}
use Rattle.scheme.proofs.Refusals.{then_assoc}
use Rattle.client.specs.Client.{stage_of_number}
use Rattle.document03.specs.Ours.{our_plan}
use Rattle.document03.specs.Scheme as D
use Rattle.document03.specs.Entry as E
use Rattle.document03.proofs.Sets.{plan_good_same, places_same, in_set_same, usable_same, list_long_same, key_long_same}
use Rattle.document03.proofs.Shown.{elements_same, figures_same}

-- ---- a chain of refusals: cond .. and ours by then and unless
pub refuse : (n : ℕ) {a b : Bool} {x y : ℕ} → a ≡ b → x ≡ y → cond (not a) (suc n) x ≡ (unless b (suc n) then y)
unfolding ◌then◌ unless
refuse n {b = true} e d = rw e d
refuse n {b = false} e d = rw e

pub refuse_last : (n : ℕ) {a b : Bool} → a ≡ b → cond a 0 (suc n) ≡ unless b (suc n)
unfolding unless
refuse_last n {b = true} e = rw e
refuse_last n {b = false} e = rw e

refuse_start : {a b x y : ℕ} → a ≡ b → x ≡ y → cond (not (eqb a 0)) a x ≡ (b then y)
unfolding ◌then◌
refuse_start {a} {b} {x} {y} e d = rw (e, d) (go b)
  where
    go : (b : ℕ) → cond (not (eqb b 0)) b y ≡ (b then y)
    go zero = refl
    go (suc b) = rw (eqb-suc-zero b)

then_nothing : (a : ℕ) → (a then 0) ≡ a
unfolding ◌then◌
then_nothing zero = refl
then_nothing (suc a) = refl

-- ---- tests
pub is_user_same : (p : D.Plan) (k : ℕ) → (eqb k 0 || ltb p.k k) ≡ not (is_user (our_plan p) k)
unfolding is_user
is_user_same p k = pick (dec_le 1 k) (dec_le k p.k)
  where
    pick : Dec (1 ≤ k) → Dec (k ≤ p.k) → (eqb k 0 || ltb p.k k) ≡ not (leb 1 k && leb k p.k)
    pick (yes a) (yes b) = simp (le-leb 1 k a, le-leb k p.k b, le-ltb p.k k b, ne_eqb k 0 (λ e. omega arith))
    pick (yes a) (no b) = simp (le-leb 1 k a, lt-leb k p.k (omega arith), lt-ltb p.k k (omega arith), ne_eqb k 0 (λ e. omega arith))
    pick (no a) b = simp (lt-leb 1 k (omega arith), eq-eqb k 0 (omega arith))

pub fresh_same : (g : ℕ) → eqb g 0 ≡ is_fresh (stage_of_number g)
unfolding stage_of_number is_fresh
fresh_same zero = refl
fresh_same (suc zero) = refl
fresh_same (suc (suc w)) = eqb-suc-zero (suc w)

pub open_same : (g v : ℕ) → 1 ≤ g → (eqb g 1 || eqb g (2 + v)) ≡ open_to v (stage_of_number g)
unfolding stage_of_number open_to
open_same zero v h = absurd (omega arith)
open_same (suc zero) v h = refl
open_same (suc (suc w)) v h =
    let e : 2 + v ≡ suc (suc v) = omega arith in
    rw (eqb-suc-suc (suc w) 0, eqb-suc-zero w) (ap (eqb (suc (suc w))) e ∙ eqb-suc-suc (suc w) (suc v) ∙ eqb-suc-suc w v)

-- ---- the numbers
pub refuse_user : (p : D.Plan) (k : ℕ) {x y : ℕ} → x ≡ y → cond (eqb k 0 || ltb p.k k) 4 x ≡ (unless (is_user (our_plan p) k) 4 then y)
refuse_user p k {x} d = ap (λ (t : Bool). cond t 4 x) (is_user_same p k) ∙ refuse _ refl d

pub start_refusal_same : (p : D.Plan) (k : ℕ) → E.start_refusal p k ≡ start_refusal (our_plan p) k
unfolding E.start_refusal start_refusal
start_refusal_same p k = refuse _ (plan_good_same p) (refuse_user p k refl ∙ then_nothing (unless (is_user (our_plan p) k) 4))

pub key_refusal_same : (p : D.Plan) (k : ℕ) (xs : List ℕ) (o : ℕ) → E.key_refusal p k xs o ≡ key_refusal sixteen (our_plan p) k xs o
unfolding E.key_refusal key_refusal start_refusal
key_refusal_same p k xs o =
    refuse _ (plan_good_same p)
    (refuse_user p k
    (refuse _ (ap₂ (λ (m n : ℕ). eqb (length xs) m && eqb o n) (list_long_same p) (key_long_same p k)) (refuse_last _ (elements_same xs))))
    ∙ sym (then_assoc (unless (plan_good (our_plan p)) 1) (unless (is_user (our_plan p) k) 4) _)

pub message_refusal_same : (p : D.Plan) (k g : ℕ) (ks fs : List ℕ) (o : ℕ)
    → E.message_refusal p k g ks fs o ≡ message_refusal sixteen (our_plan p) k counts (stage_of_number g) ks fs o
unfolding E.message_refusal message_refusal
message_refusal_same p k g ks fs o =
    refuse_start (start_refusal_same p k)
    (refuse _ (fresh_same g)
    (refuse _ (ap₂ (λ (m n : ℕ). eqb (length ks) m && (eqb (length fs) n && eqb o n)) (key_long_same p k) (places_same p))
    (refuse _ (ap₂ (λ (a b : Bool). a && b) (elements_same ks) (elements_same fs)) (refuse_last _ (figures_same p fs)))))

-- a fresh end is refused before its set is looked at
refuse_fresh : (g : ℕ) {x y : ℕ} → (1 ≤ g → x ≡ y) → cond (eqb g 0) 18 x ≡ (unless (not (is_fresh (stage_of_number g))) 18 then y)
unfolding stage_of_number is_fresh unless ◌then◌
refuse_fresh zero h = refl
refuse_fresh (suc zero) h = h (omega arith)
refuse_fresh (suc (suc w)) h = rw (eqb-suc-zero (suc w)) (h (omega arith))

-- a reply asked for the round of the key is not refused for its round
asked_own : (r : ℕ) {x y : ℕ} → x ≡ y → x ≡ (unless (eqb r r) 33 then y)
unfolding unless ◌then◌
asked_own r d = rw (eq-eqb r r refl) d

pub part_refusal_same : (p : D.Plan) (k g : ℕ) (ks : List ℕ) (v round : ℕ)
    → E.part_refusal p k g ks v ≡ reply_refusal sixteen (our_plan p) k (stage_of_number g) round ks v round
unfolding E.part_refusal reply_refusal
part_refusal_same p k g ks v round =
    refuse_start (start_refusal_same p k)
    (refuse_fresh g (λ later.
    refuse _ (ap (eqb (length ks)) (key_long_same p k))
    (refuse _ (elements_same ks) (refuse _ (usable_same p v) (refuse _ (in_set_same v k) (asked_own round (refuse_last _ (open_same g v later))))))))
