-- Element records that are taken in silence, one upon another.
--   silent_at                     one record, by what its call says
--   element_passes                an element that fits is refused by none of the tests that both kinds share
--   free_or_same                  what is left in a place that takes an element
--   Row, row_of, row_inside       the first two bytes of an element record, and where its user's elements start
--   Tagged, tagged                the record at a place has a tag
--   Comes, comes                  an element record that is taken, and its element held where it belongs
--   first_silent, reply_silent    it is taken in silence: a first element, and a reply element
--   taken_silently, refused_alone      an element's call: what an accepted one and a refused one do
--   turn_alone                    any other record
--   first_accepted, reply_accepted     what an accepted element tells of the head
-- Assumes nothing.
use Rattle.std.proofs.Common.{◌≡◌, refl, sym, ap, ap₂, ◌∙◌, true, List, ℕ, zero, suc, ◌+◌, ◌*◌, ◌-◌, ◌/◌, ◌%◌, ◌≤◌, ◌<◌, mul-le-mul_right, arith, length, get_or, set, lt-ltb, le-leb}
use Rattle.std.specs.Prelude.{Result, Ok}
use native.Mathlib.Nat.{eq_of_mul-eq-mul_left}
use Rattle.scheme.specs.Limits.{most_blocks, most_places, firsts, cells}
use Rattle.scheme.specs.Scheme.{Arithmetic, sixteen, in_set, ◌then◌, unless}
use Rattle.scheme.specs.Service.{not_gathering, not_replying, element_refusal, Record, silent, refused}
use Rattle.scheme.proofs.Refusals.{then_zero, unless_held, both_passed, test_passed, after_taken}
use Rattle.scheme.proofs.Pooling.Well.{Fits, fits}
use Rattle.service.specs.declared.Head.{Head}
use Rattle.service.specs.declared.Service.{Service}
use Rattle.service.specs.View.{phase_of, held_as, left_in, row_start, slot}
use Rattle.service.specs.Calls.{Stepped, lent, stepped, first_refusal, first_left, first_step, reply_refusal, reply_left, reply_step}
use Rattle.service.proofs.Refused.{within, Behind, behind_takes, behind_put}
use Rattle.plan.specs.Numbers.{number_of}
use Rattle.plan.specs.declared.refusal.Refusal.{Refusal}
use Rattle.lines.specs.Text.{line}
use Rattle.lines.specs.Put.{Put}
use Rattle.stream.specs.Stream.{record_length, length_at, two_bytes, record_at, Outcome, outcome, step, HeldIn, SilentAt, Turns, Takes, alone}
use Rattle.stream.proofs.Turns.{told_taken, turn_refused, turn_at}

pub silent_at : {b : List ℕ} {at size n : ℕ} {s t : Service} → length_at b at ≡ size → 1 ≤ size → at + size ≤ length b
    → step s (record_at b at) ≡ outcome n silent t → n ≡ 0 → SilentAt b at (at + size) s t
silent_at {at = at} d some fits said e =
    record {
      whole = record { inside = omega arith; whole = omega (arith, d) };
      known = λ z. omega (arith, d, z);
      long = ap (λ (n : ℕ). at + n) (sym d);
      state = sym (ap (λ (x : Outcome). x.service) said);
      quiet = ap (λ (x : Outcome). x.answer) said ∙ told_taken e silent;
    }

element_passes : {A : Arithmetic} {n l k i x : ℕ} → Fits A n l k i x → element_refusal A n l k i x ≡ 0
unfolding element_refusal unless ◌then◌
element_passes f = simp (le-leb _ _ f.low, le-leb _ _ f.high, lt-ltb _ _ f.place, lt-ltb _ _ f.small)

-- of a place that holds nothing or the same
pub free_or_same : (held new : ℕ) → held * held ≡ held * new → left_in held new ≡ new
unfolding left_in
free_or_same zero new e = refl
free_or_same (suc h) new e = eq_of_mul-eq-mul_left (suc h) (omega arith) (suc h) new e

-- the first two bytes of an element record, and where the elements of its user start
pub record Row (kind stride users tag row : ℕ) : Type 0 where
  pub own : tag % 256 ≡ kind
  pub low : 1 ≤ tag / 256
  pub high : tag / 256 ≤ users
  pub found : row ≡ row_start stride (tag / 256)

-- it is looked up, and all its places are inside the array
pub row_of : {kind stride users tag row k : ℕ} → (tag % 256 ≡ kind) × (tag / 256 ≡ k) × (1 ≤ k) × (k ≤ users) → row ≡ row_start stride k
    → Row kind stride users tag row
row_of {stride = w} s e =
    record { own = s.0; low = omega (arith, s.1, s.2); high = omega (arith, s.1, s.2); found = e ∙ ap (row_start w) (sym s.1) }

pub row_inside : {kind stride users tag row : ℕ} (limit : ℕ) {size : ℕ} → Row kind stride users tag row → row_start stride users + limit ≤ size → row + limit ≤ size
row_inside {stride = w} {users} {tag} limit r h =
    let d : tag / 256 - 1 ≤ users - 1 = omega (arith, r.high) in
    omega (arith, r.found, mul-le-mul_right w d)

-- the tag of the record at a place
pub record Tagged (b : List ℕ) (at tag : ℕ) : Type 0 where
  pub kind : tag % 256 ≡ get_or b at 0
  pub user : tag / 256 ≡ get_or b (at + 1) 0

pub tagged : {b : List ℕ} {at read : ℕ} (tag : ℕ) → (read % 256 ≡ get_or b at 0) × (read / 256 ≡ get_or b (at + 1) 0) → read ≡ tag → Tagged b at tag
tagged tag r e = record { kind = ap (λ (n : ℕ). n % 256) (sym e) ∙ r.0; user = ap (λ (n : ℕ). n / 256) (sym e) ∙ r.1 }

-- the record at a place carries the element x of user k for i, and the code has found its place and held it there
pub record Comes (b : List ℕ) (at kind size users limit stride : ℕ) (xs ys : List ℕ) (k i x place new : ℕ) : Type 0 where
  pub own : get_or b at 0 ≡ kind
  pub whole : at + size ≤ length b
  pub fits : Fits sixteen users limit k i x
  pub behind : Behind xs (slot stride k i) x place new new
  pub put : ys ≡ set xs place new

pub comes : {b xs ys : List ℕ} {at kind size users limit stride tag row i x place element : ℕ}
    → Row kind stride users tag row → Tagged b at tag → place ≡ i → element ≡ x → at + size ≤ length b → HeldIn xs ys row limit place element
    → Comes b at kind size users limit stride xs ys (get_or b (at + 1) 0) i x (row + place) (held_as element)
comes {stride = w} r bytes d e whole held =
    let user = bytes.user in
    record {
      own = sym bytes.kind ∙ r.own;
      whole = whole;
      fits =
          record {
            low = omega (arith, r.low, user);
            high = omega (arith, r.high, user);
            place = omega (arith, d, held.inside);
            small = omega (arith, e, held.small);
          };
      behind =
          record { found = ap₂ (λ (n m : ℕ). n + m) (r.found ∙ ap (row_start w) user) d; made = ap held_as e; stays = sym held.stays };
      put = held.put;
    }

-- ---- a first element, in its user's row
pub first_silent : {h : Head} → not_gathering (phase_of h.phase) ≡ 0 → row_start most_places h.plan.users + h.places ≤ firsts
    → {b xs ys : List ℕ} {at tag row place element : ℕ} → Row 3 most_places h.plan.users tag row → Tagged b at tag → at + 6 ≤ length b
    → place ≡ two_bytes b (at + 2) → element ≡ two_bytes b (at + 4) → HeldIn xs ys row h.places place element
    → (reply : List ℕ) → SilentAt b at (at + 6) (lent h xs reply) (lent h ys reply)
unfolding record_length record_at step first_step first_refusal first_left
first_silent {h} phase room {b} {xs} {ys} {at} {row = row} {place} row_is bytes whole d e held reply =
    let c = comes row_is bytes d e whole held in
    let inside : row + place < firsts = omega (arith, row_inside h.places row_is room, held.inside) in
    let k = get_or b (at + 1) 0 in
    let i = two_bytes b (at + 2) in
    let x = two_bytes b (at + 4) in
    let e : first_refusal sixteen h xs k i x ≡ 0 =
    sym (both_passed phase (element_passes c.fits) _)
    ∙ sym (test_passed (within c.behind.found inside) 8 _) ∙ unless_held (behind_takes c.behind refl) 13 in
    let left : first_left sixteen h xs k i x ≡ ys = after_taken e _ xs ∙ sym (behind_put c.behind refl) ∙ sym c.put in
    silent_at (ap record_length c.own) (omega arith) c.whole
    (rw c.own (ap (λ (l : List ℕ). outcome (first_refusal sixteen h xs k i x) silent (lent h l reply)) left)) e

-- ---- a reply element, in its user's row
pub reply_silent : {h : Head} → not_replying (phase_of h.phase) ≡ 0 → row_start most_blocks h.plan.users + h.plan.blocks ≤ cells
    → {b xs ys : List ℕ} {at tag row block element : ℕ} → Row 5 most_blocks h.plan.users tag row → in_set h.survivors (tag / 256) ≡ true
    → Tagged b at tag → at + 5 ≤ length b
    → block ≡ get_or b (at + 2) 0 → element ≡ two_bytes b (at + 3) → HeldIn xs ys row h.plan.blocks block element
    → (first : List ℕ) → SilentAt b at (at + 5) (lent h first xs) (lent h first ys)
unfolding record_length record_at step reply_step reply_refusal reply_left
reply_silent {h} phase room {b} {xs} {ys} {at} {row = row} {block} row_is member bytes whole d e held first =
    let c = comes row_is bytes d e whole held in
    let inside : row + block < cells = omega (arith, row_inside h.plan.blocks row_is room, held.inside) in
    let k = get_or b (at + 1) 0 in
    let i = get_or b (at + 2) 0 in
    let x = two_bytes b (at + 3) in
    let own : in_set h.survivors k ≡ true = ap (in_set h.survivors) (sym bytes.user) ∙ member in
    let e : reply_refusal sixteen h xs k i x ≡ 0 =
    sym (both_passed phase (element_passes c.fits) _)
    ∙ sym (test_passed (within c.behind.found inside) 8 _) ∙ sym (test_passed own 14 _)
    ∙ unless_held (behind_takes c.behind refl) 13 in
    let left : reply_left sixteen h xs k i x ≡ ys = after_taken e _ xs ∙ sym (behind_put c.behind refl) ∙ sym c.put in
    silent_at (ap record_length c.own) (omega arith) c.whole
    (rw c.own (ap (λ (l : List ℕ). outcome (reply_refusal sixteen h xs k i x) silent (lent h first l)) left)) e

-- ---- an element's call: an accepted one is taken in silence, a refused one alone
module _ {b : List ℕ} {at size : ℕ} {s t : Service} {r : Record} (same : record_at b at ≡ r) (long : length_at b at ≡ size) where
  pub taken_silently : 1 ≤ size → at + size ≤ length b → outcome 0 silent t ≡ step s r → SilentAt b at (at + size) s t
  taken_silently some fits said = silent_at long some fits (rw same (sym said)) refl

  pub refused_alone : {o : ℕ} {out out' : List ℕ} {wrote next : ℕ} (e : Refusal) → outcome (number_of e) silent t ≡ step s r
      → Put out out' wrote next (line o (refused (number_of e))) → Takes b o at (at + size) s t out out' wrote next
  refused_alone e said p = alone (ap (λ (n : ℕ). at + n) (sym long)) (turn_at same (turn_refused silent e said p))

-- a record with its lines, where branches of the code join
pub turn_alone : {b : List ℕ} {at n o : ℕ} {r : Record} {s t u : Service} {out out' out'' : List ℕ} {wrote next end : ℕ}
    → record_at b at ≡ r → n ≡ length_at b at → u ≡ t → out'' ≡ out' → end ≡ next → Turns r o s t out out' wrote next
    → Takes b o at (at + n) s u out out'' wrote end
turn_alone {at = at} same long state left far p = rw (state, left, far) (alone (ap (λ (n : ℕ). at + n) long) (turn_at same p))

-- ---- what an accepted element tells of the head
users_some : (A : Arithmetic) (n l k i x : ℕ) → element_refusal A n l k i x ≡ 0 → 1 ≤ n
users_some A n l k i x e = let f = fits A n l k i x e in omega (arith, f.low, f.high)

abbrev taken : Result (Unit {0}) Refusal
taken = Ok tt

pub first_accepted : (s : Service) {t : Service} (k i x : ℕ) → stepped taken t ≡ first_step sixteen s k i x
    → (not_gathering (phase_of t.head.phase) ≡ 0) × (1 ≤ t.head.plan.users)
unfolding first_step first_refusal
first_accepted s {t} k i x e =
    let p = then_zero _ _ (sym (ap (λ (r : Stepped). r.number) e)) in
    let h : t.head ≡ s.head = ap (λ (r : Stepped). r.service.head) e in
    rw h (p.0, users_some sixteen _ _ _ _ _ (then_zero _ _ p.1).0)

pub reply_accepted : (s : Service) {t : Service} (k i x : ℕ) → stepped taken t ≡ reply_step sixteen s k i x
    → (not_replying (phase_of t.head.phase) ≡ 0) × (1 ≤ t.head.plan.users)
unfolding reply_step reply_refusal
reply_accepted s {t} k i x e =
    let p = then_zero _ _ (sym (ap (λ (r : Stepped). r.number) e)) in
    let h : t.head ≡ s.head = ap (λ (r : Stepped). r.service.head) e in
    rw h (p.0, users_some sixteen _ _ _ _ _ (then_zero _ _ p.1).0)
