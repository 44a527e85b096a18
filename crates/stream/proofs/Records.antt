-- The records of an input, and its lines record by record.
--   items_append                  of an input cut in two after whole records
--   items_next                    one record further in a chunk
--   taken_append, state_append, text_append     of two lists of records, the first all whole
--   lines_broken                  an unknown kind or a cut record
-- Assumes nothing.
use Rattle.std.proofs.Common.{◌≡◌, refl, sym, ap, ap₂, ◌∙◌, ◌≢◌, true, List, [], ◌∷◌, ◌++◌, append-nil, append_assoc, ℕ, zero, suc, ◌+◌, ◌*◌, ◌≤◌, ◌<◌, add-zero, zero-add, arith, length, get_or, take, drop, length-append, length-drop, get_or-take, get_or-drop, take-add, length-take-le, eq-eqb, ne_eqb, lt-ltb, le-ltb}
use native.Mathlib.Decide.{dec_le, ℕ_discrete}
use lib.ListN.{get_or-append}
use lib.Seq.{drop-append-le, drop-length}
use Rattle.scheme.specs.Service.{refused}
use Rattle.scheme.proofs.Tests.{holds}
use Rattle.service.specs.declared.Service.{Service}
use Rattle.lines.specs.Text.{line}
use Rattle.stream.specs.Stream.{record_length, length_at, two_bytes, four_bytes, record_at, Item, taken, broken, items_from, items, step, answers, text, lines}
use Rattle.stream.specs.Promise.{all_taken, last_state}

-- ---- a record by its bytes
module _ (a b : List ℕ) (i j : ℕ) (same : (k : ℕ) → k < length_at a i → get_or a (i + k) 0 ≡ get_or b (j + k) 0) where
  byte : (k : ℕ) {p q : ℕ} → i + k ≡ p → j + k ≡ q → k < length_at a i → get_or a p 0 ≡ get_or b q 0
  byte k e f h = ap (λ (n : ℕ). get_or a n 0) (sym e) ∙ same k h ∙ ap (λ (n : ℕ). get_or b n 0) f

  two : (k : ℕ) {p q : ℕ} → i + k ≡ p → j + k ≡ q → k + 1 < length_at a i → two_bytes a p ≡ two_bytes b q
  two k {p} {q} e f h =
      ap₂ (λ (x y : ℕ). x + y * 256) (byte k e f (omega arith)) (byte (k + 1) {p = p + 1} {q = q + 1} (omega arith) (omega arith) h)

  four : (k : ℕ) {p q : ℕ} → i + k ≡ p → j + k ≡ q → k + 3 < length_at a i → four_bytes a p ≡ four_bytes b q
  four k {p} {q} e f h =
      ap₂ (λ (x y : ℕ). x + y * 65536) (two k e f (omega arith)) (two (k + 2) {p = p + 2} {q = q + 2} (omega arith) (omega arith) (omega arith))

  record_same : length_at a i ≢ 0 → record_at a i ≡ record_at b j
  unfolding record_at record_length
  record_same ne =
      by (sym (byte 0 (add-zero i) (add-zero j) (omega arith)))
      (ℕ_discrete (get_or a i 0) 1) (ℕ_discrete (get_or a i 0) 2) (ℕ_discrete (get_or a i 0) 3) (ℕ_discrete (get_or a i 0) 5)
    where
      by : get_or b j 0 ≡ get_or a i 0 → Dec (get_or a i 0 ≡ 1) → Dec (get_or a i 0 ≡ 2) → Dec (get_or a i 0 ≡ 3) → Dec (get_or a i 0 ≡ 5)
          → record_at a i ≡ record_at b j
      by e (yes d) p q r =
          let n : length_at a i ≡ 5 = ap record_length d in
          rw (e, d, byte 1 refl refl (omega arith), byte 2 refl refl (omega arith), byte 3 refl refl (omega arith), byte 4 refl refl (omega arith))
      by e (no o) (yes d) q r =
          let n : length_at a i ≡ 5 = ap record_length d in
          rw (e, d, four 1 refl refl (omega arith))
      by e (no o) (no p) (yes d) r =
          let n : length_at a i ≡ 6 = ap record_length d in
          rw (e, d, byte 1 refl refl (omega arith), two 2 refl refl (omega arith), two 4 refl refl (omega arith))
      by e (no o) (no p) (no q) (yes d) =
          let n : length_at a i ≡ 5 = ap record_length d in
          rw (e, d, byte 1 refl refl (omega arith), byte 2 refl refl (omega arith), two 3 refl refl (omega arith))
      by e (no o) (no p) (no q) (no r) =
          rw (e, ne_eqb (get_or a i 0) 1 o, ne_eqb (get_or a i 0) 2 p, ne_eqb (get_or a i 0) 3 q, ne_eqb (get_or a i 0) 5 r)

-- ---- an input cut in two
-- what follows a record of the kind k
abbrev after : (k : ℕ) → List ℕ → List ℕ
after k b = drop (record_length k) (k ∷ b)

after_short : (k : ℕ) (b : List ℕ) → 1 ≤ record_length k → length (after k b) ≤ length b
after_short k b h = omega (arith, length-drop (record_length k) (k ∷ b))

-- more fuel than bytes changes nothing
fuel : (n m o : ℕ) (b : List ℕ) → length b ≤ n → length b ≤ m → items_from n o b ≡ items_from m o b
unfolding items_from
fuel zero zero o b h l = refl
fuel zero (suc m) o [] h l = refl
fuel zero (suc m) o (k ∷ b) h l = absurd (omega arith)
fuel (suc n) zero o [] h l = refl
fuel (suc n) zero o (k ∷ b) h l = absurd (omega arith)
fuel (suc n) (suc m) o [] h l = refl
fuel (suc n) (suc m) o (k ∷ b) h l =
    go (ℕ_discrete (record_length k) 0)
    (λ p. fuel n m (o + record_length k) (after k b) (omega (arith, after_short k b p)) (omega (arith, after_short k b p)))
  where
    go : Dec (record_length k ≡ 0)
        → (1 ≤ record_length k → items_from n (o + record_length k) (after k b) ≡ items_from m (o + record_length k) (after k b))
        → items_from (suc n) o (k ∷ b) ≡ items_from (suc m) o (k ∷ b)
    go (yes e) ih = rw (eq-eqb (record_length k) 0 e)
    go (no e) ih = rw (ih (omega arith))

module _ (c : List ℕ) where
  abbrev Joins : (n m o : ℕ) → (a : List ℕ) → Type 0
  Joins n m o a = all_taken (items_from n o a) ≡ true → items_from m o (a ++ c) ≡ items_from n o a ++ items (o + length a) c

  joins : (n m o : ℕ) (a : List ℕ) → length a ≤ n → length (a ++ c) ≤ m → Joins n m o a
  unfolding items_from items all_taken
  joins zero m o [] h l = λ e. rw (add-zero o) (fuel m (length c) o c l (omega arith))
  joins zero m o (k ∷ b) h l = absurd (omega arith)
  joins (suc n) m o [] h l = λ e. rw (add-zero o) (fuel m (length c) o c l (omega arith))
  joins (suc n) zero o (k ∷ b) h l = absurd (omega arith)
  joins (suc n) (suc m) o (k ∷ b) h l =
      one (ℕ_discrete (record_length k) 0) (dec_le (record_length k) (length (k ∷ b)))
      (λ p. joins n m (o + record_length k) (after k b) (omega (arith, after_short k b p))
      (omega (arith, after_short k b p, length-append b c, length-append (after k b) c)))
    where
      one : Dec (record_length k ≡ 0) → Dec (record_length k ≤ length (k ∷ b))
          → (1 ≤ record_length k → Joins n m (o + record_length k) (after k b)) → Joins (suc n) (suc m) o (k ∷ b)
      one (yes z) d ih = rw (eq-eqb (record_length k) 0 z) (λ e. absurd (holds e))
      one (no ne) (no h) ih =
          rw (ne_eqb (record_length k) 0 ne, lt-ltb (length (k ∷ b)) (record_length k) (omega arith)) (λ e. absurd (holds e))
      one (no ne) (yes h) ih =
          let far : o + record_length k + length (after k b) ≡ o + length (k ∷ b) = omega (arith, length-drop (record_length k) (k ∷ b)) in
          let long : record_length k ≤ length (k ∷ (b ++ c)) = omega (arith, length-append b c) in
          let same = record_same (k ∷ b) (k ∷ (b ++ c)) 0 0 (λ i l. sym (get_or-append (k ∷ b) c 0 (0 + i) (omega arith))) ne in
          rw (ne_eqb (record_length k) 0 ne, le-ltb (length (k ∷ b)) (record_length k) h, le-ltb (length (k ∷ (b ++ c))) (record_length k) long)
          (λ e. rw (← same, drop-append-le (record_length k) (k ∷ b) c h, ih (omega arith) e, far))

pub items_append : (o : ℕ) (a c : List ℕ) → all_taken (items o a) ≡ true → items o (a ++ c) ≡ items o a ++ items (o + length a) c
unfolding items
items_append o a c e = joins c (length a) (length (a ++ c)) o a (omega arith) (omega arith) e

-- ---- one record
items_one : (o : ℕ) (c : List ℕ) → length_at c 0 ≢ 0 → length_at c 0 ≡ length c → items o c ≡ taken o (record_at c 0) ∷ []
unfolding items items_from
items_one o [] h l = absurd (h l)
items_one o (k ∷ b) h l =
    rw (ne_eqb (record_length k) 0 h, le-ltb (length (k ∷ b)) (record_length k) (omega arith), l, drop-length)
    (ap (λ (x : List Item). taken o (record_at (k ∷ b) 0) ∷ x) (fuel (length b) 0 _ [] (omega arith) (omega arith)))

module _ (o : ℕ) (b : List ℕ) (at : ℕ) (ne : length_at b at ≢ 0) (l : at + length_at b at ≤ length b) where
  abbrev bytes : List ℕ
  bytes = take (length_at b at) (drop at b)

  here : (k : ℕ) → k < length_at b at → get_or b (at + k) 0 ≡ get_or bytes (0 + k) 0
  here k h = sym (ap (λ (i : ℕ). get_or bytes i 0) (zero-add k) ∙ get_or-take (length_at b at) (drop at b) k 0 h ∙ get_or-drop at b k 0)

  items_here : items (o + at) bytes ≡ taken (o + at) (record_at b at) ∷ []
  items_here =
      let long : length bytes ≡ length_at b at = length-take-le (length_at b at) (drop at b) (omega (arith, length-drop at b)) in
      let same : length_at b at ≡ length_at bytes 0 = ap record_length (ap (λ (i : ℕ). get_or b i 0) (sym (add-zero at)) ∙ here 0 (omega arith)) in
      rw (record_same b bytes at 0 here ne) (items_one (o + at) bytes (λ z. ne (same ∙ z)) (sym same ∙ sym long))

  pub items_next : all_taken (items o (take at b)) ≡ true
      → items o (take (at + length_at b at) b) ≡ items o (take at b) ++ (taken (o + at) (record_at b at) ∷ [])
  items_next e = rw (take-add at (length_at b at) b, items_append o (take at b) bytes e, length-take-le at b (omega arith), items_here)

-- ---- two lists of records
pub taken_append : (l m : List Item) → all_taken l ≡ true → all_taken (l ++ m) ≡ all_taken m
unfolding all_taken
taken_append [] m e = refl
taken_append (taken o r ∷ l) m e = taken_append l m e
taken_append (broken o ∷ l) m e = absurd (holds e)

pub state_append : (s : Service) (l m : List Item) → all_taken l ≡ true → last_state s (l ++ m) ≡ last_state (last_state s l) m
unfolding all_taken last_state
state_append s [] m e = refl
state_append s (taken o r ∷ l) m e = state_append (step s r).service l m e
state_append s (broken o ∷ l) m e = absurd (holds e)

pub text_append : (s : Service) (l m : List Item) → all_taken l ≡ true
    → text (answers s (l ++ m)) ≡ text (answers s l) ++ text (answers (last_state s l) m)
unfolding all_taken last_state answers text
text_append s [] m e = refl
text_append s (taken o r ∷ l) m e = rw (text_append (step s r).service l m e, append_assoc)
text_append s (broken o ∷ l) m e = absurd (holds e)

-- ---- an unknown kind, or a record that is not whole
pub lines_broken : (s : Service) (o : ℕ) (b : List ℕ) → 0 < length b → (length_at b 0 ≢ 0 → length b < length_at b 0)
    → lines s o b ≡ line o (refused 7)
unfolding lines items items_from answers text
lines_broken s o [] h l = absurd (omega arith)
lines_broken s o (k ∷ b) h l = pick (ℕ_discrete (record_length k) 0)
  where
    pick : Dec (record_length k ≡ 0) → lines s o (k ∷ b) ≡ line o (refused 7)
    pick (yes e) = rw (eq-eqb (record_length k) 0 e) (append-nil (line o (refused 7)))
    pick (no e) = rw (ne_eqb (record_length k) 0 e, lt-ltb (length (k ∷ b)) (record_length k) (l e)) (append-nil (line o (refused 7)))
