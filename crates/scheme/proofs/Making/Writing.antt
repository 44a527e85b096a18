-- A key written part by part.
--   key_accepted                                         what a call of a key maker that is not refused has been told
--   products_start, products_more                        the products, one user a turn
--   products_scaled                                      the same of all users at once, where each block has one mask and all blocks are there
--   written_start, written_join                          the shares for no set; for some sets and those that follow them
--   written_in, written_pass, written_out                for one set: it is usable and holds the user; does not hold the user; is not usable
--   written_none, written_end                            for sets that are not usable; for all
--   key_whole                                            the masks and behind them the shares fill the buffer
-- Assumes nothing.
use mathlib.Core.Path.{◌≡◌, refl, sym, ap, ap₂, ◌∙◌, subst}
use mathlib.Core.Bool.{Bool, true, false, cond}
use mathlib.Core.List.{List, [], ◌++◌, map, append-nil}
use Prim.Native.Nat.{ℕ, zero, suc, ◌+◌, ◌*◌, ◌^◌, ◌≤◌, ◌<◌}
use native.Mathlib.Nat.{zero-add, add-zero, add-mul}
use native.Mathlib.Numerals.{add-one}
use native.Mathlib.Omega.{arith}
use lib.ListN.{length, length-append, get_or, replicate, length-replicate}
use lib.Seq.{sets, length-sets}
use borrow.Author.Tests.{eqb-true}
use Rattle.algebra.proofs.Field.{zero-add as field-zero-add}
use Rattle.scheme.specs.Limits.{most_users, most_blocks, cells}
use Rattle.scheme.specs.Lists.{span, keep, members, rank, rows}
use Rattle.scheme.specs.Scheme.{Arithmetic, sum, Plan, items, places, in_set, usable, usable_with, sets_with, mask, noise_start, shares, key, key_length, key_refusal, reply_start}
use Rattle.scheme.specs.Laws.{Laws}
use Rattle.scheme.specs.Weighed.{weighed_by, weighed}
use Rattle.scheme.specs.KeyParts.{KeyInput, columns_value, Coefficients, block_item, block_value, block_values, Products, Written}
use Rattle.scheme.proofs.Tests.{and_both, none_below}
use Rattle.scheme.proofs.Lists.{map_span_length, members_append, rows_append, rows_length, sets_append, sets_whole, zeros_at}
use Rattle.scheme.proofs.Refusals.{then_zero, unless_zero, start_taken}
use Rattle.scheme.proofs.Sums.{el_same, zero_small}
use Rattle.scheme.proofs.Keys.{shares_length, key_is_long}
use Rattle.scheme.proofs.Weighed.{weighed_as, weighed_small}
use Rattle.scheme.proofs.Making.Rows.{below_more, row_other, row_at, row_all}
use Rattle.scheme.proofs.Making.Places.{noise_next, reply_first, reply_next}

pub key_accepted : (A : Arithmetic) (p : Plan) (k : ℕ) (xs : List ℕ) (out : ℕ) → key_refusal A p k xs out ≡ 0 → KeyInput p k xs × (out ≡ key_length p k)
unfolding key_refusal
key_accepted A p k xs out e =
    let s = then_zero _ _ e in
    let g = start_taken p k s.0 in
    let l = and_both _ _ (unless_zero _ _ (then_zero _ _ s.1).0) in
    (record { good = g.0; user_low = g.1; user_high = g.2; long = eqb-true _ _ l.0 }, eqb-true _ _ l.1)

-- ---- products
pub products_start : {A : Arithmetic} {n m : ℕ} → Laws A n m → (p : Plan) (u : ℕ) (xs : List ℕ) → Products A p u xs 0 (replicate cells 0)
products_start {A} {n} {m} L p u xs = record {
  long = length-replicate {A = ℕ} cells 0;
  small = λ i. rw (zeros_at cells i) (zero_small A n m L);
  each = λ i h. absurd (none_below i h);
}

module _ {A : Arithmetic} {n m : ℕ} (L : Laws A n m) where
  open L use {K, el}
  open K use {add as ◌⊕◌}

  infixl 65 ◌⊕◌
  zero_more : (x : ℕ) → x < A.size → A.add 0 x ≡ x
  zero_more x h = el_same A n m L (L.add_small 0 x) h (L.el_add 0 x ∙ ap (λ z. z ⊕ el x) L.el_zero ∙ field-zero-add K (el x))

  zero_either : (x : ℕ) → A.add 0 x ≡ A.add x 0
  zero_either x = el_same A n m L (L.add_small 0 x) (L.add_small x 0) (L.el_add 0 x ∙ K.add_comm (el 0) (el x) ∙ sym (L.el_add x 0))

  -- the value of a block on a row of zeros
  alone : {u w : ℕ} {cs : List ℕ} → Coefficients A u 1 w cs → (xs : List ℕ) (from b : ℕ)
      → block_value A (replicate most_blocks 0) cs w xs from b ≡ columns_value A u 1 w (block_item xs from w b)
  unfolding block_value
  alone {w = w} {cs} c xs from b =
      let f : ℕ → ℕ = block_item xs from w b in
      ap (λ (x : ℕ). A.add x (weighed A cs w f)) (zeros_at most_blocks b) ∙ zero_more _ (weighed_small L _ w f)
      ∙ weighed_as A w {f = f} {g = f} c.each (λ i l. refl)

  pub products_more : {p : Plan} {u : ℕ} {xs : List ℕ} {k : ℕ} {old cs : List ℕ} → Products A p u xs k old → Coefficients A u 1 (items p) cs →
      p.blocks ≤ most_blocks → k < most_users → (from at : ℕ) → from ≡ k * places p → at ≡ k * most_blocks →
      Products A p u xs (k + 1) (sets old at (block_values A (replicate most_blocks 0) cs (items p) xs from p.blocks))
  unfolding block_values block_value
  products_more {p} {u} {xs} {k} {old} {cs} z c few h from at e d =
      let f : ℕ → ℕ = block_value A (replicate most_blocks 0) cs (items p) xs from in
      let new : List ℕ = sets old at (map f (span p.blocks 0)) in
      let value : ℕ → ℕ → ℕ = λ i b. columns_value A u 1 (items p) (block_item xs (i * places p) (items p) b) in
      record {
        long = length-sets old at (map f (span p.blocks 0)) ∙ z.long;
        small = row_all old at f p.blocks refl (λ x. x < A.size) (omega arith) (λ b. L.add_small _ _) z.small;
        each = below_more (λ i. (b : ℕ) → b < p.blocks → get_or new (i * most_blocks + b) 0 ≡ value i b)
            (λ i l b s. row_other old at f p.blocks refl (i * most_blocks + b) (λ a m same. omega arith) ∙ z.each i l b s) (λ b s.
            row_at old at f p.blocks refl b _ (ap (λ (a : ℕ). a + b) (sym d)) s (omega arith) ∙ alone c xs from b
            ∙ ap (λ (a : ℕ). columns_value A u 1 (items p) (block_item xs a (items p) b)) e);
      }

  pub products_scaled : {p : Plan} {u : ℕ} {xs : List ℕ} {cs : List ℕ} → Coefficients A u 1 (items p) cs → items p ≡ 1 → p.blocks ≡ most_blocks →
      p.users ≤ most_users → (new : List ℕ) → new ≡ sets (replicate cells 0) 0
      (map (λ i. A.add 0 (A.multiply (get_or cs 0 0) (get_or xs i 0))) (span (p.users * most_blocks) 0)) → Products A p u xs p.users new
  unfolding places weighed_by sum
  products_scaled {p} {u} {xs} {cs} c one all few new e =
      let f : ℕ → ℕ = λ i. A.add 0 (A.multiply (get_or cs 0 0) (get_or xs i 0)) in
      let n : ℕ = p.users * most_blocks in
      let old : List ℕ = replicate cells 0 in
      let long : length old ≡ cells = length-replicate {A = ℕ} cells 0 in
      let place : places p ≡ most_blocks = ap₂ ◌*◌ all one in
      record {
        long = ap length e ∙ length-sets old 0 (map f (span n 0)) ∙ long;
        small = row_all old 0 f n e (λ x. x < A.size) (omega arith) (λ b. L.add_small _ _) (λ i. rw (zeros_at cells i) (zero_small A _ _ L));
        each = λ i l b h.
            let at : i * most_blocks + b ≡ i * places p + (b * 1 + 0) = omega (arith, ap (λ (x : ℕ). i * x) place) in
            row_at old 0 f n e (i * most_blocks + b) _ (sym (zero-add _)) (omega arith) (omega arith) ∙ zero_either _
            ∙ ap₂ (λ (a j : ℕ). A.add (A.multiply a (get_or xs j 0)) 0) (c.each 0 (omega arith)) at
            ∙ ap (λ (w : ℕ). columns_value A u 1 w (block_item xs (i * places p) w b)) (sym one);
      }

-- ---- shares
module _ (A : Arithmetic) (p : Plan) (k : ℕ) (xs : List ℕ) where
  abbrev shares_of : ℕ → List ℕ
  shares_of = shares A p xs k

  abbrev with_user : ℕ → Bool
  with_user = usable_with p k

  pub written_start : {first noise at : ℕ} (old : List ℕ) → noise ≡ noise_start p first 0 → at ≡ reply_start p k first
      → Written A p k xs first old old noise at 0
  written_start {first} old e d = record {
    noise_is = e ∙ ap (λ (v : ℕ). noise_start p v 0) (sym (add-zero first));
    at_is = d ∙ ap (reply_start p k) (sym (add-zero first));
    written = refl;
  }

  -- the shares for n sets end where those for the next set start
  reached : (first n : ℕ) → reply_start p k (first + n) ≡ reply_start p k first + length (rows shares_of (members with_user n first))
  unfolding reply_start rank
  reached first n =
      let l : List ℕ = members with_user n first in
      let m : length (members with_user (first + n) 0) ≡ length (members with_user first 0) + length l =
      ap length (members_append with_user first n 0 ∙ ap (λ (i : ℕ). members with_user first 0 ++ members with_user n i) (zero-add first))
      ∙ length-append (members with_user first 0) l in
      omega (
        arith,
        ap (λ (x : ℕ). x * p.blocks) m,
        add-mul (length (members with_user first 0)) (length l) p.blocks,
        rows_length shares_of p.blocks (shares_length A p xs k) l,
      )

  pub written_join : {first behind : ℕ} {old new next : List ℕ} {noise at n noise' at' m : ℕ} → Written A p k xs first old new noise at n
      → behind ≡ first + n → Written A p k xs behind new next noise' at' m → Written A p k xs first old next noise' at' (n + m)
  written_join {first} {behind} {old} {new} {n = n} {m = m} g e h =
      let sum : behind + m ≡ first + (n + m) = omega arith in
      record {
        noise_is = h.noise_is ∙ ap (λ (v : ℕ). noise_start p v 0) sum;
        at_is = h.at_is ∙ ap (reply_start p k) sum;
        written = h.written
            ∙ ap (λ (v : ℕ). sets new (reply_start p k v) (rows shares_of (members with_user m v))) e
            ∙ ap₂ (λ (o : List ℕ) (a : ℕ). sets o a (rows shares_of (members with_user m (first + n)))) g.written (reached first n)
            ∙ sets_append old (reply_start p k first) (rows shares_of (members with_user n first)) (rows shares_of (members with_user m (first + n)))
            ∙ ap (sets old (reply_start p k first))
            (sym (ap (rows shares_of) (members_append with_user n m first)
            ∙ rows_append shares_of (members with_user n first) (members with_user m (first + n))));
      }

  -- one set
  module _ {noise at v : ℕ} (e : noise ≡ noise_start p v 0) (d : at ≡ reply_start p k v) (new : List ℕ) where
    moved : (next : List ℕ) → next ≡ sets new (reply_start p k v) (rows shares_of (keep (with_user v) v [])) →
        Written A p k xs v new next (noise + cond (usable p v) (p.blocks * p.collusion) 0) (at + cond (with_user v) p.blocks 0) 1
    moved next w = record {
      noise_is = ap (λ (n : ℕ). n + cond (usable p v) (p.blocks * p.collusion) 0) e ∙ sym (noise_next p v);
      at_is = ap (λ (n : ℕ). n + cond (with_user v) p.blocks 0) d ∙ sym (reply_next p v k);
      written = w;
    }

    pub written_in : usable p v ≡ true → in_set v k ≡ true →
        Written A p k xs v new (sets new at (shares A p xs k v)) (noise + p.blocks * p.collusion) (at + p.blocks) 1
    unfolding usable_with
    written_in u i =
        rw (u, i) at
        (moved (sets new at (shares_of v))
        (rw (u, i) (ap₂ (λ (a : ℕ) (l : List ℕ). sets new a l) d (sym (append-nil (shares_of v))))))

    pub written_pass : usable p v ≡ true → in_set v k ≡ false → Written A p k xs v new new (noise + p.blocks * p.collusion) at 1
    unfolding usable_with
    written_pass u i = rw (u, i, add-zero at) at (moved new (rw (u, i) refl))

    pub written_out : usable p v ≡ false → Written A p k xs v new new noise at 1
    unfolding usable_with
    written_out u = rw (u, add-zero noise, add-zero at) at (moved new (rw u refl))

  -- n sets that are not usable
  pub written_none : {noise at first : ℕ} → noise ≡ noise_start p first 0 → at ≡ reply_start p k first → (old : List ℕ) (n : ℕ)
      → ((x : ℕ) → x < n → usable p (first + x) ≡ false) → Written A p k xs first old old noise at n
  written_none e d old zero h = written_start old e d
  written_none {first = first} e d old (suc n) h =
      let g = written_none e d old n (λ x l. h x (omega arith)) in
      subst (Written A p k xs first old old _ _) (add-one n) (written_join g refl (written_out g.noise_is g.at_is old (h n (omega arith))))

pub written_end : {A : Arithmetic} {p : Plan} {k : ℕ} {xs old new : List ℕ} {noise at v : ℕ} → Written A p k xs 0 old new noise at v
    → (row : ℕ) → row ≡ places p → v ≡ 2 ^ p.users → new ≡ sets old row (rows (shares A p xs k) (sets_with p k))
unfolding sets_with
written_end {A} {p} {k} {xs} {old} g row e d =
    g.written
    ∙ ap₂ (λ (a n : ℕ). sets old a (rows (shares A p xs k) (members (usable_with p k) n 0))) (reply_first p k ∙ sym e) d

-- ---- the whole key
pub key_whole : (A : Arithmetic) (p : Plan) (k : ℕ) (xs old middle new : List ℕ) (row : ℕ) → row ≡ places p → length old ≡ key_length p k →
    middle ≡ sets old 0 (map (mask p xs k) (span row 0)) → new ≡ sets middle row (rows (shares A p xs k) (sets_with p k)) → new ≡ key A p xs k
unfolding key
key_whole A p k xs old middle new row e l copied shared =
    let masks = map (mask p xs k) (span (places p) 0) in
    let rest = rows (shares A p xs k) (sets_with p k) in
    shared ∙ ap (λ (m : List ℕ). sets m row rest) copied
    ∙ rw e
    (ap (λ (n : ℕ). sets (sets old 0 masks) n rest) (sym (zero-add (length masks) ∙ map_span_length (mask p xs k) (places p) 0))
    ∙ sets_append old 0 masks rest ∙ sets_whole old (key A p xs k) (key_is_long A p xs k ∙ sym l))
