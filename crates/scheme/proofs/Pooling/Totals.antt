-- Demand 2 of one round: U replies settle the sums and the noise, and with them the total.
--   all_of_more, all_of_stop, all_of_end     of the numbers from i on: i passes, i does not, none is left
--   at_apart                           two places of a list without repeats
--   Enough, enough                     rows whose first U are different users
--   Explained, explained, explained_back     what `explains` says, for the first rows of a list
--   columns_known, one_explained       U rows settle U columns
--   one_choice, some_choice            at least U replies leave at most one choice; U leave one
--   settled                            what explains the first U replies is what explains all, if anything does
--   rules_explain                      replies that follow the rules are explained
--   residues_right, totals_right       and what explains them gives the survivors' total, in the arithmetic and as a whole number
-- Assumes nothing.
use mathlib.Core.Path.{◌≡◌, refl, sym, ap, ap₂, ◌∙◌}
use mathlib.Core.Logic.{◌≢◌}
use mathlib.Core.Bool.{Bool, true, false, ◌&&◌, cond}
use mathlib.Core.List.{List, [], ◌∷◌, map}
use Prim.Native.Nat.{ℕ, zero, suc, ◌+◌, ◌*◌, ◌-◌, ◌/◌, ◌%◌, ◌≤◌, ◌<◌}
use native.Mathlib.Nat.{mul-zero, div-add-mod', mod-lt, div-lt_iff_lt-mul, lt_of_mul-lt-mul_left}
use native.Mathlib.Omega.{arith}
use lib.Dec.{leb, eqb}
use lib.ListN.{length, get_or}
use lib.Seq.{ext_get_or}
use borrow.Author.Tests.{le-leb, eq-eqb, eqb-true}
use Rattle.algebra.specs.Field.{sub}
use Rattle.algebra.specs.Sums.{In, Distinct}
use Rattle.algebra.specs.Cauchy.{System, coefficient, value, solution}
use Rattle.algebra.proofs.Field.{sub_is}
use Rattle.algebra.proofs.Sums.{sum_same as field-sum-same, sum_add}
use Rattle.algebra.proofs.Cauchy.{solves, unique}
use Rattle.scheme.specs.Lists.{span, all_of}
use Rattle.scheme.specs.Scheme.{Arithmetic, elements, sum, Plan, items, places, in_set, ones, usable, users_in, mask, noise, column, row_value, share, shares, key, first_message, total_at}
use Rattle.scheme.specs.Promise.{Table, list_good}
use Rattle.scheme.specs.Totals.{explains, explains_all, total_of, totals, Follows, OneChoice, ResiduesRight, TotalsRight, SomeChoice, RulesExplain}
use Rattle.scheme.specs.Laws.{Laws, AddsWhole}
use Rattle.scheme.proofs.Tests.{and_both, and_joined}
use Rattle.scheme.proofs.Lists.{span_in, in_span, span_once, span_length, span_more, span_end, map_below_same, map_span_length, map_span_at, map_below_at, members_once, all_of_in, at_all_of, in_at}
use Rattle.scheme.proofs.Sums.{el_same, zero_small, sum_same, sum_el, sum_small, row_value_el, row_value_small}
use Rattle.scheme.proofs.Sets.{users_in_in, user_in, users_in_size}
use Rattle.scheme.proofs.Laws.{system_of}
use Rattle.scheme.proofs.Whole.{total_fits, totals_whole}
use Rattle.scheme.proofs.Keys.{each_at, key_mask, key_reply, elements_at, elements_map, list_elements}

module _ (t : ℕ → Bool) (n i : ℕ) where
  pub all_of_more : i < n → t i ≡ true → all_of t (span (n - (i + 1)) (i + 1)) ≡ all_of t (span (n - i) i)
  unfolding all_of
  all_of_more h e = rw (span_more n i h, e)

  pub all_of_stop : i < n → t i ≡ false → all_of t (span (n - i) i) ≡ false
  unfolding all_of
  all_of_stop h e = rw (span_more n i h, e)

  pub all_of_end : n ≤ i → all_of t (span (n - i) i) ≡ true
  unfolding all_of
  all_of_end h = rw (span_end n i h)

pub at_apart : (l : List ℕ) → Distinct l → (a b : ℕ) → a < length l → b < length l → a ≢ b → get_or l a 0 ≢ get_or l b 0
at_apart [] d a b i j ne = absurd (omega arith)
at_apart (k ∷ l) d zero zero i j ne = absurd (ne refl)
at_apart (k ∷ l) d zero (suc b) i j ne = λ e. d.0 (rw e (in_at l b (omega arith)))
at_apart (k ∷ l) d (suc a) zero i j ne = λ e. d.0 (rw (← e) (in_at l a (omega arith)))
at_apart (k ∷ l) d (suc a) (suc b) i j ne = at_apart l d.1 a b (omega arith) (omega arith) (λ e. ne (ap suc e))

-- ---- rows whose first U are different users
pub record Enough (p : Plan) (rs : List ℕ) : Type 0 where
  pub inside : (a : ℕ) → a < p.threshold → (1 ≤ get_or rs a 0) × (get_or rs a 0 ≤ p.users)
  pub apart : (a b : ℕ) → a < p.threshold → b < p.threshold → a ≢ b → get_or rs a 0 ≢ get_or rs b 0

enough_in : (p : Plan) (r : ℕ) → p.threshold ≤ ones p.users r → p.threshold ≤ length (users_in p r)
enough_in p r h = omega (arith, users_in_size p r)

pub enough : (p : Plan) (r : ℕ) → p.threshold ≤ ones p.users r → Enough p (users_in p r)
unfolding users_in
enough p r h =
    let many = enough_in p r h in
    record {
      inside = λ a l. user_in p r _ (in_at (users_in p r) a (omega arith));
      apart = λ a b k l. at_apart (users_in p r) (members_once (in_set r) p.users 1) a b (omega arith) (omega arith);
    }

-- ---- unknowns that explain the values of the first n rows of a list
abbrev pub unknown : List ℕ → (j : ℕ) → ℕ
unknown w j = get_or w (j - 1) 0

pub record Explained (A : Arithmetic) (p : Plan) (rs : List ℕ) (n : ℕ) (y : (k : ℕ) → ℕ) (w : List ℕ) : Type 0 where
  pub long : length w ≡ p.threshold
  pub small : elements A w ≡ true
  pub fits : (a : ℕ) → a < n → row_value A p.threshold (get_or rs a 0) (unknown w) ≡ y (get_or rs a 0)

module _ (A : Arithmetic) (p : Plan) where
  pub explained : (r : ℕ) (y : (k block : ℕ) → ℕ) (f : (block : ℕ) → List ℕ) → explains_all A p r y f ≡ true
      → (b : ℕ) → b < p.blocks → Explained A p (users_in p r) (length (users_in p r)) (λ k. y k b) (f b)
  unfolding explains_all explains
  explained r y f h b l =
      let s = and_both (eqb (length (f b)) p.threshold && elements A (f b)) _
      (all_of_in _ (span p.blocks 0) h b (in_span p.blocks 0 b (omega arith) (omega arith))) in
      let t = and_both (eqb (length (f b)) p.threshold) (elements A (f b)) s.0 in
      record { long = eqb-true _ _ t.0; small = t.1; fits = λ a i. eqb-true _ _ (all_of_in _ (users_in p r) s.1 _ (in_at (users_in p r) a i)) }

  pub explained_back : (r : ℕ) (y : (k block : ℕ) → ℕ) (f : (block : ℕ) → List ℕ)
      → ((b : ℕ) → b < p.blocks → Explained A p (users_in p r) (length (users_in p r)) (λ k. y k b) (f b)) → explains_all A p r y f ≡ true
  unfolding explains_all explains
  explained_back r y f h = at_all_of _ (span p.blocks 0) (λ a i.
      let e = h (get_or (span p.blocks 0) a 0) (omega (arith, (span_in p.blocks 0 _ (in_at (span p.blocks 0) a i)).1)) in
      and_joined (and_joined (eq-eqb _ _ e.long) e.small) (at_all_of _ (users_in p r) (λ a i. eq-eqb _ _ (e.fits a i))))

  -- columns 1 to U as a list of unknowns
  explained_columns : (rs : List ℕ) (y f : (k : ℕ) → ℕ) → ((j : ℕ) → f j < A.size)
      → ((a : ℕ) → a < length rs → row_value A p.threshold (get_or rs a 0) f ≡ y (get_or rs a 0)) →
      Explained A p rs (length rs) y (map f (span p.threshold 1))
  unfolding row_value
  explained_columns rs y f small h = record {
    long = map_span_length f p.threshold 1;
    small = elements_map A f (span p.threshold 1) (λ j m. small j);
    fits = λ a i.
        sum_same A (span p.threshold 1) _ _ (λ j m.
        let s = span_in p.threshold 1 j m in
        let e : 1 + (j - 1) ≡ j = omega arith in
        ap (A.multiply (A.coefficient _ j)) (map_span_at f p.threshold 1 (j - 1) (omega arith) ∙ ap f e)) ∙ h a i;
  }

module _ (A : Arithmetic) (p : Plan) (L : Laws A p.users p.threshold) where
  open L use {K, el, val, row, col}

  -- the first U rows, by their places
  system : (rs : List ℕ) → Enough p rs → System K (λ a. row (get_or rs a 0)) col (span p.threshold 0) (span p.threshold 1)
  system rs e = system_of L (λ a. get_or rs a 0) (span p.threshold 0) p.threshold 1 (span_length p.threshold 0) (span_once p.threshold 0)
      (λ a m. e.inside a (place a m)) (λ a b h l. e.apart a b (place a h) (place b l)) (omega arith) (omega arith)
    where
      place : (a : ℕ) → In a (span p.threshold 0) → a < p.threshold
      place a m = omega (arith, (span_in p.threshold 0 a m).1)

  row_el : (rs : List ℕ) → Enough p rs → (a : ℕ) → a < p.threshold → (f : (j : ℕ) → ℕ)
      → el (row_value A p.threshold (get_or rs a 0) f) ≡ value K row col (span p.threshold 1) (get_or rs a 0) (λ j. el (f j))
  row_el rs e a i f = row_value_el A _ _ L p.threshold (get_or rs a 0) f (e.inside a i) (omega arith)

  pub columns_known : (rs : List ℕ) → Enough p rs → (f g : (j : ℕ) → ℕ)
      → ((a : ℕ) → a < p.threshold → row_value A p.threshold (get_or rs a 0) f ≡ row_value A p.threshold (get_or rs a 0) g)
      → (j : ℕ) → 1 ≤ j → j ≤ p.threshold → el (f j) ≡ el (g j)
  columns_known rs e f g h j lo hi = unique (system rs e) (λ j. el (f j)) (λ j. el (g j)) (λ a m.
      let i : a < p.threshold = omega (arith, (span_in p.threshold 0 a m).1) in
      sym (row_el rs e a i f) ∙ ap el (h a i) ∙ row_el rs e a i g) j (in_span p.threshold 1 j lo (omega arith))

  pub one_explained : (rs : List ℕ) → Enough p rs → (y : (k : ℕ) → ℕ) (n m : ℕ) (w v : List ℕ) → p.threshold ≤ n → p.threshold ≤ m
      → Explained A p rs n y w → Explained A p rs m y v → w ≡ v
  one_explained rs e y n m w v hn hm g h = ext_get_or 0 w v (g.long ∙ sym h.long) (λ i l.
      let s : suc i - 1 ≡ i = omega arith in
      el_same A _ _ L (elements_at A (zero_small A _ _ L) w i g.small) (elements_at A (zero_small A _ _ L) v i h.small)
      (ap (λ (a : ℕ). el (get_or w a 0)) (sym s)
      ∙ columns_known rs e (unknown w) (unknown v) (λ a m. g.fits a (omega arith) ∙ sym (h.fits a (omega arith))) (suc i) (omega arith)
      (omega arith) ∙ ap (λ (a : ℕ). el (get_or v a 0)) s))

  pub one_choice : OneChoice A p
  unfolding OneChoice
  one_choice r y f g many h l b i =
      let long = enough_in p r many in
      one_explained (users_in p r) (enough p r many) (λ k. y k b) _ _ (f b) (g b) long long (explained A p r y f h b i) (explained A p r y g l b i)

  -- unknowns that explain the first U replies are those of every choice that explains all
  module _ (r : ℕ) (y : (k block : ℕ) → ℕ) (many : p.threshold ≤ ones p.users r) (b : ℕ) (i : b < p.blocks) (w : List ℕ)
      (g : Explained A p (users_in p r) p.threshold (λ k. y k b) w) (f : (block : ℕ) → List ℕ) (h : explains_all A p r y f ≡ true) where
    pub settled : f b ≡ w
    settled = one_explained (users_in p r) (enough p r many) (λ k. y k b) _ _ (f b) w (enough_in p r many) (omega arith) (explained A p r y f h b i) g

  -- the closed solution
  pub some_choice : SomeChoice A p
  unfolding SomeChoice
  some_choice r y all small = record { choice = λ b. map (solved b) (span p.threshold 1); right = explained_back A p r y _ (λ b i. right b) }
    where
      rs : List ℕ
      rs = users_in p r

      solved : (block j : ℕ) → ℕ
      solved b j = val (solution K (λ a. row (get_or rs a 0)) col (span p.threshold 0) (span p.threshold 1) (λ a. el (y (get_or rs a 0) b)) j)

      right : (b : ℕ) → Explained A p rs (length rs) (λ k. y k b) (map (solved b) (span p.threshold 1))
      right b = explained_columns A p rs (λ k. y k b) (solved b) (λ j. L.val_small _) (λ a m.
          let e = enough p r (omega arith) in
          let i : a < p.threshold = omega (arith, users_in_size p r) in
          el_same A _ _ L (row_value_small A _ _ L p.threshold (get_or rs a 0) (solved b)) (small (get_or rs a 0) b)
          (row_el rs e a i (solved b)
          ∙ field-sum-same K (span p.threshold 1) _ _ (λ j h. ap (K.mul (coefficient K row col (get_or rs a 0) j)) (L.el_val _))
          ∙ solves (system rs e) (λ a. el (y (get_or rs a 0) b)) a (in_span p.threshold 0 a (omega arith) (omega arith))))

  -- ---- replies that follow the rules are explained by the columns of the random list
  column_small : (xs : List ℕ) (v b j : ℕ) → elements A xs ≡ true → column A p xs v b j < A.size
  unfolding column noise
  column_small xs v b j ok = elim (leb j (items p))
      as (λ t. cond t (sum A (users_in p v) (λ k. mask p xs k (b * items p + (j - 1)))) (noise p xs v b (j - suc (items p))) < A.size)
      [ true ↦ sum_small A _ _ L (users_in p v) _ | false ↦ elements_at A (zero_small A _ _ L) xs _ ok ]

  pub rules_explain : RulesExplain A p
  unfolding RulesExplain share shares
  rules_explain xs x v r firsts replies ok u rules = record {
    choice = λ b. map (column A p xs v b) (span p.threshold 1);
    right = explained_back A p r replies _ (λ b i.
        explained_columns A p (users_in p r) (λ k. replies k b) (column A p xs v b) (λ j. column_small xs v b j (list_elements A p xs ok)) (λ a m.
        let k = get_or (users_in p r) a 0 in
        let s = users_in_in p r k (in_at (users_in p r) a m) in
        sym (rules.answer k b s.0 s.1 s.2 i ∙ ap (λ (l : List ℕ). get_or l b 0) (key_reply A p xs k v u (rules.survives k s.0 s.1 s.2))
        ∙ map_below_at (share A p xs k v) p.blocks b i)));
  }

  module _ (xs : List ℕ) (x : Table) (v r : ℕ) (firsts replies : (k at : ℕ) → ℕ) (f : (block : ℕ) → List ℕ) (ok : list_good A p xs ≡ true)
      (u : usable p v ≡ true)
      (many : p.threshold ≤ ones p.users r) (rules : Follows A p xs x v r firsts replies) (h : explains_all A p r replies f ≡ true) (i : ℕ)
      (inside : i < places p) where
    sum_right : get_or (f (i / items p)) (i % items p) 0 ≡ sum A (users_in p v) (λ k. mask p xs k i)
    unfolding places items column OneChoice RulesExplain rules_explain
    sum_right =
        let some : 0 < items p = lt_of_mul-lt-mul_left p.blocks (omega (arith, mul-zero p.blocks)) in
        let l = mod-lt i some in
        let b = i / items p in
        let e : i / items p * items p + (1 + i % items p - 1) ≡ i = omega (arith, div-add-mod' i (items p)) in
        let c = rules_explain xs x v r firsts replies ok u rules in
        ap (λ (w : List ℕ). get_or w (i % items p) 0)
        (one_choice r replies f c.choice many h c.right b ((div-lt_iff_lt-mul {k = items p} {x = i} {y = p.blocks} some).1 inside))
        ∙ map_span_at (column A p xs v b) p.threshold 1 (i % items p) (omega (arith, l))
        ∙ rw (le-leb (1 + i % items p) (items p) (omega (arith, l))) (ap (λ (i : ℕ). sum A (users_in p v) (λ k. mask p xs k i)) e)

    total_right : total_of A p v firsts f i ≡ total_at A p x v i
    unfolding total_of total_at first_message
    total_right =
        let l = users_in p v in
        ap₂ A.subtract (sum_same A l _ (λ k. A.add (get_or (x k) i 0) (mask p xs k i)) (λ k m.
        let s = users_in_in p v k m in
        rules.first k i s.0 s.1 s.2 inside ∙ each_at A.add (places p) (x k) (key A p xs k) i inside
        ∙ ap (A.add (get_or (x k) i 0)) (key_mask A p xs k i inside))) sum_right
        ∙ el_same A _ _ L (L.subtract_small _ _) (sum_small A _ _ L l (λ k. get_or (x k) i 0))
        (L.el_subtract _ _
        ∙ ap₂ (sub K)
        (sum_el A _ _ L l _ ∙ field-sum-same K l _ _ (λ k m. L.el_add _ _) ∙ sum_add K l (λ k. el (get_or (x k) i 0)) (λ k. el (mask p xs k i)))
        (sum_el A _ _ L l (λ k. mask p xs k i)) ∙ sub_is K (K.add_comm _ _) ∙ sym (sum_el A _ _ L l (λ k. get_or (x k) i 0)))

  pub residues_right : ResiduesRight A p
  unfolding ResiduesRight totals
  residues_right xs x v r firsts replies f ok u many rules h =
      map_below_same _ _ (places p) (total_right xs x v r firsts replies f ok u many rules h)

  pub totals_right : AddsWhole A → TotalsRight A p
  unfolding TotalsRight ResiduesRight
  totals_right adds xs x v r firsts replies f ok ax u many rules h = (
    residues_right xs x v r firsts replies f ok u many rules h ∙ totals_whole A p x v ax adds,
    total_fits A p x v ax,
  )
