-- Demand 3 for every arithmetic with the laws.
--   shown_same                   a list with the first table and its partner with the second show the same
--   each_good, each_undo         partners are random lists, and each list is the partner of exactly one
--   nothing_told                 demand 3 for one plan
-- Assumes nothing.
use mathlib.Core.Path.{◌≡◌, sym, ap, ap₂, ◌∙◌}
use mathlib.Core.Bool.{true, ◌&&◌}
use mathlib.Core.List.{List, ◌++◌, map}
use Prim.Native.Nat.{ℕ, ◌+◌, ◌*◌, ◌-◌, ◌^◌, ◌≤◌, ◌<◌}
use native.Mathlib.Decide.{dec_le}
use native.Mathlib.Omega.{arith}
use lib.ListN.{get_or}
use borrow.Author.Tests.{le-leb, lt-leb, eq-eqb}
use Rattle.algebra.specs.Field.{sub}
use Rattle.algebra.specs.Sums.{sum as field-sum}
use Rattle.algebra.proofs.Field.{add_swap, add_sub, sub_is}
use Rattle.algebra.proofs.Sums.{sum_sub}
use Rattle.scheme.specs.Lists.{span, each}
use Rattle.scheme.specs.Scheme.{Arithmetic, Plan, items, places, in_set, ones, usable, usable_with, users_in, sets_with, list_length, mask, share, shares, key, first_message, reply, total_at}
use Rattle.scheme.specs.Promise.{Table, list_good, shown, Alike, NothingTold}
use Rattle.scheme.specs.Laws.{Laws}
use Rattle.scheme.specs.Delta.{colluders_in, unsolved, shift, difference, table_delta, partner, back}
use Rattle.scheme.proofs.Tests.{and_both, and_joined}
use Rattle.scheme.proofs.Lists.{map_same, map_below_same, members_in, in_members, rows_same, span_in}
use Rattle.scheme.proofs.Sums.{el_same, zero_small, add_none, sum_el, row_value_small}
use Rattle.scheme.proofs.Sets.{users_in_in, place_lt}
use Rattle.scheme.proofs.Keys.{each_at, each_length, whole_list, key_mask, key_reply, elements_at, elements_map, list_long, list_elements}
use Rattle.scheme.proofs.Privacy.Add.{mask_add, share_add, value_zero}
use Rattle.scheme.proofs.Privacy.Delta.{shift_hidden, shift_zero, delta_mask, delta_share}

-- place by place with a function that gives elements, a list is a random list
each_good : (A : Arithmetic) (p : Plan) (f : ℕ → ℕ → ℕ) → ((a b : ℕ) → f a b < A.size) → (xs ys : List ℕ) →
    list_good A p (each f (list_length p) xs ys) ≡ true
unfolding list_good
each_good A p f h xs ys =
    and_joined (eq-eqb _ _ (each_length f (list_length p) xs ys)) (elements_map A (λ i. f (get_or xs i 0) (get_or ys i 0)) (span (list_length p) 0) (λ i m. h _ _))

-- what g undoes of f at each element, it undoes of a whole list
each_undo : (A : Arithmetic) (p : Plan) (f g : ℕ → ℕ → ℕ) → 0 < A.size → ((a b : ℕ) → a < A.size → g (f a b) b ≡ a)
    → (xs ys : List ℕ) → list_good A p xs ≡ true → each g (list_length p) (each f (list_length p) xs ys) ys ≡ xs
each_undo A p f g z h xs ys ok =
    let n = list_length p in
    map_same _ (λ i. get_or xs i 0) (span n 0) (λ i m.
    ap (λ (a : ℕ). g a (get_or ys i 0)) (each_at f n xs ys i (omega (arith, (span_in n 0 i m).1)))
    ∙ h (get_or xs i 0) (get_or ys i 0) (elements_at A z xs i (list_elements A p xs ok)))
    ∙ ap (λ (n : ℕ). map (λ i. get_or xs i 0) (span n 0)) (sym (list_long A p xs ok)) ∙ whole_list xs

module _ (A : Arithmetic) (p : Plan) (L : Laws A p.users p.threshold) where
  open L use {K, el, row, col}
  open K use {F, 𝟘, add as ◌⊕◌}

  infixl 65 ◌⊕◌
  z : 0 < A.size
  z = zero_small A _ _ L

  subtract_add : (a b : ℕ) → a < A.size → A.subtract (A.add a b) b ≡ a
  subtract_add a b h = el_same A _ _ L (L.subtract_small _ b) h
      (L.el_subtract _ b ∙ ap (λ x. sub K x (el b)) (L.el_add a b) ∙ sub_is K (K.add_comm (el b) (el a)))

  add_subtract : (a b : ℕ) → a < A.size → A.add (A.subtract a b) b ≡ a
  add_subtract a b h =
      el_same A _ _ L (L.add_small _ b) h (L.el_add _ b ∙ ap (λ x. x ⊕ el b) (L.el_subtract a b) ∙ K.add_comm _ (el b) ∙ add_sub K (el a) (el b))

  module _ (v c : ℕ) (x y : Table) (more : p.collusion ≤ p.threshold) (few : ones p.users c ≤ p.collusion) (u : usable p v ≡ true)
      (al : Alike A p v c x y) where
    d : (k place : ℕ) → F
    d = difference A p L c x y

    e : (set block item : ℕ) → F
    e w b i = 𝟘

    Δ : List ℕ
    Δ = table_delta A p L c x y

    -- the sums of the survivors' masks do not move
    unsolved_zero : (b j : ℕ) → b < p.blocks → 1 ≤ j → unsolved A p L c d e v b j ≡ 𝟘
    unfolding unsolved d e difference total_at
    unsolved_zero b j h lo =
        let i : ℕ = b * items p + (j - 1) in
        elim (dec_le j (items p)) [
          | yes l ↦ rw (le-leb j (items p) l)
              (sum_sub K (users_in p v) (λ k. el (get_or (x k) i 0)) (λ k. el (get_or (y k) i 0))
              ∙ ap (λ a. sub K a (field-sum K (users_in p v) (λ k. el (get_or (y k) i 0))))
              (sym (sum_el A _ _ L (users_in p v) (λ k. get_or (x k) i 0)) ∙ ap el (al.totals i (place_lt p b j h lo l))
              ∙ sum_el A _ _ L (users_in p v) (λ k. get_or (y k) i 0)) ∙ sub_is K (K.add-zero _))
          | no l ↦ let s : items p < j = omega arith in rw (lt-leb j (items p) s)
        ]

    -- a share to V, and one of a colluder, does not move
    reply_zero : (k b : ℕ) → 1 ≤ k → k ≤ p.users → b < p.blocks → share A p Δ k v b ≡ 0
    unfolding Δ table_delta d e
    reply_zero k b lo hi h = delta_share A p L c d e more few k v b lo hi u h
        (value_zero K row col (span p.threshold 1) k (shift A p L c d e v b)
        (λ j m. shift_zero A p L c d e more few v b (λ j. unsolved_zero b j h) j (span_in p.threshold 1 j m).0))

    colluder_zero : (k w b : ℕ) → 1 ≤ k → k ≤ p.users → in_set c k ≡ true → usable p w ≡ true → in_set w k ≡ true → b < p.blocks → share A p Δ k w b ≡ 0
    unfolding Δ table_delta d e colluders_in
    colluder_zero k w b lo hi own r i h = delta_share A p L c d e more few k w b lo hi r h
        (shift_hidden A p L c d e more few w b k (in_members (λ k. in_set c k && in_set w k) p.users 1 k lo (omega arith) (and_joined own i)))

    module _ (xs : List ℕ) (ok : list_good A p xs ≡ true) where
      ys : List ℕ
      ys = partner A p L c x y xs

      mask_moved : (k i : ℕ) → 1 ≤ k → k ≤ p.users → i < places p → el (mask p ys k i) ≡ el (mask p xs k i) ⊕ d k i
      unfolding ys partner table_delta d e
      mask_moved k i lo hi h =
          ap el (mask_add A p L xs (table_delta A p L c x y) k i lo hi h) ∙ L.el_add (mask p xs k i) (mask p (table_delta A p L c x y) k i)
          ∙ ap (λ a. el (mask p xs k i) ⊕ a) (delta_mask A p L c d e more few k i lo hi h)

      first_same : (k : ℕ) → 1 ≤ k → k ≤ p.users → first_message A p (key A p xs k) (x k) ≡ first_message A p (key A p ys k) (y k)
      unfolding first_message d difference
      first_same k lo hi = map_below_same _ _ (places p) (λ i h.
          let a : F = el (get_or (x k) i 0) in
          let b : F = el (get_or (y k) i 0) in
          ap (A.add (get_or (x k) i 0)) (key_mask A p xs k i h)
          ∙ el_same A _ _ L (L.add_small _ _) (L.add_small _ _)
          (L.el_add (get_or (x k) i 0) (mask p xs k i) ∙ K.add_comm a _ ∙ ap (λ s. el (mask p xs k i) ⊕ s) (sym (add_sub K a b))
          ∙ add_swap K (el (mask p xs k i)) b _ ∙ ap (λ s. b ⊕ s) (sym (mask_moved k i lo hi h)) ∙ sym (L.el_add (get_or (y k) i 0) (mask p ys k i)))
          ∙ sym (ap (A.add (get_or (y k) i 0)) (key_mask A p ys k i h)))

      shares_same : (k w : ℕ) → 1 ≤ k → k ≤ p.users → usable p w ≡ true → ((b : ℕ) → b < p.blocks → share A p Δ k w b ≡ 0) →
          shares A p xs k w ≡ shares A p ys k w
      unfolding shares share ys partner Δ
      shares_same k w lo hi r none = map_below_same _ _ p.blocks (λ b h.
          sym (share_add A p L xs Δ k w b lo hi r h
          ∙ add_none A _ _ L (share A p xs k w b) (share A p Δ k w b) (row_value_small A _ _ L p.threshold k _) (ap el (none b h) ∙ L.el_zero)))

      mask_same : (k i : ℕ) → 1 ≤ k → k ≤ p.users → in_set c k ≡ true → i < places p → mask p xs k i ≡ mask p ys k i
      unfolding mask d difference ys partner Δ
      mask_same k i lo hi own h = el_same A _ _ L (elements_at A z xs ((k - 1) * places p + i) (list_elements A p xs ok))
          (elements_at A z ys ((k - 1) * places p + i) (list_elements A p ys (each_good A p A.add L.add_small xs Δ)))
          (sym (mask_moved k i lo hi h
          ∙ ap (λ a. el (mask p xs k i) ⊕ a)
          (ap (λ (l : List ℕ). sub K (el (get_or l i 0)) (el (get_or (y k) i 0))) (al.own k lo hi own) ∙ sub_is K (K.add-zero _)) ∙ K.add-zero _))

      key_same : (k : ℕ) → 1 ≤ k → k ≤ p.users → in_set c k ≡ true → key A p xs k ≡ key A p ys k
      unfolding key sets_with usable_with
      key_same k lo hi own = ap₂ ◌++◌ (map_below_same (mask p xs k) (mask p ys k) (places p) (λ i h. mask_same k i lo hi own h))
          (rows_same (shares A p xs k) (shares A p ys k) (sets_with p k) (λ w m.
          let t = and_both (usable p w) (in_set w k) (members_in (usable_with p k) (2 ^ p.users) 0 w m).2 in
          shares_same k w lo hi t.0 (λ b h. colluder_zero k w b lo hi own t.0 t.1 h)))

      pub shown_same : shown A p v c xs x ≡ shown A p v c (partner A p L c x y xs) y
      unfolding shown ys
      shown_same = λ i. record {
        firsts = map_same (λ k. first_message A p (key A p xs k) (x k)) (λ k. first_message A p (key A p ys k) (y k)) (span p.users 1) (λ k m.
            let s = span_in p.users 1 k m in first_same k s.0 (omega arith)) i;
        replies = map_same (λ k. reply p (key A p xs k) k v) (λ k. reply p (key A p ys k) k v) (users_in p v) (λ k m.
            let s = users_in_in p v k m in
            key_reply A p xs k v u s.2 ∙ shares_same k v s.0 s.1 u (λ b. reply_zero k b s.0 s.1) ∙ sym (key_reply A p ys k v u s.2)) i;
        keys = map_same (key A p xs) (key A p ys) (users_in p c) (λ k m.
            let s = users_in_in p c k m in key_same k s.0 s.1 s.2) i;
      }

  -- for every plan with no more colluders than threshold, and tables of any kind
  pub nothing_told : p.collusion ≤ p.threshold → (kind : Table → Type 0) → NothingTold A p kind
  unfolding NothingTold partner back
  nothing_told more kind v c x y u below few ax ay al = let Δ : List ℕ = table_delta A p L c x y in record {
    partner = partner A p L c x y;
    back = back A p L c x y;
    stays = λ xs ok. (each_good A p A.add L.add_small xs Δ, each_good A p A.subtract L.subtract_small xs Δ);
    one_to_one = λ xs ok. (each_undo A p A.add A.subtract z subtract_add xs Δ ok, each_undo A p A.subtract A.add z add_subtract xs Δ ok);
    same = shown_same v c x y more few u al;
  }
