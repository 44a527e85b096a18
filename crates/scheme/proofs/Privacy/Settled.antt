-- What is shown settles more than the survivors' total where colluders are many, and the colluders' own figures always.
--   masked_same, sums_same    a figure plus its mask, alone and over a set, where two lists show the same
--   own_same                  then the tables agree for each colluder
--   last_total                and T + 1 colluders settle one more total over each usable set that holds them: its column and those of the
--                             noise are T + 1, as many as the colluders' rows
-- Assumes nothing.
use mathlib.Core.Path.{◌≡◌, refl, sym, ap, ap₂, ◌∙◌}
use mathlib.Core.Bool.{Bool, true, cond}
use mathlib.Core.List.{List}
use Prim.Native.Nat.{ℕ, suc, ◌+◌, ◌*◌, ◌-◌, ◌≤◌, ◌<◌}
use native.Mathlib.Omega.{arith}
use lib.ListN.{get_or}
use lib.Seq.{ext_get_or}
use borrow.Author.Tests.{le-leb}
use Rattle.algebra.specs.Sums.{In, sum as field-sum}
use Rattle.algebra.specs.Cauchy.{System, value}
use Rattle.algebra.proofs.Field.{add_comm, add_cancel}
use Rattle.algebra.proofs.Sums.{sum_same as field-sum-same, sum_add, sum_append}
use Rattle.algebra.proofs.Cauchy.{unique}
use Rattle.scheme.specs.Lists.{span}
use Rattle.scheme.specs.Scheme.{Arithmetic, sum, Plan, items, places, in_set, ones, usable, users_in, mask, noise, column, share, shares, key, first_message, reply, total_at}
use Rattle.scheme.specs.Promise.{Table, Shown, rows_good, element_rows, shown}
use Rattle.scheme.specs.Laws.{Laws}
use Rattle.scheme.proofs.Lists.{span_append, span_in, in_span, map_back, map_below_at, members_once}
use Rattle.scheme.proofs.Sums.{el_same, zero_small, sum_el, sum_small, row_value_el}
use Rattle.scheme.proofs.Sets.{users_in_in, user_in, users_in_size, place_lt}
use Rattle.scheme.proofs.Keys.{each_at, key_mask, key_reply, elements_at}
use Rattle.scheme.proofs.Laws.{system_of}

module _ (A : Arithmetic) (p : Plan) (L : Laws A p.users p.threshold) (v c : ℕ) (x y : Table) (xs ys : List ℕ)
    (same : shown A p v c xs x ≡ shown A p v c ys y) where
  open L use {K, el, row, col}
  open K use {F, add as ◌⊕◌}

  infixl 65 ◌⊕◌
  read_first : (zs : List ℕ) (z : Table) (k i : ℕ) → i < places p →
      get_or (first_message A p (key A p zs k) (z k)) i 0 ≡ A.add (get_or (z k) i 0) (mask p zs k i)
  unfolding first_message
  read_first zs z k i h = each_at A.add (places p) (z k) (key A p zs k) i h ∙ ap (A.add (get_or (z k) i 0)) (key_mask A p zs k i h)

  masked_same : (k i : ℕ) → 1 ≤ k → k ≤ p.users → i < places p → el (get_or (x k) i 0) ⊕ el (mask p xs k i) ≡ el (get_or (y k) i 0) ⊕ el (mask p ys k i)
  unfolding shown
  masked_same k i lo hi h = sym (L.el_add _ _)
      ∙ ap el (sym (read_first xs x k i h)
      ∙ ap (λ (l : List ℕ). get_or l i 0)
      (map_back (λ k. first_message A p (key A p xs k) (x k)) (λ k. first_message A p (key A p ys k) (y k)) (span p.users 1)
      (ap (λ (s : Shown). s.firsts) same) k (in_span p.users 1 k lo (omega arith))) ∙ read_first ys y k i h) ∙ L.el_add _ _

  masks : (zs : List ℕ) (w i : ℕ) → ℕ
  masks zs w i = sum A (users_in p w) (λ k. mask p zs k i)

  spread : (z : Table) (zs : List ℕ) (w i : ℕ) →
      el (total_at A p z w i) ⊕ el (masks zs w i) ≡ field-sum K (users_in p w) (λ k. el (get_or (z k) i 0) ⊕ el (mask p zs k i))
  unfolding total_at masks
  spread z zs w i = ap₂ ◌⊕◌ (sum_el A _ _ L (users_in p w) (λ k. get_or (z k) i 0)) (sum_el A _ _ L (users_in p w) (λ k. mask p zs k i))
      ∙ sym (sum_add K (users_in p w) _ _)

  sums_same : (w i : ℕ) → i < places p → el (total_at A p x w i) ⊕ el (masks xs w i) ≡ el (total_at A p y w i) ⊕ el (masks ys w i)
  sums_same w i h =
      spread x xs w i ∙ field-sum-same K (users_in p w) _ _ (λ k m. let s = users_in_in p w k m in masked_same k i s.0 s.1 h) ∙ sym (spread y ys w i)

  key_same : (k : ℕ) → In k (users_in p c) → key A p xs k ≡ key A p ys k
  unfolding shown
  key_same = map_back (key A p xs) (key A p ys) (users_in p c) (ap (λ (s : Shown). s.keys) same)

  pub own_same : element_rows A p x → element_rows A p y → (k : ℕ) → In k (users_in p c) → x k ≡ y k
  unfolding rows_good
  own_same ax ay k m =
      let s = users_in_in p c k m in
      let a = ax k s.0 s.1 refl in
      let b = ay k s.0 s.1 refl in
      ext_get_or 0 (x k) (y k) (a.0 ∙ sym b.0) (λ i l.
      let h : i < places p = omega arith in
      el_same A _ _ L (elements_at A (zero_small A _ _ L) (x k) i a.1) (elements_at A (zero_small A _ _ L) (y k) i b.1)
      (add_cancel K (el (mask p xs k i))
      (add_comm K _ _ ∙ masked_same k i s.0 s.1 h
      ∙ ap (λ (n : ℕ). el (get_or (y k) i 0) ⊕ el n)
      (sym (key_mask A p ys k i h) ∙ ap (λ (l : List ℕ). get_or l i 0) (sym (key_same k m)) ∙ key_mask A p xs k i h) ∙ add_comm K _ _)))

  -- ---- T + 1 colluders in a usable set, at a block
  module _ (more : ones p.users c ≡ p.collusion + 1) (few : p.collusion < p.threshold) (w b : ℕ) (u : usable p w ≡ true)
      (inside : (k : ℕ) → In k (users_in p c) → in_set w k ≡ true) (h : b < p.blocks) where
    abbrev pub place : (j : ℕ) → ℕ
    place j = b * items p + (j - 1)

    -- the last sum and the noise
    solved : List ℕ
    solved = span (suc p.collusion) (items p)

    system : System K row col (users_in p c) solved
    unfolding solved users_in items
    system = system_of L (λ k. k) (users_in p c) (suc p.collusion) (items p) (omega (arith, users_in_size p c))
        (members_once (in_set c) p.users 1) (user_in p c) (λ i k m l ne. ne) (omega arith) (omega arith)

    abbrev cells : (zs : List ℕ) (j : ℕ) → F
    cells zs j = el (column A p zs w b j)

    sum_cell : (zs : List ℕ) (j : ℕ) → j ≤ items p → cells zs j ≡ el (masks zs w (place j))
    unfolding column masks
    sum_cell zs j l = ap (λ (t : Bool). el (cond t (masks zs w (place j)) (noise p zs w b (j - suc (items p))))) (le-leb j (items p) l)

    before : (k : ℕ) (f : ℕ → F) → F
    before k f = value K row col (span (items p - 1) 1) k f

    split : (k : ℕ) (f : ℕ → F) → value K row col (span p.threshold 1) k f ≡ before k f ⊕ value K row col solved k f
    unfolding before solved items
    split k f =
        let e : p.threshold ≡ items p - 1 + suc p.collusion = omega arith in
        let d : 1 + (items p - 1) ≡ items p = omega arith in
        ap (λ (n : ℕ). value K row col (span n 1) k f) e
        ∙ ap (λ (l : List ℕ). value K row col l k f) (span_append (items p - 1) (suc p.collusion) 1)
        ∙ sum_append K (span (items p - 1) 1) (span (suc p.collusion) (1 + (items p - 1))) _
        ∙ ap (λ (i : ℕ). before k f ⊕ value K row col (span (suc p.collusion) i) k f) d

    share_value : (zs : List ℕ) (k : ℕ) → In k (users_in p c) →
        el (get_or (reply p (key A p zs k) k w) b 0) ≡ value K row col (span p.threshold 1) k (cells zs)
    unfolding share shares
    share_value zs k m =
        ap el (ap (λ (l : List ℕ). get_or l b 0) (key_reply A p zs k w u (inside k m)) ∙ map_below_at (share A p zs k w) p.blocks b h)
        ∙ row_value_el A _ _ L p.threshold k (column A p zs w b) (user_in p c k m) (omega arith)

    pub last_total : ((j : ℕ) → 1 ≤ j → j < items p → total_at A p x w (place j) ≡ total_at A p y w (place j)) →
        total_at A p x w (place (items p)) ≡ total_at A p y w (place (items p))
    unfolding before items total_at solved
    last_total others = el_same A _ _ L (sum_small A _ _ L (users_in p w) _) (sum_small A _ _ L (users_in p w) _)
        (add_cancel K (el (masks xs w (place (items p))))
        (add_comm K _ _ ∙ sums_same w (place (items p)) (place_lt p b (items p) h (omega arith) (omega arith))
        ∙ ap (λ t. el (total_at A p y w (place (items p))) ⊕ t)
        (sym (sum_cell ys (items p) (omega arith)) ∙ sym settled ∙ sum_cell xs (items p) (omega arith)) ∙ add_comm K _ _))
      where
        low_cell : (j : ℕ) → 1 ≤ j → j < items p → cells xs j ≡ cells ys j
        low_cell j lo hi = sum_cell xs j (omega arith)
            ∙ add_cancel K (el (total_at A p x w (place j)))
            (sums_same w (place j) (place_lt p b j h lo (omega arith)) ∙ ap (λ (n : ℕ). el n ⊕ el (masks ys w (place j))) (sym (others j lo hi)))
            ∙ sym (sum_cell ys j (omega arith))

        before_same : (k : ℕ) → before k (cells xs) ≡ before k (cells ys)
        before_same k = field-sum-same K (span (items p - 1) 1) _ _ (λ j m.
            let s = span_in (items p - 1) 1 j m in ap (K.mul _) (low_cell j s.0 (omega arith)))

        settled : cells xs (items p) ≡ cells ys (items p)
        settled = unique system (cells xs) (cells ys) (λ k m.
            add_cancel K (before k (cells xs))
            (sym (split k (cells xs)) ∙ sym (share_value xs k m) ∙ ap (λ (l : List ℕ). el (get_or (reply p l k w) b 0)) (key_same k m) ∙ share_value ys k m
            ∙ split k (cells ys) ∙ ap (λ t. t ⊕ value K row col solved k (cells ys)) (sym (before_same k)))) (items p)
            (in_span (suc p.collusion) (items p) (items p) (omega arith) (omega arith))
