-- All blocks, as the code solves them, over an arithmetic with its laws: the rows are the users of a set, in some order.
--   listed_arranged, arranged_points, turned_right     the rows of the first turn, and of the next
--   reply_grid_length                     the grid of the replies has all cells
--   square, a_turn, cell_right            the system of a turn, what it is for the search, and its unknowns
--   elements_right, elements_back         where the replies are elements
-- Assumes nothing.
use Rattle.std.proofs.Common.{◌≡◌, refl, sym, ap, ◌∙◌, subst, Bool, true, cond, List, ℕ, ◌+◌, ◌*◌, ◌-◌, ◌≤◌, ◌<◌, arith, length, get_or, take, get_or-take, eq-eqb, eqb-true, lt-ltb, le-ltb, ltb-true}
use native.Mathlib.Decide.{dec_lt}
use Rattle.algebra.specs.Sums.{In}
use Rattle.scheme.specs.Limits.{most_users, most_threshold, most_blocks, cells}
use Rattle.scheme.specs.Lists.{span, filled}
use Rattle.scheme.specs.Scheme.{Arithmetic, elements, Plan, in_set, users_in, row_value}
use Rattle.scheme.specs.Laws.{Laws}
use Rattle.scheme.specs.Good.{Good}
use Rattle.scheme.specs.Solve.{Points, Square, solution_of, unknown_at, value_of, cell, grid, block, unknowns_of, row_fits}
use Rattle.scheme.proofs.Lists.{span_in, in_span, in_members, all_of_in, at_all_of, in_at}
use Rattle.scheme.proofs.Sums.{zero_small}
use Rattle.scheme.proofs.Sets.{users_in_in}
use Rattle.scheme.proofs.Keys.{elements_at, elements_every}
use Rattle.scheme.proofs.Pooling.Totals.{unknown}
use Rattle.scheme.proofs.Pooling.Turns.{Place, in_place, Arranged, Turn, Turned}
use Rattle.scheme.proofs.Padded.{filled_at, filled_length}
use Rattle.scheme.proofs.Solving.Grids.{block_at, grid_at, grid_small}
use Rattle.scheme.proofs.Weighed.{weighed_same}
use Rattle.scheme.proofs.Solving.Closed.{points_some, unknowns_at}
use Rattle.scheme.proofs.Solving.Explains.{Block, row_told, explains_first}
use Rattle.service.specs.View.{held_in}
use Rattle.finish.specs.Finish.{columns, all_elements}
use Rattle.finish.specs.Parts.{row_reply, reply_grid, row_before, Listed, solution_fits}
use Rattle.finish.specs.declared.Users.{Users}
use Rattle.finish.proofs.Turns.{row_reply_inside, row_reply_behind}
use Rattle.finish.proofs.Blocks.{column_at, columns_points, listed_at, listed_points}

-- ---- the rows
module _ (p : Plan) (r : ℕ) (good : Good p) where
  pub listed_arranged : (u : Users) → Listed p r u → Arranged p r u.list u.count
  unfolding users_in
  listed_arranged u h = record {
    inside = λ a l. rw (at a l) (users_in_in p r _ (in_at (users_in p r) a (omega (arith, h.count_right))));
    apart = λ a c l k. points.apart a c l k;
    place = λ k lo hi e. found k (in_members (in_set r) p.users 1 k lo (omega arith) e);
  }
    where
      at : (a : ℕ) → a < u.count → get_or u.list a 0 ≡ get_or (users_in p r) a 0
      at = listed_at p r good.users_high _ _ h.list_right h.count_right

      points : Points most_users u.count u.list
      points = listed_points p r good.users_high _ _ h.list_right h.count_right

      found : (k : ℕ) → In k (users_in p r) → Place u.list u.count k
      found k m =
          let c = in_place (users_in p r) k m in
          let l : c.at < u.count = omega (arith, c.low, h.count_right) in
          record { at = c.at; low = l; same = at c.at l ∙ c.same }

  pub arranged_points : (rs : List ℕ) (m : ℕ) → Arranged p r rs m → Points most_users m rs
  arranged_points rs m h = record {
    inside = λ a l. let s = h.inside a l in (s.0, omega (arith, s.1, good.users_high));
    apart = h.apart;
  }

pub turned_right : (rs next : List ℕ) (n m : ℕ) → n ≤ m → next ≡ filled most_users m (λ i. get_or rs (row_before n m i) 0) → Turned n m rs next
unfolding row_before
turned_right rs next n m few e = record {
  front = λ j l. at j (omega arith) ∙ ap (λ (b : Bool). get_or rs (cond b (j + (m - n)) (j - n)) 0) (lt-ltb j n l);
  behind = λ j l i. at j i ∙ ap (λ (b : Bool). get_or rs (cond b (j + (m - n)) (j - n)) 0) (le-ltb j n l);
}
  where
    at : (j : ℕ) → j < m → get_or next j 0 ≡ get_or rs (row_before n m j) 0
    at j l = ap (λ (u : List ℕ). get_or u j 0) e ∙ filled_at most_users _ m j l

-- ---- the grid of the replies
module _ (ys rs : List ℕ) (n m : ℕ) where
  pub reply_grid_length : n ≤ most_users → length (reply_grid ys rs n m) ≡ cells
  unfolding reply_grid grid
  reply_grid_length few = filled_length cells _ (n * most_blocks) (omega arith)

  reply_cell : (a b : ℕ) → a < n → b < m → m ≤ most_blocks → cell (reply_grid ys rs n m) a b ≡ held_in most_blocks ys (get_or rs a 0) b
  unfolding reply_grid
  reply_cell a b h l few = grid_at (row_reply ys rs m) n a b h (omega arith) ∙ row_reply_inside ys rs m a b l

  grid_elements : (A : Arithmetic) → 0 < A.size → ((a b : ℕ) → a < n → b < m → held_in most_blocks ys (get_or rs a 0) b < A.size)
      → elements A (reply_grid ys rs n m) ≡ true
  unfolding reply_grid
  grid_elements A z h = elements_every A _ (grid_small (row_reply ys rs m) n A.size z (λ a b l k. go a b l (dec_lt b m)))
    where
      go : (a b : ℕ) → a < n → Dec (b < m) → row_reply ys rs m a b < A.size
      go a b l (yes k) = rw (row_reply_inside ys rs m a b k) (h a b l k)
      go a b l (no k) = rw (row_reply_behind ys rs m a b (omega arith)) z

-- ---- the system of a turn
module _ (A : Arithmetic) (L : Laws A most_users most_threshold) (p : Plan) (good : Good p) (r : ℕ) (ys rs : List ℕ) (m : ℕ)
    (rows : Arranged p r rs m) (few : m ≤ most_users) where
  abbrev n : ℕ
  n = p.threshold

  abbrev y : (k block : ℕ) → ℕ
  y = held_in most_blocks ys

  threshold_few : n ≤ most_threshold
  threshold_few = omega (arith, good.threshold_high, good.users_high)

  pub square : p.threshold ≤ m → Square rs columns p.threshold
  square many = record {
    few = omega arith;
    rows_good = points_some (arranged_points p r good rs m rows) (omega arith) many;
    columns_good = columns_points n threshold_few;
  }

  module _ (vs : List ℕ) (v : vs ≡ reply_grid ys rs m p.blocks) where
    cell_at : (a b : ℕ) → a < m → b < p.blocks → cell vs a b ≡ y (get_or rs a 0) b
    cell_at a b l k = ap (λ (g : List ℕ). cell g a b) v ∙ reply_cell ys rs m p.blocks a b l k good.blocks_high

    -- the replies are elements exactly if the grid's numbers are
    pub elements_right : elements A vs ≡ true → all_elements A p r (held_in most_blocks ys) ≡ true
    unfolding all_elements
    elements_right ok = at_all_of _ (users_in p r) (λ c i. at_all_of _ (span p.blocks 0) (λ d j.
        let s = users_in_in p r _ (in_at (users_in p r) c i) in
        let o = rows.place _ s.0 s.1 s.2 in
        let k : get_or (span p.blocks 0) d 0 < p.blocks = omega (arith, (span_in p.blocks 0 _ (in_at (span p.blocks 0) d j)).1) in
        lt-ltb _ _ (subst (λ (u : ℕ). y u (get_or (span p.blocks 0) d 0) < A.size) o.same
        (subst (λ (x : ℕ). x < A.size) (cell_at o.at _ o.low k) (elements_at A (zero_small A most_users most_threshold L) vs _ ok)))))

    pub elements_back : all_elements A p r (held_in most_blocks ys) ≡ true → elements A vs ≡ true
    unfolding all_elements users_in
    elements_back e = ap (elements A) v ∙ grid_elements ys rs m p.blocks A (zero_small A most_users most_threshold L) (λ a b l k.
        let s = rows.inside a l in
        ltb-true _ _ (all_of_in _ (span p.blocks 0) (all_of_in _ (users_in p r) e _ (in_members (in_set r) p.users 1 _ s.0 (omega arith) s.2))
        b (in_span p.blocks 0 b (omega arith) (omega arith))))

    module _ (ok : elements A vs ≡ true) (many : p.threshold ≤ m) where
      abbrev ws : List ℕ
      ws = unknowns_of A L rs columns vs n n

      abbrev solved : (block : ℕ) → List ℕ
      solved b = solution_of A L rs columns (block vs b) n

      a_block : (b : ℕ) → b < p.blocks → Block A p rs m (λ k. y k b) rs columns (block vs b)
      a_block b k = record {
        many = many;
        columns = λ i l. column_at i (omega (arith, threshold_few));
        rows = λ a l. refl;
        values = λ a l. block_at vs b a (omega arith) ∙ cell_at a b l k;
        small = λ a l. rw (block_at vs b a (omega arith)) (elements_at A (zero_small A most_users most_threshold L) vs _ ok);
      }

      unknown_cell : (i b : ℕ) → i < n → b < p.blocks → cell ws i b ≡ get_or (solved b) i 0
      unfolding solution_of
      unknown_cell i b l k =
          unknowns_at A L rs columns n vs n i b l (omega (arith, good.blocks_high)) ∙ sym (filled_at most_users _ n i l)

      row_value_at : (a b : ℕ) → a < m → b < p.blocks
          → row_value A n (get_or rs a 0) (unknown (take n (solved b))) ≡ value_of A (get_or rs a 0) columns (block ws b) n
      row_value_at a b l k =
          row_told A L p rs m _ rs columns (block vs b) (a_block b k) (square many) a l
          ∙ weighed_same A _ n (λ i j. sym (block_at ws b i (omega (arith, threshold_few)) ∙ unknown_cell i b j k))

      pub a_turn : Turn A p r (held_in most_blocks ys) rs m (λ b. take p.threshold (solution_of A L rs columns (block vs b) p.threshold))
          (solution_fits A L p rs vs)
      unfolding solution_fits row_fits
      a_turn = record {
        rows = rows;
        many = many;
        first = λ b k. explains_first A L p rs m _ rs columns (block vs b) (a_block b k) (square many);
        told = λ a l h b k.
            row_value_at a b l k ∙ eqb-true _ _ (all_of_in _ (span p.blocks 0) h b (in_span p.blocks 0 b (omega arith) (omega arith))) ∙ cell_at a b l k;
        back = λ a l h. at_all_of _ (span p.blocks 0) (λ d j.
            let k : get_or (span p.blocks 0) d 0 < p.blocks = omega (arith, (span_in p.blocks 0 _ (in_at (span p.blocks 0) d j)).1) in
            eq-eqb _ _ (sym (row_value_at a _ l k) ∙ h _ k ∙ sym (cell_at a _ l k)));
      }

      pub cell_right : (i b : ℕ) → i < p.threshold → b < p.blocks
          → unknown_at A L rs columns (block vs b) p.threshold i ≡ get_or (take p.threshold (solution_of A L rs columns (block vs b) p.threshold)) i 0
      unfolding solution_of
      cell_right i b l k = sym (get_or-take n (solved b) i 0 l ∙ filled_at most_users _ n i l)
