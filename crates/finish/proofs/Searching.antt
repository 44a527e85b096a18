-- The search for what settles the replies, turn by turn, over an arithmetic with its laws.
--   Searching, searching_start, searching_more      what holds before each turn
--   not_elements                                    16 where a reply is no element
--   turn_agreed, turn_left, turn_one, turns_over    the ends: all fit; U + 1 rows that disagree; one row that does not fit; no row left
-- Assumes nothing.
use Rattle.std.proofs.Common.{unwrap_or, ◌≡◌, refl, sym, ap, ◌∙◌, Bool, true, false, ◌&&◌, List, ℕ, ◌+◌, ◌-◌, ◌≤◌, ◌<◌, arith, get_or, take, Option, Some, None, Ok, Err, is_some, IfSome}
use native.Mathlib.Decide.{dec_lt}
use Rattle.scheme.specs.Limits.{most_users, most_threshold, most_blocks}
use Rattle.scheme.specs.Scheme.{Arithmetic, elements, Plan, plan_good, items, ones}
use Rattle.scheme.specs.Laws.{Laws}
use Rattle.scheme.specs.Good.{Good}
use Rattle.scheme.specs.Solve.{solution_of, cell, block, FirstMisfit}
use Rattle.scheme.specs.Aside.{NoChoice, Settles, all_agree, one_aside}
use Rattle.scheme.proofs.Tests.{is_false, holds, and_joined, and_false}
use Rattle.scheme.proofs.Good.{good_back}
use Rattle.scheme.proofs.Sets.{users_in_size}
use Rattle.scheme.proofs.Laws.{laws_of}
use Rattle.scheme.proofs.Refusals.{unless_held, unless_failed, after_taken, after_refused}
use Rattle.scheme.proofs.Pooling.Turns.{Arranged, Turn, turn_agrees, turn_aside, turn_odd, turn_none, Turned, arranged_turned, Cleared, cleared_start, cleared_more, cleared_end}
use Rattle.plan.specs.declared.refusal.Refusal.TheVariants.{Unexplained}
use Rattle.plan.proofs.Numbers.{refused_ne0}
use Rattle.service.specs.View.{held_in}
use Rattle.finish.specs.Finish.{columns, all_elements, is_settled}
use Rattle.finish.specs.Parts.{Listed, reply_grid, solution_fits, RowsSolved, ExplainedRight}
use Rattle.finish.specs.declared.Users.{Users}
use Rattle.finish.specs.declared.Misfits.{Misfits}
use Rattle.finish.proofs.Blocks.{listed_few}
use Rattle.finish.proofs.Systems.{listed_arranged, elements_right, elements_back, a_turn, cell_right}
use Rattle.finish.proofs.Seeking.{is_right, not_settled, aside_known, choice_known}

module _ (A : Arithmetic) (L : Laws A most_users most_threshold) (p : Plan) (good : Good p) (r : ℕ)
    (many : p.threshold ≤ ones p.users r) (ys : List ℕ) where
  abbrev g : plan_good p ≡ true
  g = good_back p good

  abbrev y : (k block : ℕ) → ℕ
  y = held_in most_blocks ys

  -- ---- the two ends
  found : all_elements A p r (held_in most_blocks ys) ≡ true → (k : Option ℕ) (ws : List ℕ) (f : (block : ℕ) → List ℕ)
      → Settles A p r y (unwrap_or k 0) f → ((i b : ℕ) → i < items p → b < p.blocks → cell ws i b ≡ get_or (f b) i 0) → ExplainedRight A L p r ys (Ok k) ws
  found ok k ws f h c = record {
    number_right = sym (unless_held (and_joined ok (is_right A L p g y r many _ f h)) 16);
    aside_right = aside_known A L p g y r many _ f h ∙ sym (after_taken refl _ _);
    unknowns_right = λ _ i b l k. c i b l k ∙ ap (λ (w : List ℕ). get_or w i 0) (choice_known A L p g y r many _ f h b k);
  }

  lost : (ws : List ℕ) → (all_elements A p r y && is_settled A L p r y) ≡ false → ExplainedRight A L p r ys (Err Unexplained) ws
  lost ws bad = record {
    number_right = sym (unless_failed bad 16);
    aside_right = sym (after_refused (refused_ne0 Unexplained) _ _);
    unknowns_right = λ z. absurd (refused_ne0 Unexplained z);
  }

  unsettled : (ws : List ℕ) → is_settled A L p r y ≡ false → ExplainedRight A L p r ys (Err Unexplained) ws
  unsettled ws bad = lost ws (ap (λ (b : Bool). all_elements A p r y && b) bad ∙ and_false (all_elements A p r y))

  pub not_elements : (u : Users) → Listed p r u → (values : List ℕ) → values ≡ reply_grid ys u.list u.count p.blocks
      → elements A values ≡ false → (ws : List ℕ) → ExplainedRight A L p r ys (Err Unexplained) ws
  not_elements u h values v bad ws =
      let rows = listed_arranged p r good u h in
      let few = listed_few p r good.users_high _ _ h.list_right h.count_right in
      let no = is_false _ (λ d. holds (sym bad ∙ elements_back A L p good r ys u.list u.count rows few values v d)) in
      lost ws (ap (λ (b : Bool). b && is_settled A L p r y) no)

  -- ---- the turns: m rows, in `rows`, with their replies in `values`; so many of them cannot be set aside
  pub record Searching (m : ℕ) (rows values : List ℕ) (cleared : ℕ) : Type 0 where
    pub enough : p.threshold ≤ m
    pub few : m ≤ most_users
    pub counted : m ≡ ones p.users r
    pub arranged : Arranged p r rows m
    pub replies : values ≡ reply_grid ys rows m p.blocks
    pub small : all_elements A p r (held_in most_blocks ys) ≡ true
    pub left : Cleared A p r (held_in most_blocks ys) rows m cleared
    pub none : 0 < cleared → NoChoice A p r (held_in most_blocks ys)

  pub searching_start : (u : Users) → Listed p r u → (values : List ℕ) → values ≡ reply_grid ys u.list u.count p.blocks
      → elements A values ≡ true → Searching u.count u.list values 0
  searching_start u h values e ok =
      let rows = listed_arranged p r good u h in
      let few = listed_few p r good.users_high _ _ h.list_right h.count_right in
      let counted : u.count ≡ ones p.users r = h.count_right ∙ users_in_size p r in
      record {
        enough = omega arith;
        few = few;
        counted = counted;
        arranged = rows;
        replies = e;
        small = elements_right A L p good r ys u.list u.count rows few values e ok;
        left = cleared_start A p r y u.list u.count;
        none = λ z. absurd (omega arith);
      }

  module _ (m : ℕ) (rows values : List ℕ) (cleared : ℕ) (s : Searching m rows values cleared) (t : Misfits) (ws : List ℕ)
      (h : RowsSolved A L p rows values m t ws) where
    abbrev test : ℕ → Bool
    test = solution_fits A L p rows values

    abbrev choice : (block : ℕ) → List ℕ
    choice b = take p.threshold (solution_of A L rows columns (block values b) p.threshold)

    turn : Turn A p r y rows m choice test
    turn = a_turn A L p good r ys rows m s.arranged s.few values s.replies
        (elements_back A L p good r ys rows m s.arranged s.few values s.replies s.small) s.enough

    cells : (i b : ℕ) → i < items p → b < p.blocks → cell ws i b ≡ get_or (choice b) i 0
    unfolding items
    cells i b l k = h.unknowns_right i b l k ∙ cell_right A L p good r ys rows m s.arranged s.few values s.replies
        (elements_back A L p good r ys rows m s.arranged s.few values s.replies s.small) s.enough i b (omega arith) k

    pub turn_agreed : t.first ≡ None → ExplainedRight A L p r ys (Ok None) ws
    turn_agreed e = found s.small None ws choice (all_agree choice (turn_agrees A p r y rows m choice test turn (λ a lo l.
        (rw e at h.first_right).before a lo l))) cells

    module _ (odd : ℕ) (e : t.first ≡ Some odd) where
      first : FirstMisfit test p.threshold m odd
      first = rw e at h.first_right

      second : FirstMisfit test (odd + 1) m (unwrap_or t.second m)
      second = rw e at h.second_right

      odd_low : odd < m
      odd_low = rw e at h.first_low

      pub odd_few : odd < most_users
      odd_few = omega (arith, odd_low, s.few)

      no_choice : NoChoice A p r y
      no_choice = turn_odd A p r y rows m choice test turn (laws_of L p g) odd odd_low (first.fails odd_low)

      -- a user set aside has a number
      pub odd_named : 1 ≤ get_or rows odd 0
      odd_named = (s.arranged.inside odd odd_low).0

      pub turn_left : m - p.threshold < 2 → ExplainedRight A L p r ys (Err Unexplained) ws
      turn_left l = unsettled ws (not_settled A L p g y r many no_choice (λ two. absurd (omega (arith, s.counted))))

      module _ (two : 2 ≤ m - p.threshold) where
        pub turn_one : is_some t.second ≡ false → ExplainedRight A L p r ys (Ok (Some (get_or rows odd 0))) ws
        turn_one d =
            let u = alone t.second d second in
            found s.small (Some (get_or rows odd 0)) ws choice (one_aside _ choice (omega (arith, s.counted)) no_choice
            (turn_aside A p r y rows m choice test turn odd first.low odd_low (λ a lo l ne. elim (dec_lt a odd) [
              | yes i ↦ first.before a lo i
              | no i ↦ u.before a (omega arith) l
            ]))) cells
          where
            alone : (o : Option ℕ) → is_some o ≡ false → FirstMisfit test (odd + 1) m (unwrap_or o m) → FirstMisfit test (odd + 1) m m
            alone None d u = u
            alone (Some b) d u = absurd (holds (sym d))

        pub searching_more : is_some t.second ≡ true → (next new : List ℕ) → Turned p.threshold m rows next → new ≡ reply_grid ys next m p.blocks
            → Searching m next new (cleared + (m - p.threshold))
        searching_more d next new turned replies = go t.second d second h.second_low
          where
            go : (o : Option ℕ) → is_some o ≡ true → FirstMisfit test (odd + 1) m (unwrap_or o m) → IfSome o (λ b. b < m)
                → Searching m next new (cleared + (m - p.threshold))
            go None d u l = absurd (holds d)
            go (Some b) d u l = record {
              enough = s.enough;
              few = s.few;
              counted = s.counted;
              arranged = arranged_turned p r rows next m s.enough turned s.arranged;
              replies = replies;
              small = s.small;
              left = cleared_more A p r y rows m cleared s.left next turned
                  (turn_none A p r y rows m choice test turn (laws_of L p g) odd b odd_low l
                  (λ z. omega (arith, u.low)) (first.fails odd_low) (u.fails l)) s.enough;
              none = λ z. no_choice;
            }

  pub turns_over : (m : ℕ) (rows values : List ℕ) (cleared : ℕ) → Searching m rows values cleared → m ≤ cleared
      → (ws : List ℕ) → ExplainedRight A L p r ys (Err Unexplained) ws
  turns_over m rows values cleared s l ws =
      unsettled ws (not_settled A L p g y r many (s.none (omega (arith, s.enough, good.collusion_high)))
      (λ two. cleared_end A p r y rows m cleared s.left s.arranged s.enough l))
