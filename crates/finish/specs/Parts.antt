-- What the functions under finish answer.
--   Listed                               the users of a set
--   row_reply, reply_grid                the reply of a row in a block, and 0 from M on; of all rows
--   row_before                           where a row of the next turn stood: the last n come first, and the others behind them
--   Needed                               how many unknowns a turn needs: those of the totals, and where there are further rows all
--   most_sum, AtMost                    of a sum of a number of 16 bits for each user; bounds of a list
--   raised, first_sum, FirstSums        a sum and one element more; the sum of the first elements of a place; of each place, not reduced
--   place_total                          a total by its place
--   turn_of, some_totals                 the turn of a place, item by item; the totals of the first turns
-- Over an arithmetic with its laws:
--   solution_fits                        whether a row has the values that follow from the closed solution of the first U rows
--   RowsSolved                           of the closed solution of the first U rows the unknowns that are needed, and the first two further
--                                        rows that it does not fit
--   ExplainedRight                       what settles the replies of a set
--   Totalled, Answered                   the number, the user set aside and the totals: of a set of complete replies, of a state
-- Assumes nothing: these are definitions.
use Rattle.std.specs.Prelude.{unwrap_or, ◌≡◌, Option, Result, IfSome, Bool, cond, ◌&&◌, List, ℕ, ◌+◌, ◌*◌, ◌-◌, ◌/◌, ◌%◌, ◌≤◌, ◌<◌, ltb, length, get_or, replicate}
use Rattle.scheme.specs.Limits.{most_users, most_threshold, most_blocks, most_places}
use Rattle.scheme.specs.Lists.{span, padded, filled}
use Rattle.scheme.specs.Scheme.{Arithmetic, modular, sum, Plan, items, users_in, unless, after}
use Rattle.scheme.specs.Laws.{Laws}
use Rattle.scheme.specs.Solve.{cell, grid, block, unknown_at, unknowns_of, row_fits, FirstMisfit}
use Rattle.scheme.specs.Totals.{totals}
use Rattle.element.specs.Word.{most_word}
use Rattle.plan.specs.declared.refusal.Refusal.{Refusal}
use Rattle.plan.specs.Numbers.{numbered}
use Rattle.service.specs.declared.Service.{Service}
use Rattle.service.specs.View.{held_in}
use Rattle.finish.specs.declared.Users.{Users}
use Rattle.finish.specs.declared.Misfits.{Misfits}
use Rattle.finish.specs.Finish.{rows_of, columns, choice_of, aside_of, heard, all_elements, is_settled, finish_refusal, finish_answer, aside_told}

pub record Listed (p : Plan) (v : ℕ) (us : Users) : Type 0 where
  pub list_right : us.list ≡ rows_of p v
  pub count_right : us.count ≡ length (users_in p v)

unfoldable pub row_reply : (reply rows : List ℕ) → (blocks a b : ℕ) → ℕ
row_reply ys rs m a b = cond (ltb b m) (held_in most_blocks ys (get_or rs a 0) b) 0

unfoldable pub reply_grid : (reply rows : List ℕ) → (count blocks : ℕ) → List ℕ
reply_grid ys rs n m = grid n (row_reply ys rs m)

unfoldable pub row_before : (n m at : ℕ) → ℕ
row_before n m i = cond (ltb i n) (i + (m - n)) (i - n)

pub record Needed (p : Plan) (m k : ℕ) : Type 0 where
  pub low : items p ≤ k
  pub high : k ≤ p.threshold
  pub all : p.threshold < m → k ≡ p.threshold

-- ---- sums that are not reduced
abbrev pub most_sum : ℕ
most_sum = most_users * most_word

-- the first n numbers of a list
pub record AtMost (most n : ℕ) (xs : List ℕ) : Type 0 where
  pub low : (i : ℕ) → i < n → get_or xs i 0 ≤ most

-- a sum with the first element that is held at `from` and i
abbrev pub raised : (sums first : List ℕ) → (from i : ℕ) → ℕ
raised ss xs from i = get_or ss i 0 + (get_or xs (from + i) 0 - 1)

-- the first elements of a place, over the first n rows
unfoldable pub first_sum : Arithmetic → (first rows : List ℕ) → (n place : ℕ) → ℕ
first_sum A xs rs n i = sum A (span n 0) (λ a. held_in most_places xs (get_or rs a 0) i)

-- of so many places from `at` on
pub record FirstSums (q : ℕ) (first rows : List ℕ) (n at places : ℕ) (sums : List ℕ) : Type 0 where
  pub small : AtMost most_sum places sums
  pub right : (i : ℕ) → i < places → get_or sums i 0 % q ≡ first_sum (modular q) first rows n (at + i)

-- ---- totals
unfoldable pub place_total : Arithmetic → (sums unknowns : List ℕ) → (items place : ℕ) → ℕ
place_total A xs ws n i = A.subtract (get_or xs i 0) (cell ws (i % n) (i / n))

-- the turn of a place, where the totals are written item by item: item i % n of block i / n
abbrev pub turn_of : (items blocks place : ℕ) → ℕ
turn_of n m i = i % n * m + i / n

-- the totals of the first t turns, and 0 in the other places
unfoldable pub some_totals : Arithmetic → (sums unknowns : List ℕ) → (items blocks t : ℕ) → List ℕ
some_totals A xs ws n m t = filled most_places (m * n) (λ i. cond (ltb (turn_of n m i) t) (place_total A xs ws n i) 0)

-- ---- what settles the replies
module _ (A : Arithmetic) (L : Laws A most_users most_threshold) where
  -- whether a row has the values that follow from all unknowns
  unfoldable pub solution_fits : Plan → (rows values : List ℕ) → (a : ℕ) → Bool
  solution_fits p rs vs = row_fits A rs columns vs (unknowns_of A L rs columns vs p.threshold p.threshold) p.threshold p.blocks

  -- of m rows with their values
  pub record RowsSolved (p : Plan) (rows values : List ℕ) (m : ℕ) (s : Misfits) (unknowns : List ℕ) : Type 0 where
    pub unknowns_right : (i b : ℕ) → i < items p → b < p.blocks → cell unknowns i b ≡ unknown_at A L rows columns (block values b) p.threshold i
    pub first_right : FirstMisfit (solution_fits p rows values) p.threshold m (unwrap_or s.first m)
    pub first_low : IfSome s.first (λ a. a < m)
    pub second_right : IfSome s.first (λ a. FirstMisfit (solution_fits p rows values) (a + 1) m (unwrap_or s.second m))
    pub second_low : IfSome s.second (λ a. a < m)

  pub record ExplainedRight (p : Plan) (r : ℕ) (reply : List ℕ) (told : Result (Option ℕ) Refusal) (unknowns : List ℕ) : Type 0 where
    pub number_right : let y = held_in most_blocks reply in numbered told ≡ unless (all_elements A p r y && is_settled A L p r y) 16
    pub aside_right : aside_told told ≡ after (numbered told) (aside_of A L p r (held_in most_blocks reply)) 0
    pub unknowns_right : numbered told ≡ 0 → (i b : ℕ) → i < items p → b < p.blocks
        → cell unknowns i b ≡ get_or (choice_of A L p (heard A L p r (held_in most_blocks reply)) (held_in most_blocks reply) b) i 0

  pub record Totalled (p : Plan) (r v : ℕ) (first reply : List ℕ) (told : Result (Option ℕ) Refusal) (out : List ℕ) : Type 0 where
    pub number_right : let y = held_in most_blocks reply in numbered told ≡ unless (all_elements A p r y && is_settled A L p r y) 16
    pub aside_right : aside_told told ≡ after (numbered told) (aside_of A L p r (held_in most_blocks reply)) 0
    pub totals_right : let y = held_in most_blocks reply in out ≡ after (numbered told)
        (padded most_places (totals A p v (held_in most_places first) (choice_of A L p (heard A L p r y) y))) (replicate most_places 0)

  pub record Answered (s : Service) (told : Result (Option ℕ) Refusal) (out : List ℕ) : Type 0 where
    pub number_right : numbered told ≡ finish_refusal A L s
    pub aside_right : aside_told told ≡ (finish_answer A L (numbered told) s).aside
    pub totals_right : out ≡ (finish_answer A L (numbered told) s).totals
