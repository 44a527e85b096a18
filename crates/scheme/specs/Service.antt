-- The pooling service of document 01, record by record, over an arithmetic: refusals 1, 3, 4, 8 and 11 to 17, answers and states.
--   Phase, State, new_state        what the service holds
--   has_plan, is_gathering, is_replying     tests of a phase
--   plan_missing, second_plan, not_gathering, not_replying     the refusals of a phase
--   takes                          whether a place takes an element
--   complete_set, gathered, replied         the users with all their elements held, as a set: of first messages, of replies
--   Record, Answer                 what comes in, and what is answered
--   element_refusal                the tests that both kinds of element share
--   refusal                        0, or the earliest refusal that applies, but for 16
--   next_state, answer_of          of an accepted record other than finish
--   settled_by, apart_in, totals_by    what settles the complete replies of a state, or that nothing does; the totals
--   Steps, Runs                    one record, by a relation: finish goes by what settles the replies; and a list of records
--   Well                           what holds of every state that records lead to
-- Assumes nothing: these are definitions.
use Rattle.std.specs.Prelude.{◌≡◌, ◌≢◌, Bool, true, false, ◌&&◌, not, cond, List, [], ◌∷◌, ℕ, zero, suc, ◌+◌, ◌-◌, ◌^◌, ◌<◌, ltb, leb, eqb}
use Rattle.std.proofs.Math.Option.{Option, none, some}
use Rattle.scheme.specs.Lists.{span, all_of}
use Rattle.scheme.specs.Scheme.{Arithmetic, Plan, plan_good, places, in_set, ones, usable, ◌then◌, unless}
use Rattle.scheme.specs.Totals.{totals}
use Rattle.scheme.specs.Aside.{Settles, Apart}

-- no plan yet; idle, gathering, replying
pub data Phase : Type 0 where
  unplanned : Phase
  idle : Phase
  gathering : Phase
  replying : Phase

unfoldable pub has_plan : Phase → Bool
has_plan unplanned = false
has_plan idle = true
has_plan gathering = true
has_plan replying = true

unfoldable pub is_gathering : Phase → Bool
is_gathering unplanned = false
is_gathering idle = false
is_gathering gathering = true
is_gathering replying = false

unfoldable pub is_replying : Phase → Bool
is_replying unplanned = false
is_replying idle = false
is_replying gathering = false
is_replying replying = true

-- 11 before a plan; 11 after one; 11, 12 of a record that is for the gathering phase, and for the replying phase
unfoldable pub plan_missing : Phase → ℕ
plan_missing g = unless (has_plan g) 11

unfoldable pub second_plan : Phase → ℕ
second_plan g = unless (not (has_plan g)) 11

unfoldable pub not_gathering : Phase → ℕ
not_gathering g = plan_missing g then unless (is_gathering g) 12

unfoldable pub not_replying : Phase → ℕ
not_replying g = plan_missing g then unless (is_replying g) 12

-- the elements held: of a user's place, of a user's block
pub record State : Type 0 where
  pub phase : Phase
  pub plan : Plan
  pub round : ℕ
  pub survivors : ℕ
  pub firsts : (k place : ℕ) → Option ℕ
  pub replies : (k block : ℕ) → Option ℕ

abbrev pub nothing : (k at : ℕ) → Option ℕ
nothing k i = none

unfoldable pub new_state : State
new_state =
    record {
      phase = unplanned;
      plan = record { users = 0; threshold = 0; collusion = 0; blocks = 0 };
      round = 0;
      survivors = 0;
      firsts = nothing;
      replies = nothing;
    }

-- ---- what is held
unfoldable pub is_held : Option ℕ → Bool
is_held none = false
is_held (some x) = true

unfoldable pub element_of : Option ℕ → ℕ
element_of none = 0
element_of (some x) = x

unfoldable pub with_element : (k at element : ℕ) → ((k at : ℕ) → Option ℕ) → (k at : ℕ) → Option ℕ
with_element k i x f l j = cond (eqb l k && eqb j i) (some x) (f l j)

-- a place takes an element if it holds none, or that very one: a repeat
unfoldable pub takes : Option ℕ → (element : ℕ) → Bool
takes none x = true
takes (some y) x = eqb y x

-- of the n users from k on, those that pass the test, as a set
unfoldable pub set_of : (test : ℕ → Bool) → (n k : ℕ) → ℕ
set_of t zero k = 0
set_of t (suc n) k = cond (t k) (2 ^ (k - 1)) 0 + set_of t n (suc k)

unfoldable pub complete_set : Plan → ((k at : ℕ) → Option ℕ) → (each : ℕ) → ℕ
complete_set p f n = set_of (λ k. all_of (λ i. is_held (f k i)) (span n 0)) p.users 1

-- the users with all places held, and the survivors with all blocks held
unfoldable pub gathered : State → ℕ
gathered s = complete_set s.plan s.firsts (places s.plan)

unfoldable pub replied : State → ℕ
replied s = complete_set s.plan s.replies s.plan.blocks

-- ---- records and answers
pub data Record : Type 0 where
  plan_record : Plan → Record
  open_record : (round : ℕ) → Record
  first_record : (k place element : ℕ) → Record
  close_record : Record
  reply_record : (k block element : ℕ) → Record
  finish_record : Record

-- an accepted element prints nothing; the user set aside is 0 if there is none
pub data Answer : Type 0 where
  silent : Answer
  planned : Plan → Answer
  opened : (round : ℕ) → Answer
  closed : (round set : ℕ) → Answer
  totalled : (round aside : ℕ) → (totals : List ℕ) → Answer
  refused : (number : ℕ) → Answer

-- 4, 8, 3 of an element that one of `users` sends for one of `limit` places or blocks
unfoldable pub element_refusal : Arithmetic → (users limit k at element : ℕ) → ℕ
element_refusal A n l k i x = unless (leb 1 k && leb k n) 4 then unless (ltb i l) 8 then unless (ltb x A.size) 3

-- plan 11, 1; open 11, 17; elements 11, 12, 4, 8, 3, 14, 13; close 11, 12, 15; finish 11, 12, 15, and then perhaps 16
unfoldable pub refusal : Arithmetic → Record → State → ℕ
refusal A (plan_record p) s = second_plan s.phase then unless (plan_good p) 1
refusal A (open_record r) s = plan_missing s.phase then unless (ltb s.round r) 17
refusal A (first_record k i x) s =
    not_gathering s.phase then element_refusal A s.plan.users (places s.plan) k i x then unless (takes (s.firsts k i) x) 13
refusal A close_record s = not_gathering s.phase then unless (leb s.plan.threshold (ones s.plan.users (gathered s))) 15
refusal A (reply_record k b x) s =
    not_replying s.phase then element_refusal A s.plan.users s.plan.blocks k b x then unless (in_set s.survivors k) 14
    then unless (takes (s.replies k b) x) 13
refusal A finish_record s = not_replying s.phase then unless (leb s.plan.threshold (ones s.plan.users (replied s))) 15

-- ---- the states that records lead to
unfoldable pub planned_state : Plan → State
planned_state p = record { phase = idle; plan = p; round = 0; survivors = 0; firsts = nothing; replies = nothing }

unfoldable pub opened_state : (round : ℕ) → State → State
opened_state r s = record { phase = gathering; plan = s.plan; round = r; survivors = 0; firsts = nothing; replies = nothing }

unfoldable pub idle_state : State → State
idle_state s = record { phase = idle; plan = s.plan; round = s.round; survivors = 0; firsts = nothing; replies = nothing }

unfoldable pub next_state : Record → State → State
next_state (plan_record p) s = planned_state p
next_state (open_record r) s = opened_state r s
next_state (first_record k i x) s =
    record { phase = s.phase; plan = s.plan; round = s.round; survivors = s.survivors; firsts = with_element k i x s.firsts; replies = s.replies }
next_state close_record s =
    record { phase = replying; plan = s.plan; round = s.round; survivors = gathered s; firsts = s.firsts; replies = nothing }
next_state (reply_record k b x) s =
    record { phase = s.phase; plan = s.plan; round = s.round; survivors = s.survivors; firsts = s.firsts; replies = with_element k b x s.replies }
next_state finish_record s = idle_state s

unfoldable pub answer_of : Record → State → Answer
answer_of (plan_record p) s = planned p
answer_of (open_record r) s = opened r
answer_of (first_record k i x) s = silent
answer_of close_record s = closed s.round (gathered s)
answer_of (reply_record k b x) s = silent
answer_of finish_record s = silent

unfoldable pub is_finish : Record → Bool
is_finish (plan_record p) = false
is_finish (open_record r) = false
is_finish (first_record k i x) = false
is_finish close_record = false
is_finish (reply_record k b x) = false
is_finish finish_record = true

-- ---- the elements held as functions of numbers, and what settles the complete replies
abbrev pub values : ((k at : ℕ) → Option ℕ) → (k at : ℕ) → ℕ
values f k i = element_of (f k i)

abbrev pub settled_by : Arithmetic → State → (aside : ℕ) → (choice : (block : ℕ) → List ℕ) → Type 0
settled_by A s k f = Settles A s.plan (replied s) (values s.replies) k f

abbrev pub apart_in : Arithmetic → State → Type 0
apart_in A s = Apart A s.plan (replied s) (values s.replies)

unfoldable pub totals_by : Arithmetic → State → (choice : (block : ℕ) → List ℕ) → List ℕ
totals_by A s f = totals A s.plan s.survivors (values s.firsts) f

pub data Steps (A : Arithmetic) : Record → State → Answer → State → Type 0 where
  refuses : (r : Record) (s : State) → refusal A r s ≢ 0 → Steps A r s (refused (refusal A r s)) s
  accepts : (r : Record) (s : State) → is_finish r ≡ false → refusal A r s ≡ 0 → Steps A r s (answer_of r s) (next_state r s)
  totals_up : (s : State) (k : ℕ) (f : (block : ℕ) → List ℕ) → refusal A finish_record s ≡ 0 → settled_by A s k f →
      Steps A finish_record s (totalled s.round k (totals_by A s f)) (idle_state s)
  disagrees : (s : State) → refusal A finish_record s ≡ 0 → apart_in A s → Steps A finish_record s (refused 16) s

pub data Runs (A : Arithmetic) : List Record → State → List Answer → State → Type 0 where
  done : (s : State) → Runs A [] s [] s
  more : (r : Record) (rs : List Record) (s t u : State) (a : Answer) (l : List Answer) → Steps A r s a t → Runs A rs t l u → Runs A (r ∷ rs) s (a ∷ l) u

-- states that records lead to from a new one: a good plan, if there is one; elements; replies of survivors
pub record Well (A : Arithmetic) (s : State) : Type 0 where
  pub good : has_plan s.phase ≡ true → plan_good s.plan ≡ true
  pub firsts_small : (k i : ℕ) → values s.firsts k i < A.size
  pub replies_small : (k b : ℕ) → values s.replies k b < A.size
  pub replies_own : (k b : ℕ) → is_held (s.replies k b) ≡ true → in_set s.survivors k ≡ true
  pub survive : is_replying s.phase ≡ true → usable s.plan s.survivors ≡ true
