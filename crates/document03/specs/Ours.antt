-- Our words for document 03's.
--   our_plan, plan_of_numbers      our plan of a plan of document 03, and of K, U, T and M
--   ClientOf                      our end, which reports counts, of a round, where plan, number and stage are document 03's numbers
--   our_phase                      our phase of a number: 0 no plan, 2 gathering, 3 replying, all others idle
--   our_held, our_state            the elements held as a function; our state of the service
--   our_record                     our records
--   repeats                        whether a record brings the very element that is held
--   answer_in                      our answer to a record, in a state, where document 03 has a line: silent, if that is 13 for a repeat
--   Fits                           an airfield, of at least U + 2 that replied, without whose reply all others are explained
--   Beside                         our answer and next state where document 03 has a line and a next state: the same, by answer_in, but
--                                  where it has 16 and an airfield fits; there ours is the total, and the round is over
-- Assumes nothing: these are definitions.
use Rattle.std.specs.Prelude.{◌≡◌, ◌≢◌, Bool, true, false, ◌&&◌, cond, List, [], ◌∷◌, ℕ, zero, suc, ◌+◌, ◌≤◌, ◌<◌, eqb}
use Rattle.std.proofs.Math.Option.{Option}
use Rattle.scheme.specs.Scheme.{Plan}
use Rattle.scheme.specs.Service.{Phase, unplanned, idle, gathering, replying, State, nothing, with_element, Record, plan_record, open_record, first_record, close_record, reply_record, finish_record, Answer, silent, planned, opened, closed, totalled, refused}
use Rattle.scheme.specs.Aside.{without}
use Rattle.plan.specs.declared.Use.TheVariants.{Counts}
use Rattle.client.specs.declared.Client.{Client}
use Rattle.client.specs.Client.{stage_of, stage_of_number}
use Rattle.document03.specs.Scheme as D
use Rattle.document03.specs.Service as S

abbrev pub plan_of_numbers : (k u t m : ℕ) → Plan
plan_of_numbers k u t m = record { users = k; threshold = u; collusion = t; blocks = m }

abbrev pub our_plan : D.Plan → Plan
our_plan p = plan_of_numbers p.k p.u p.t p.m

pub record ClientOf (k u t m a own g : ℕ) (c : Client) : Type 0 where
  pub plan : c.plan ≡ record { users = k; threshold = u; collusion = t; blocks = m }
  pub user : c.user ≡ a
  pub usage : c.usage ≡ Counts
  pub round : c.round ≡ own
  pub stage : stage_of c.stage ≡ stage_of_number g

-- ---- the service
unfoldable pub our_phase : ℕ → Phase
our_phase zero = unplanned
our_phase (suc zero) = idle
our_phase (suc (suc zero)) = gathering
our_phase (suc (suc (suc zero))) = replying
our_phase (suc (suc (suc (suc n)))) = idle

-- the latest element of an airfield's place counts
unfoldable pub our_held : List S.Held → (k at : ℕ) → Option ℕ
our_held [] = nothing
our_held (h ∷ hs) = with_element h.k h.at h.value (our_held hs)

abbrev pub our_state : S.State → State
our_state s =
    record {
      phase = our_phase s.phase;
      plan = our_plan s.plan_of;
      round = s.round;
      survivors = s.survivors;
      firsts = our_held s.firsts;
      replies = our_held s.replies;
    }

unfoldable pub our_record : S.Record → Record
our_record (S.a_plan p) = plan_record (our_plan p)
our_record (S.open_round r) = open_record r
our_record (S.first_element k i x) = first_record k i x
our_record S.close_round = close_record
our_record (S.reply_element k b x) = reply_record k b x
our_record S.finish_round = finish_record

unfoldable pub repeats : S.Record → S.State → Bool
repeats (S.a_plan p) s = false
repeats (S.open_round r) s = false
repeats (S.first_element k i x) s = S.held k i s.firsts && eqb (S.held_value k i s.firsts) x
repeats S.close_round s = false
repeats (S.reply_element k b x) s = S.held k b s.replies && eqb (S.held_value k b s.replies) x
repeats S.finish_round s = false

-- document 03's line, but for item 5 of document 02: a repeat is taken quietly, and 13 is for another element alone
unfoldable pub answer_in : S.Record → S.State → S.Line → Answer
answer_in r s S.silent = silent
answer_in r s (S.told_plan p) = planned (our_plan p)
answer_in r s (S.told_open n) = opened n
answer_in r s (S.told_close n v) = closed n v
answer_in r s (S.told_total n l) = totalled n 0 l
answer_in r s (S.refused n) = cond (repeats r s && eqb n 13) silent (refused n)

-- ---- item 6 of document 02, in document 03's words: one reply set aside
-- an airfield whose reply is complete, and sums and noise that explain those of all others
pub record Fits (s : S.State) (k : ℕ) (f : ℕ → List ℕ) : Type 0 where
  pub many : s.plan_of.u + 2 ≤ D.ones s.plan_of.k (S.replied s)
  pub low : 1 ≤ k
  pub high : k ≤ s.plan_of.k
  pub inside : D.in_set (S.replied s) k ≡ true
  pub others : (b : ℕ) → b < s.plan_of.m → S.explains s.plan_of (without (S.replied s) k) b s.replies (f b) ≡ true

-- 16 stays where none fits; where one does, ours names it, tells the total of all survivors and is idle, as after every total
pub data Beside (s : S.State) : S.Record → S.Line → S.State → Answer → S.State → Type 0 where
  same : (r : S.Record) (l : S.Line) (t : S.State) → l ≢ S.refused 16 → Beside s r l t (answer_in r s l) t
  apart : ((k : ℕ) (f : ℕ → List ℕ) → Fits s k f → ⊥) → Beside s S.finish_round (S.refused 16) s (refused 16) s
  aside : (k : ℕ) (f : ℕ → List ℕ) → Fits s k f →
      Beside s S.finish_round (S.refused 16) s (totalled s.round k (S.totals s f)) (S.idle_again s)
