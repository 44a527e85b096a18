-- The pooling service where its state stands in three arrays that the caller lends.
--   head_length, Arrays, arrays, zeros    the lent arrays, and those of a new service
--   phase_at, head_at, state           what they stand for
--   phase_number, numbers, arrays_of   the arrays of a state
--   plan_left, open_left, close_left, finish_left     what each call leaves in them: the arrays of the new state, or after a refusal as
--                                      they came; the element calls leave first_left and reply_left
--   closed_answer, finished_answer     what close and finish hand back
--   finish_totals                      the buffer that finish writes
-- Assumes nothing: these are definitions.
use Rattle.std.specs.Prelude.{List, [], ◌∷◌, ℕ, zero, suc, get_or, replicate}
use Rattle.scheme.specs.Limits.{firsts, cells}
use Rattle.scheme.specs.Scheme.{sixteen, after}
use Rattle.solve.specs.Solve.{laws16}
use Rattle.plan.specs.declared.Plan.{Plan}
use Rattle.service.specs.declared.Phase.{Phase}
use Rattle.service.specs.declared.Phase.TheVariants.{Unplanned, Idle, Gathering, Replying}
use Rattle.service.specs.declared.Head.{Head}
use Rattle.service.specs.declared.Service.{Service}
use Rattle.service.specs.Calls.{Closed, plan_step, open_step, close_step}
use Rattle.finish.specs.Finish.{Finished, finish_step}
use Rattle.plan.specs.Plan.{code_plan}
use Rattle.capi.specs.declared.pooling.CutawhenoClosed.{CutawhenoClosed}
use Rattle.capi.specs.declared.pooling.CutawhenoFinished.{CutawhenoFinished}

abbrev pub head_length : ℕ
head_length = 8

-- head: phase, users, threshold, collusion, blocks, places, round, survivors; first and reply: as the service keeps them
pub record Arrays : Type 0 where
  pub head : List ℕ
  pub first : List ℕ
  pub reply : List ℕ

abbrev pub arrays : (head first reply : List ℕ) → Arrays
arrays h xs ys = record { head = h; first = xs; reply = ys }

abbrev pub zeros : Arrays
zeros = arrays (replicate head_length 0) (replicate firsts 0) (replicate cells 0)

-- a number that no call leaves, above 3, is read as replying
unfoldable pub phase_at : ℕ → Phase
phase_at zero = Unplanned
phase_at (suc zero) = Idle
phase_at (suc (suc zero)) = Gathering
phase_at (suc (suc (suc n))) = Replying

unfoldable pub phase_number : Phase → ℕ
phase_number Unplanned = 0
phase_number Idle = 1
phase_number Gathering = 2
phase_number Replying = 3

unfoldable pub head_at : List ℕ → Head
head_at h =
    record {
      phase = phase_at (get_or h 0 0);
      plan = code_plan (get_or h 1 0) (get_or h 2 0) (get_or h 3 0) (get_or h 4 0);
      places = get_or h 5 0;
      round = get_or h 6 0;
      survivors = get_or h 7 0;
    }

unfoldable pub numbers : Head → List ℕ
numbers h =
    phase_number h.phase ∷ h.plan.users ∷ h.plan.threshold ∷ h.plan.collusion ∷ h.plan.blocks ∷ h.places ∷ h.round ∷ h.survivors ∷ []

abbrev pub state : Arrays → Service
state a = record { head = head_at a.head; first = a.first; reply = a.reply }

abbrev pub arrays_of : Service → Arrays
arrays_of s = arrays (numbers s.head) s.first s.reply

unfoldable pub plan_left : Arrays → Plan → Arrays
plan_left a p = let t = plan_step (state a) p in after t.number (arrays_of t.service) a

unfoldable pub open_left : Arrays → (round : ℕ) → Arrays
open_left a r = let t = open_step (state a) r in after t.number (arrays_of t.service) a

unfoldable pub close_left : Arrays → Arrays
close_left a = let t = close_step (state a) in after t.number (arrays_of t.service) a

abbrev pub closed_answer : Closed → CutawhenoClosed
closed_answer t = record { number = t.number; set = t.set }

abbrev pub finished_answer : Finished → CutawhenoFinished
finished_answer t = record { number = t.number; aside = t.aside }

unfoldable pub finish_left : Arrays → Arrays
finish_left a = let t = finish_step sixteen laws16 (state a) in after t.number (arrays_of t.service) a

unfoldable pub finish_totals : Arrays → (old : List ℕ) → List ℕ
finish_totals a old = let t = finish_step sixteen laws16 (state a) in after t.number t.totals old
