-- What a service's state stands for in scheme/specs/Service.antt.
--   phase_of           document 01's phase of the enum
--   held_as, stored    an element is held as itself plus 1, and 0 stands where none is held
--   left_in            what a place holds once an element has come, both as they are held
--   row_start, slot    user k's elements stand together, from (k - 1) * stride on
--   put                an array with one element more
--   look, held_in      what an array holds of a user; the element, or 0 where none is held
--   row_held           the n elements from one on are all held
--   view               the state
--   Formed             well-formed states: those that calls make
-- Assumes nothing: these are definitions.
use Rattle.std.specs.Prelude.{◌≡◌, Bool, true, ◌&&◌, not, cond, List, ℕ, zero, suc, ◌+◌, ◌*◌, ◌-◌, ltb, leb, eqb, length, get_or, set}
use Rattle.std.proofs.Math.Option.{Option, none, some}
use Rattle.scheme.specs.Limits.{most_users, most_blocks, most_places, firsts, cells}
use Rattle.scheme.specs.Lists.{span, all_of}
use Rattle.scheme.specs.Scheme.{Arithmetic, places}
use Rattle.scheme.specs.Service as scheme
use Rattle.plan.specs.Plan.{plan_of}
use Rattle.service.specs.declared.Phase.{Phase}
use Rattle.service.specs.declared.Phase.TheVariants.{Unplanned, Idle, Gathering, Replying}
use Rattle.service.specs.declared.Service.{Service}

unfoldable pub phase_of : Phase → scheme.Phase
phase_of Unplanned = scheme.unplanned
phase_of Idle = scheme.idle
phase_of Gathering = scheme.gathering
phase_of Replying = scheme.replying

-- ---- an element in an array, there and back
abbrev pub held_as : (element : ℕ) → ℕ
held_as x = x + 1

unfoldable pub stored : ℕ → Option ℕ
stored zero = none
stored (suc x) = some x

unfoldable pub left_in : (held new : ℕ) → ℕ
left_in zero n = n
left_in (suc h) n = suc h

abbrev pub row_start : (stride k : ℕ) → ℕ
row_start w k = (k - 1) * w

abbrev pub slot : (stride k at : ℕ) → ℕ
slot w k i = row_start w k + i

abbrev pub put : (stride : ℕ) → List ℕ → (k at element : ℕ) → List ℕ
put w xs k i x = set xs (slot w k i) (held_as x)

unfoldable pub look : (stride : ℕ) → List ℕ → (k at : ℕ) → Option ℕ
look w xs k i = cond (leb 1 k && (leb k most_users && ltb i w)) (stored (get_or xs (slot w k i) 0)) none

abbrev pub held_in : (stride : ℕ) → List ℕ → (k at : ℕ) → ℕ
held_in w xs = scheme.values (look w xs)

unfoldable pub row_held : List ℕ → (start n : ℕ) → Bool
row_held xs start n = all_of (λ i. not (eqb (get_or xs (start + i) 0) 0)) (span n 0)

-- ---- the state
unfoldable pub view : Service → scheme.State
view s =
    record {
      phase = phase_of s.head.phase;
      plan = plan_of s.head.plan;
      round = s.head.round;
      survivors = s.head.survivors;
      firsts = look most_places s.first;
      replies = look most_blocks s.reply;
    }

-- the places of the plan stand ready, the arrays have their lengths, and the state is one that records lead to
pub record Formed (A : Arithmetic) (s : Service) : Type 0 where
  pub ready : scheme.has_plan (phase_of s.head.phase) ≡ true → s.head.places ≡ places (plan_of s.head.plan)
  pub first_length : length s.first ≡ firsts
  pub reply_length : length s.reply ≡ cells
  pub well : scheme.Well A (view s)
