-- What each call of the service answers and leaves, for every state value.
--   new_service                            before any record
--   plan_step, open_step, first_step, close_step, reply_step     the calls, one for each kind of record
--   by_refusal                             what a call hands back of its refusal and of the state that it leads to
--   Stepped, Closed                        what a call answers and leaves: document 01's number, the survivors' set of a close, the state
--   lent                                   the state where head and arrays stand apart
--   named_by, stepped, closing             what the code's answer says in these words, with the state that it leaves
--   first_refusal, first_left, reply_refusal, reply_left     what the leaves of elements answer and leave, over an arithmetic
-- On a well-formed state no guard ever acts: a state whose plan is not good, or an index past an array, is none that calls make.
-- Assumes nothing: these are definitions.
use Rattle.std.specs.Prelude.{List, ℕ, Result, Ok, Err, ltb, leb, get_or, replicate}
use Rattle.scheme.specs.Limits.{most_blocks, most_places, firsts, cells}
use Rattle.scheme.specs.Scheme.{Arithmetic, plan_good, places, in_set, ones, ◌then◌, unless, after}
use Rattle.scheme.specs.Service.{plan_missing, second_plan, not_gathering, not_replying, element_refusal, takes, gathered}
use Rattle.plan.specs.declared.Plan.{Plan}
use Rattle.plan.specs.declared.refusal.Refusal.{Refusal}
use Rattle.plan.specs.Plan.{plan_of}
use Rattle.plan.specs.Numbers.{numbered}
use Rattle.service.specs.declared.Phase.TheVariants.{Unplanned, Idle, Gathering, Replying}
use Rattle.service.specs.declared.Head.{Head}
use Rattle.service.specs.declared.Service.{Service}
use Rattle.service.specs.View.{phase_of, stored, slot, put, view}

unfoldable pub nothing_first : List ℕ
nothing_first = replicate firsts 0

unfoldable pub nothing_reply : List ℕ
nothing_reply = replicate cells 0

-- number 0 is for a call that is taken, and a refused close names no set
pub record Stepped : Type 0 where
  pub number : ℕ
  pub service : Service

pub record Closed : Type 0 where
  pub number : ℕ
  pub set : ℕ
  pub service : Service

-- the leaves of the calls take head and arrays apart
abbrev pub lent : Head → (first reply : List ℕ) → Service
lent h xs ys = record { head = h; first = xs; reply = ys }

abbrev pub stepped : Result (Unit {0}) Refusal → Service → Stepped
stepped r s = record { number = numbered r; service = s }

abbrev pub named_by : Result ℕ Refusal → ℕ
named_by (Ok v) = v
named_by (Err r) = 0

abbrev pub closing : Result ℕ Refusal → Service → Closed
closing r s = record { number = numbered r; set = named_by r; service = s }

abbrev pub by_refusal : (refusal : ℕ) → (new old : Service) → Stepped
by_refusal n new old = record { number = n; service = after n new old }

abbrev pub no_plan : Plan
no_plan = record { users = 0; threshold = 0; collusion = 0; blocks = 0 }

unfoldable pub new_service : Service
new_service =
    record {
      head = record { phase = Unplanned; plan = no_plan; places = 0; round = 0; survivors = 0 };
      first = nothing_first;
      reply = nothing_reply;
    }

-- ---- plan: 11, 1
unfoldable pub plan_refusal : Head → Plan → ℕ
plan_refusal h p = second_plan (phase_of h.phase) then unless (plan_good (plan_of p)) 1

unfoldable pub planned : Plan → Service
planned p =
    record {
      head = record { phase = Idle; plan = p; places = places (plan_of p); round = 0; survivors = 0 };
      first = nothing_first;
      reply = nothing_reply;
    }

unfoldable pub plan_step : Service → Plan → Stepped
plan_step s p = by_refusal (plan_refusal s.head p) (planned p) s

-- ---- open: 11, 17
unfoldable pub open_refusal : Head → (round : ℕ) → ℕ
open_refusal h r = plan_missing (phase_of h.phase) then unless (ltb h.round r) 17

unfoldable pub opened : Head → (round : ℕ) → Service
opened h r =
    record {
      head = record { phase = Gathering; plan = h.plan; places = h.places; round = r; survivors = 0 };
      first = nothing_first;
      reply = nothing_reply;
    }

unfoldable pub open_step : Service → (round : ℕ) → Stepped
open_step s r = by_refusal (open_refusal s.head r) (opened s.head r) s

-- ---- first element: 11, 12, 4, 8, 3, 13
unfoldable pub first_refusal : Arithmetic → Head → (first : List ℕ) → (k place element : ℕ) → ℕ
first_refusal A h xs k i x =
    not_gathering (phase_of h.phase) then element_refusal A h.plan.users h.places k i x
    then unless (ltb (slot most_places k i) firsts) 8 then unless (takes (stored (get_or xs (slot most_places k i) 0)) x) 13

unfoldable pub first_left : Arithmetic → Head → (first : List ℕ) → (k place element : ℕ) → List ℕ
first_left A h xs k i x = after (first_refusal A h xs k i x) (put most_places xs k i x) xs

unfoldable pub first_step : Arithmetic → Service → (k place element : ℕ) → Stepped
first_step A s k i x =
    record {
      number = first_refusal A s.head s.first k i x;
      service = record { head = s.head; first = first_left A s.head s.first k i x; reply = s.reply };
    }

-- ---- reply element: 11, 12, 4, 8, 3, 14, 13
unfoldable pub reply_refusal : Arithmetic → Head → (reply : List ℕ) → (k block element : ℕ) → ℕ
reply_refusal A h ys k b x =
    not_replying (phase_of h.phase) then element_refusal A h.plan.users h.plan.blocks k b x
    then unless (ltb (slot most_blocks k b) cells) 8 then unless (in_set h.survivors k) 14
    then unless (takes (stored (get_or ys (slot most_blocks k b) 0)) x) 13

unfoldable pub reply_left : Arithmetic → Head → (reply : List ℕ) → (k block element : ℕ) → List ℕ
reply_left A h ys k b x = after (reply_refusal A h ys k b x) (put most_blocks ys k b x) ys

unfoldable pub reply_step : Arithmetic → Service → (k block element : ℕ) → Stepped
reply_step A s k b x =
    record {
      number = reply_refusal A s.head s.reply k b x;
      service = record { head = s.head; first = s.first; reply = reply_left A s.head s.reply k b x };
    }

-- ---- close: 11, 12, 15
unfoldable pub close_refusal : Service → ℕ
close_refusal s =
    not_gathering (phase_of s.head.phase) then unless (plan_good (plan_of s.head.plan)) 15
    then unless (leb s.head.plan.threshold (ones s.head.plan.users (gathered (view s)))) 15

unfoldable pub closed : Service → (survivors : ℕ) → Service
closed s v =
    record {
      head = record { phase = Replying; plan = s.head.plan; places = s.head.places; round = s.head.round; survivors = v };
      first = s.first;
      reply = nothing_reply;
    }

-- a refused close names no set
unfoldable pub close_step : Service → Closed
close_step s =
    record {
      number = close_refusal s;
      set = after (close_refusal s) (gathered (view s)) 0;
      service = after (close_refusal s) (closed s (gathered (view s))) s;
    }
