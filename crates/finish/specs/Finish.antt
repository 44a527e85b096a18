-- What the finish call answers and leaves, for every state value, over an arithmetic with its laws.
--   rows_of, values_of, columns   the users of a set, and their replies of a block, in a place for each user; the columns' points
--   finished, finish_refused      the state after a finish; what a refused one answers and leaves
--   aside_told                    the user whom a call says it set aside, 0 if none
--   Finished, finishing           what the call answers and leaves: the number, the user set aside, 0 if none, the totals, and the state
--   all_elements                  replies that are elements
--   choice_of                     the sums and noise of each block: the closed solution of the first U replies of a set
--   agree, fitting                whether it explains all of them; the users without whose reply it does
--   aside_of, heard, is_settled   the user set aside, 0 if none; whose replies count; whether there is no 16
--   choice                        the sums and noise that the totals go by
--   finish_refusal                11, 12, 15, 16; on a well-formed state the tests of the plan and of the elements never act
--   finish_answer, finish_step    the whole answer, of a refusal's number and of a state
-- Assumes nothing: these are definitions.
use Rattle.std.specs.Prelude.{unwrap_or, Option, Result, Ok, Err, Bool, cond, ◌&&◌, ◌||◌, List, map, ℕ, ◌+◌, ltb, leb, length, get_or, replicate}
use Rattle.scheme.specs.Limits.{most_users, most_threshold, most_places}
use Rattle.scheme.specs.Lists.{span, members, all_of, padded}
use Rattle.scheme.specs.Scheme.{Arithmetic, Plan, plan_good, in_set, ones, users_in, ◌then◌, unless, after}
use Rattle.scheme.specs.Laws.{Laws}
use Rattle.scheme.specs.Solve.{unknown_at}
use Rattle.scheme.specs.Totals.{explains_all}
use Rattle.scheme.specs.Aside.{without}
use Rattle.scheme.specs.Service.{not_replying, replied, values, totals_by}
use Rattle.plan.specs.declared.refusal.Refusal.{Refusal}
use Rattle.plan.specs.Numbers.{number_of}
use Rattle.plan.specs.Plan.{plan_of}
use Rattle.service.specs.declared.Phase.TheVariants.{Idle}
use Rattle.service.specs.declared.Head.{Head}
use Rattle.service.specs.declared.Service.{Service}
use Rattle.service.specs.View.{phase_of, view}
use Rattle.service.specs.Calls.{nothing_first, nothing_reply}
use Rattle.finish.specs.declared.Total.{Total}

unfoldable pub rows_of : Plan → (set : ℕ) → List ℕ
rows_of p r = padded most_users (users_in p r)

unfoldable pub values_of : Plan → (set : ℕ) → (replies : (k block : ℕ) → ℕ) → (block : ℕ) → List ℕ
values_of p r y b = padded most_users (map (λ k. y k b) (users_in p r))

-- column i, from 0 on, is at the point i + 1
abbrev pub columns : List ℕ
columns = padded most_users (span most_threshold 1)

unfoldable pub finished : Head → Service
finished h =
    record {
      head = record { phase = Idle; plan = h.plan; places = h.places; round = h.round; survivors = 0 };
      first = nothing_first;
      reply = nothing_reply;
    }

pub record Finished : Type 0 where
  pub number : ℕ
  pub aside : ℕ
  pub totals : List ℕ
  pub service : Service

-- a refused finish hands back its number alone: no user is set aside, and the totals are 0
abbrev pub finish_refused : (number : ℕ) → Service → Finished
finish_refused n s = record { number = n; aside = 0; totals = replicate most_places 0; service = s }

abbrev pub aside_told : Result (Option ℕ) Refusal → ℕ
aside_told (Ok k) = unwrap_or k 0
aside_told (Err r) = 0

-- what a call handed back, and the state after it
abbrev pub finishing : Result Total Refusal → Service → Finished
finishing (Ok t) s = record { number = 0; aside = unwrap_or t.aside 0; totals = t.totals; service = s }
finishing (Err r) s = finish_refused (number_of r) s

-- no state that calls make has a reply that is no element
unfoldable pub all_elements : Arithmetic → Plan → (set : ℕ) → (replies : (k block : ℕ) → ℕ) → Bool
all_elements A p r y = all_of (λ k. all_of (λ b. ltb (y k b) A.size) (span p.blocks 0)) (users_in p r)

module _ (A : Arithmetic) (L : Laws A most_users most_threshold) where
  unfoldable pub choice_of : Plan → (set : ℕ) → (replies : (k block : ℕ) → ℕ) → (block : ℕ) → List ℕ
  choice_of p r y b = map (unknown_at A L (rows_of p r) columns (values_of p r y b) p.threshold) (span p.threshold 0)

  unfoldable pub agree : Plan → (set : ℕ) → (replies : (k block : ℕ) → ℕ) → Bool
  agree p r y = explains_all A p r y (choice_of p r y)

  -- the users without whose reply the others agree
  unfoldable pub fitting : Plan → (set : ℕ) → (replies : (k block : ℕ) → ℕ) → List ℕ
  fitting p r y = members (λ k. in_set r k && agree p (without r k) y) p.users 1

  unfoldable pub aside_of : Plan → (set : ℕ) → (replies : (k block : ℕ) → ℕ) → ℕ
  aside_of p r y = cond (agree p r y) 0 (get_or (fitting p r y) 0 0)

  unfoldable pub heard : Plan → (set : ℕ) → (replies : (k block : ℕ) → ℕ) → ℕ
  heard p r y = cond (agree p r y) r (without r (aside_of p r y))

  unfoldable pub is_settled : Plan → (set : ℕ) → (replies : (k block : ℕ) → ℕ) → Bool
  is_settled p r y = agree p r y || (leb (p.threshold + 2) (ones p.users r) && ltb 0 (length (fitting p r y)))

  unfoldable pub choice : Service → (block : ℕ) → List ℕ
  choice s =
      let p = plan_of s.head.plan in
      let y = values (view s).replies in
      choice_of p (heard p (replied (view s)) y) y

  unfoldable pub finish_refusal : Service → ℕ
  finish_refusal s =
      let p = plan_of s.head.plan in
      let r = replied (view s) in
      let y = values (view s).replies in
      not_replying (phase_of s.head.phase) then unless (plan_good p) 15 then unless (leb p.threshold (ones p.users r)) 15
      then unless (all_elements A p r y && is_settled p r y) 16

  unfoldable pub finish_answer : (refusal : ℕ) → Service → Finished
  finish_answer n s =
      record {
        number = n;
        aside = after n (aside_of (plan_of s.head.plan) (replied (view s)) (values (view s).replies)) 0;
        totals = after n (padded most_places (totals_by A (view s) (choice s))) (replicate most_places 0);
        service = after n (finished s.head) s;
      }

  unfoldable pub finish_step : Service → Finished
  finish_step s = finish_answer (finish_refusal s) s
