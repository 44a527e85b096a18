-- The radio link repeats records: the exported calls, over the arrays that the caller lends.
--   HeldRight       an element call where one is held, whatever the arrays hold: a repeat is taken and leaves the array as it was, and 13 is
--                    for another element alone
--   RepeatsQuiet    calls to which repeats are added, on arrays from zeros: they answer what they answered, and repeats are taken in silence
-- Assumes nothing: these are definitions.
use Rattle.std.specs.Prelude.{◌≡◌, List, [], map, ℕ}
use Rattle.scheme.specs.Limits.{most_blocks, most_places}
use Rattle.scheme.specs.Service.{Answer}
use Rattle.scheme.specs.Repeats.{Repeats}
use Rattle.service.specs.View.{view}
use Rattle.service.specs.Calls.{nothing_first, nothing_reply}
use Rattle.service.specs.Promise as service
use Rattle.capi.specs.Lent.{Arrays, arrays, zeros, state}
use Rattle.exported.specs.Runs.{Call, first_call, reply_call, record_of, number_of, leaves, run, answers}

pub record HeldRight (a : Arrays) : Type 0 where
  pub first : let lent : List ℕ → Arrays = λ xs. arrays a.head xs a.reply in service.HeldRight most_places nothing_first
      (λ xs k i x. number_of (first_call k i x) (lent xs)) (λ xs k i x. (leaves (first_call k i x) (lent xs)).first)
  pub reply : let lent : List ℕ → Arrays = λ ys. arrays a.head a.first ys in service.HeldRight most_blocks nothing_reply
      (λ ys k b x. number_of (reply_call k b x) (lent ys)) (λ ys k b x. (leaves (reply_call k b x) (lent ys)).reply)

unfoldable pub RepeatsQuiet : Type 0
RepeatsQuiet =
    (cs ds : List Call) (m : List Answer) → Repeats [] (map record_of cs) (answers cs zeros) (map record_of ds) m →
    (answers ds zeros ≡ m) × (view (state (run ds zeros)) ≡ view (state (run cs zeros)))
