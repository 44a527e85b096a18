-- The promises on lent arrays: what they stand for.
--   new_stands     zeros are a new service
--   stands         the arrays of a state stand for it
--   calls_stand    call by call
-- Assumes nothing.
use Rattle.std.proofs.Common.{◌≡◌, refl, ap, ℕ, zero, suc}
use Rattle.service.specs.declared.Phase.{Phase}
use Rattle.service.specs.declared.Phase.TheVariants.{Unplanned, Idle, Gathering, Replying}
use Rattle.service.specs.declared.Service.{Service}
use Rattle.service.specs.Calls.{nothing_first, nothing_reply, new_service, plan_step, open_step, first_step, reply_step, close_step}
use Rattle.scheme.specs.Scheme.{after}
use Rattle.finish.specs.Finish.{finish_answer, finish_step}
use Rattle.capi.specs.Lent.{Arrays, arrays_of, phase_at, phase_number, head_at, numbers, state, plan_left, open_left, close_left, finish_left}
use Rattle.capi.specs.Promise.{NewStands, CallsStand}

pub new_stands : NewStands
unfolding NewStands head_at phase_at numbers phase_number new_service nothing_first nothing_reply
new_stands = (refl, refl)

phase_back : (g : Phase) → phase_at (phase_number g) ≡ g
unfolding phase_at phase_number
phase_back Unplanned = refl
phase_back Idle = refl
phase_back Gathering = refl
phase_back Replying = refl

stands : (s : Service) → state (arrays_of s) ≡ s
unfolding head_at numbers
stands s =
    ap (λ (g : Phase). record {
      head = record { phase = g; plan = s.head.plan; places = s.head.places; round = s.head.round; survivors = s.head.survivors };
      first = s.first;
      reply = s.reply;
    }) (phase_back s.head.phase)

module _ (a : Arrays) where
  after_stands : (n : ℕ) (s : Service) → state (after n (arrays_of (after n s (state a))) a) ≡ after n s (state a)
  unfolding after
  after_stands zero s = stands s
  after_stands (suc n) s = refl

  pub calls_stand : CallsStand a
  unfolding plan_left open_left close_left finish_left plan_step open_step first_step close_step reply_step finish_step finish_answer
  calls_stand =
      record {
        plan_stands = λ p. after_stands _ _;
        open_stands = λ r. after_stands _ _;
        first_stands = λ k i x. refl;
        close_stands = after_stands _ _;
        reply_stands = λ k b x. refl;
        finish_stands = after_stands _ _;
      }
