-- `stream::take_total` meets its contract: the call's answer decides the line.
-- Assumes nothing.
use Rattle.std.proofs.Common.{refl, sym, ap}
use Rattle.finish.specs.Finish.{Finished}
use Rattle.stream.proofs.Turns.{turn_taken, turn_refused, finish_says, finish_good}
use Rattle.stream.proofs.take_total.Goals as goal

pub places_of-places-requires : goal.places_of-places-requires
places_of-places-requires c = finish_good _ (sym (ap (λ (r : Finished). r.number) c.in-Ok.ensures.step))

pub returns-in-Ok : goal.returns-in-Ok
returns-in-Ok c = turn_taken _ (finish_says _ c.places_of-places.ensures.0 c.in-Ok.ensures.step) (c.put_total.ensures.put _)

pub returns-in-Err : goal.returns-in-Err
returns-in-Err c = turn_refused _ _ (finish_says _ refl c.in-Err.ensures.step) c.put_refusal.ensures.put
