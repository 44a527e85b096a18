-- plan_good and its facts, both ways.
--   good, good_back   from the test to the facts and back
--   bad               the test is false where the facts fail
-- Assumes nothing.
use mathlib.Core.Path.{◌≡◌}
use mathlib.Core.Bool.{true, false}
use borrow.Author.Tests.{le-leb, lt-ltb, leb-true, ltb-true}
use Rattle.scheme.specs.Scheme.{Plan, plan_good}
use Rattle.scheme.specs.Good.{Good}
use Rattle.scheme.proofs.Tests.{and_both, is_false}

pub good : (p : Plan) → plan_good p ≡ true → Good p
unfolding plan_good
good p h =
    let s = and_both _ _ h in
    let us = and_both _ _ s.0 in
    let u = and_both _ _ us.0 in
    let c = and_both _ _ us.1 in
    let tb = and_both _ _ s.1 in
    let b = and_both _ _ tb.1 in
    record {
      users_low = leb-true _ _ u.0;
      users_high = leb-true _ _ u.1;
      collusion_low = leb-true _ _ c.0;
      collusion_high = ltb-true _ _ c.1;
      threshold_high = ltb-true _ _ tb.0;
      blocks_low = leb-true _ _ b.0;
      blocks_high = leb-true _ _ b.1;
    }

pub good_back : (p : Plan) → Good p → plan_good p ≡ true
unfolding plan_good
good_back p g = simp (
  le-leb _ _ g.users_low,
  le-leb _ _ g.users_high,
  le-leb _ _ g.collusion_low,
  lt-ltb _ _ g.collusion_high,
  lt-ltb _ _ g.threshold_high,
  le-leb _ _ g.blocks_low,
  le-leb _ _ g.blocks_high,
)

pub bad : (p : Plan) → (Good p → ⊥) → plan_good p ≡ false
bad p h = is_false (plan_good p) (λ e. h (good p e))
