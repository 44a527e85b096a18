-- `stream::feed` meets its contract: Feeding.fed_far, and else feed_records.
-- Assumes nothing.
use Rattle.std.proofs.Common.{refl, arith}
use Rattle.stream.specs.Stream.{items_from, items, answers, text, lines}
use Rattle.stream.proofs.Feeding.{fed_far}
use Rattle.stream.proofs.feed.Goals as goal

pub returns-then-offset-b : goal.returns-then-offset-b
unfolding items items_from lines answers text
returns-then-offset-b c = record { result = fed_far _ _ _ _ (omega arith); left = refl }
