-- `stream::cut` meets its contract: the line of refusal 7, where there is room for a line.
-- Assumes nothing.
use Rattle.std.proofs.Common.{◌∙◌, zero-add, le-leb}
use borrow.Author.Tests.{lt-leb}
use Rattle.stream.specs.Stream.{cut_length, cut_left}
use Rattle.stream.proofs.cut.Goals as goal

pub returns-then-out-lt-LINE : goal.returns-then-out-lt-LINE
unfolding cut_length cut_left
returns-then-out-lt-LINE c = let h = lt-leb _ _ c.if-out-lt-LINE.true in record { length = simp h; left = simp h }

pub returns : goal.returns
unfolding cut_length cut_left
returns c =
    let p = c.put_refusal.ensures.put in
    let h = le-leb _ _ c.if-out-lt-LINE.false in
    record { length = rw h (p.place ∙ zero-add _); left = rw h p.bytes }
