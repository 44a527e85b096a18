-- `stream::take_reply` meets its contract: the bytes are read as the record has them, and the service's call holds the element;
-- behind an accepted one the run takes those that follow.
-- Assumes nothing.
use Rattle.std.proofs.Common.{refl, ap, arith}
use Rattle.stream.specs.Stream.{record_length, in_silence}
use Rattle.stream.proofs.Turns.{record_reply, reply_says}
use Rattle.stream.proofs.Runs.{taken_silently, refused_alone, reply_accepted}
use Rattle.stream.proofs.take_reply.Goals as goal

pub byte_at-user-requires : goal.byte_at-user-requires
unfolding record_length
byte_at-user-requires c = omega (arith, ap record_length c.requires.2)

pub byte_at-block-requires : goal.byte_at-block-requires
unfolding record_length
byte_at-block-requires c = omega (arith, ap record_length c.requires.2)

pub two_at-element-requires : goal.two_at-element-requires
unfolding record_length
two_at-element-requires c = omega (arith, ap record_length c.requires.2)

pub run_reply-end-requires : goal.run_reply-end-requires
unfolding record_length
run_reply-end-requires c =
    let a = reply_accepted _ _ _ _ c.in-Ok.ensures in
    (omega (arith, ap record_length c.requires.2), a.0, a.1)

pub returns-in-Ok : goal.returns-in-Ok
unfolding record_length
returns-in-Ok c =
    let kind = c.requires.2 in
    let said = reply_says _ _ _ _ (rw (c.byte_at-user.ensures, c.byte_at-block.ensures, c.two_at-element.ensures.0) at c.in-Ok.ensures) in
    let one = taken_silently (record_reply _ _ kind) (ap record_length kind) (omega arith) (omega (arith, ap record_length kind)) said in
    in_silence _ _ one (c.run_reply-end.ensures _) refl refl

pub returns-in-Err : goal.returns-in-Err
unfolding record_length
returns-in-Err c =
    let kind = c.requires.2 in
    let said = reply_says _ _ _ _ (rw (c.byte_at-user.ensures, c.byte_at-block.ensures, c.two_at-element.ensures.0) at c.in-Err.ensures) in
    refused_alone (record_reply _ _ kind) (ap record_length kind) _ said c.put_refusal-wrote.ensures.put
