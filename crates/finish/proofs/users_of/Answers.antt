-- `finish::users_of` meets its contract. The loop's invariant: the users below `user` are written, in order. Assumes nothing.
use Rattle.std.proofs.Common.{sym, ◌+◌, arith}
use Rattle.scheme.specs.Scheme.{in_set, users_in}
use Rattle.finish.specs.Finish.{rows_of}
use Rattle.finish.proofs.Turns.{Listing, listing_start, listing_more_in, listing_more_out, listing_end}
use Rattle.finish.proofs.users_of.Goals as goal
use Rattle.finish.proofs.users_of.Goals.{then-holds, else-holds}

pub loop-user-init : goal.loop-user-init
loop-user-init c = (omega arith, listing_start _)

pub loop-user-preserved : goal.loop-user-preserved
loop-user-preserved c =
    let l = c.loop-user in (
      omega (arith, c.loop-user-test.true),
      elim c.if-holds.branch [
        | then-holds w ↦ rw (w.list-is, w.count-is)
            (listing_more_in _ l.user _ _ l.invariant.1 (omega (arith, c.loop-user-test.true)) (sym w.if-holds.ensures))
        | else-holds w ↦ rw (w.list-is, w.count-is) (listing_more_out _ l.user _ _ l.invariant.1 (sym w.if-holds.ensures))
      ],
    )

pub returns : goal.returns
unfolding rows_of users_in
returns c =
    let e = listing_end _ _ _ _ c.loop-user.invariant.1 c.args.plan.users (omega (arith, c.loop-user.invariant.0)) in
    record { list_right = e.0; count_right = e.1 }

-- behind the last user
pub returns-after-holds : goal.returns-after-holds
unfolding rows_of users_in
returns-after-holds c =
    let l = c.loop-user in
    let all : Listing (in_set c.args.set) (l.user + 1) c.if-holds.list c.if-holds.count = elim c.if-holds.branch [
      | then-holds w ↦ rw (w.list-is, w.count-is)
          (listing_more_in _ l.user _ _ l.invariant.1 (omega (arith, c.loop-user-test.true)) (sym w.if-holds.ensures))
      | else-holds w ↦ rw (w.list-is, w.count-is) (listing_more_out _ l.user _ _ l.invariant.1 (sym w.if-holds.ensures))
    ] in
    let e = listing_end _ _ _ _ all c.args.plan.users (omega (arith, c.loop-user-test.true)) in
    record { list_right = e.0; count_right = e.1 }
