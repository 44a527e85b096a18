-- `finish::users_of` meets its contract. The loop's invariant: the users below `user` are written, in order. Assumes nothing.
use Rattle.std.proofs.Common.{◌+◌, ◌≤◌}
use Rattle.scheme.specs.Scheme.{in_set}
use Rattle.finish.proofs.Turns.{Listing}
use Rattle.finish.proofs.users_of.Given as goal

abbrev pub invariant-loop-user : goal.invariant-loop-user
invariant-loop-user l = (l.user ≤ l.user-end + 1) × Listing (in_set l.set) l.user l.list l.count
