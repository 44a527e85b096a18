-- `rounds::lists::copy_to` meets its contract: a part of the list is written over.
use Rattle.std.proofs.Common.{◌+◌, ◌≤◌, length, arith}
use Rattle.std.proofs.lemmas.Bool.{le-leb}
use Rattle.rounds.proofs.Copies.{copied_in}
use Rattle.rounds.proofs.lists.copy_to.Goals as goal

pub returns-clause-left : goal.returns-clause-left
returns-clause-left c =
    let h : c.args.at + length c.args.s.now ≤ length c.args.out.now = omega arith in
    rw (c.copy_from_slice.ensures.after, le-leb _ _ h) (copied_in c.args.s.now c.args.out.now c.args.at h)
