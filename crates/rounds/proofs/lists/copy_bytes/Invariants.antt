-- `rounds::lists::copy_bytes`: the numbers before i are written, and the others are to follow.
use Rattle.std.proofs.Common.{◌≡◌, length, drop}
use lib.Seq.{sets}
use Rattle.rounds.proofs.lists.copy_bytes.Given as goal

abbrev pub invariant-loop-i : goal.invariant-loop-i
invariant-loop-i l = record { long : length l.out ≡ length l.fn.out; written : sets l.out l.i (drop l.i l.s) ≡ sets l.fn.out 0 l.s }
