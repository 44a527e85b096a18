-- `rounds::lists::holds_just` meets its contract: what stands behind the wanted list is that number throughout.
use Rattle.std.proofs.Common.{Some, None}
use Rattle.std.proofs.lemmas.Bool.Decides.{Decides-eqb}
use Rattle.std.proofs.lemmas.Slice.Eq.{strip_prefix_is}
use Rattle.rounds.proofs.Tests.{just, not_just}
use Rattle.rounds.proofs.lists.holds_just.Goals as goal

pub returns-in-Some : goal.returns-in-Some
returns-in-Some c =
    just c.args.s.now c.args.wanted.now c.args.x c.in-Some.behind.now _
    (strip_prefix_is Decides-eqb _ _ (Some c.in-Some.behind) c.in-Some.ensures.cases) c.all_are.ensures

pub returns-in-None : goal.returns-in-None
returns-in-None c = not_just c.args.s.now c.args.wanted.now c.args.x (strip_prefix_is Decides-eqb _ _ None c.in-None.ensures.cases)
