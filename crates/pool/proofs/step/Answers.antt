-- `pool::step` meets its contract: each thing that may come next.
use Rattle.std.proofs.Common.{refl}
use Rattle.pool.specs.declared.Next.TheVariants.{Feed, Refuse, Over}
use Rattle.pool.specs.Turns.{step_by}
use Rattle.pool.proofs.Leaving.{silent_leaves, step_as}
use Rattle.pool.proofs.step.Goals as goal

pub returns-in-Feed : goal.returns-in-Feed
unfolding step_by
returns-in-Feed c = step_as _ c.args.live.now _ Feed _ c.in-Feed.is refl c.take.ensures

pub returns-in-Refuse : goal.returns-in-Refuse
unfolding step_by
returns-in-Refuse c = step_as _ c.args.live.now _ (Refuse _) _ c.in-Refuse.is refl c.refuse.ensures

pub returns-in-Over : goal.returns-in-Over
unfolding step_by
returns-in-Over c = let l = c.args.live.now in step_as _ l _ (Over _) _ c.in-Over.is refl (silent_leaves l _ c.requires.have (Over _) c.silent.ensures)
