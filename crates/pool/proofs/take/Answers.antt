-- `pool::take` meets its contract: what is not used stands in front, and the lines in front of out.
use Rattle.std.proofs.Common.{refl, arith}
use Rattle.pool.proofs.Leaving.{here_fits, used_inside, fed_leaves}
use Rattle.pool.proofs.take.Goals as goal

pub overflow_add-live : goal.overflow_add-live
overflow_add-live c = omega (arith, here_fits _ _ _ _ _ c.feed-fed.ensures.result (omega arith))

pub keep-live-requires : goal.keep-live-requires
keep-live-requires c = (used_inside _ _ _ _ _ _ c.requires c.feed-fed.ensures.result, c.requires)

pub returns : goal.returns
returns c =
    let f = c.feed-fed.ensures in let k = c.keep-live.ensures in
    fed_leaves _ _ _ _ _ _ c.requires f.result _ _ _ _ _ refl f.left k.count k.left c.from-live.ensures
