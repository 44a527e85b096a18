-- `finish::put_explained_totals` meets its contract: what explains the replies is taken off the survivors' first elements.
-- Assumes nothing.
use Rattle.std.proofs.Common.{sym, ◌∙◌, arith, refl}
use Rattle.scheme.specs.Scheme.{q, items, places}
use Rattle.scheme.proofs.Refusals.{after_taken, after_refused}
use Rattle.plan.specs.Plan.{plan_of}
use Rattle.scheme.proofs.PlanBounds.{places_le}
use Rattle.std.proofs.lemmas.Result.{err_from_is_err_and}
use Rattle.plan.proofs.Numbers.{refused_ne0}
use Rattle.finish.specs.Parts.{FirstSums}
use Rattle.finish.proofs.Blocks.{listed_few, listed_points}
use Rattle.finish.proofs.Totalling.{totals_same}
use Rattle.finish.proofs.put_explained_totals.Goals as goal

pub returns-in_err-aside-clause-totalled : goal.returns-in_err-aside-clause-totalled
returns-in_err-aside-clause-totalled c =
    let p = err_from_is_err_and c.from_residual.result c.from_residual.ensures.1 in
    let h = c.in_err-aside.ensures.explained in
    rw (p.1, p.2) (record {
      number_right = h.number_right;
      aside_right = h.aside_right;
      totals_right = c.requires.2 ∙ sym (after_refused (refused_ne0 _) _ _);
    })

pub first_sums-sums-requires : goal.first_sums-sums-requires
first_sums-sums-requires c =
    let u = c.users_of-users.ensures in
    let few = c.requires.0.users_high in
    (listed_few _ _ few _ _ u.list_right u.count_right, c.places_of.ensures.1, listed_points _ _ few _ _ u.list_right u.count_right)

pub put_all_totals-requires-clause-le_most_items : goal.put_all_totals-requires-clause-le_most_items
unfolding places items
put_all_totals-requires-clause-le_most_items c =
    let g = c.requires.0 in
    let sums : FirstSums q c.args.first.now c.users_of-users.result.list c.users_of-users.result.count 0 (places (plan_of c.args.plan)) c.first_sums-sums.result =
    rw (← c.places_of.ensures.0) c.first_sums-sums.ensures in
    (omega (arith, g.threshold_high, g.users_high), g.blocks_high, places_le _ g, sums.small)

pub returns-clause-totalled : goal.returns-clause-totalled
unfolding places items
returns-clause-totalled c =
    let l = c.users_of-users.ensures in
    let e = c.in_ok-aside.ensures.explained in
    let sums : FirstSums q c.args.first.now c.users_of-users.result.list c.users_of-users.result.count 0 (places (plan_of c.args.plan)) c.first_sums-sums.result =
    rw (← c.places_of.ensures.0) c.first_sums-sums.ensures in
    let same = totals_same q _ _ _ _ _ _ _ _ l.list_right l.count_right sums (e.unknowns_right refl) in
    record { number_right = e.number_right; aside_right = e.aside_right; totals_right = c.put_all_totals.ensures ∙ same ∙ sym (after_taken refl _ _) }
