-- `keys::mask_products` meets its contract: in lanes by Making.Writing.products_scaled, else user by user. Assumes nothing.
use Rattle.std.proofs.Common.{◌≡◌, ℕ, ◌*◌, List, map, length, get_or, ap, ap₂, ◌∙◌, arith}
use Rattle.std.proofs.lemmas.List.{length-replicate}
use Rattle.std.proofs.lemmas.List.Edits.{sets}
use Rattle.scheme.specs.Limits.{most_blocks, cells}
use Rattle.scheme.specs.Lists.{span}
use Rattle.scheme.specs.Scheme.{sixteen, items, places}
use Rattle.scheme.proofs.Modular.{sixteen_sums}
use Rattle.scheme.proofs.Making.Places.{rows_in}
use Rattle.scheme.proofs.Making.Writing.{products_scaled}
use Rattle.plan.specs.Plan.{plan_of}
use Rattle.keys.proofs.mask_products.Goals as goal

pub scale_masks-requires : goal.scale_masks-requires
unfolding items places
scale_masks-requires c =
    let a = c.args in
    let r = c.requires in
    let one : items (plan_of a.plan) ≡ 1 = c.if-items-eq1.true in
    let all = c.if-plan-eq-MOST_BLOCKS.true in (
      omega (arith, r.key_input.good.users_high),
      omega (arith, rows_in (plan_of a.plan), r.key_input.long, ap₂ (λ (x y : ℕ). a.plan.users * (x * y)) all one),
      ap length r.row_value.2 ∙ length-replicate {A = ℕ} cells 0,
      c.scale_of-scale.ensures.by_low,
    )

pub returns-then-plan-eq-MOST_BLOCKS : goal.returns-then-plan-eq-MOST_BLOCKS
unfolding items
returns-then-plan-eq-MOST_BLOCKS c =
    let a = c.args in
    let r = c.requires in
    let one : items (plan_of a.plan) ≡ 1 = c.if-items-eq1.true in
    let e = c.scale_masks.ensures _ c.scale_of-scale.ensures in
    let factor : ℕ = get_or c.coefficients-factors.result 0 0 in
    let masks : List ℕ =
    map (λ (i : ℕ). sixteen.add 0 (sixteen.multiply factor (get_or a.list.now i 0))) (span (a.plan.users * most_blocks) 0) in
    products_scaled sixteen_sums c.coefficients-factors.ensures one c.if-plan-eq-MOST_BLOCKS.true r.key_input.good.users_high _
    (e ∙ ap (λ (l : List ℕ). sets l 0 masks) r.row_value.2)

pub returns : goal.returns
unfolding items
returns c = c.write_products.ensures _ c.coefficients-factors.ensures
