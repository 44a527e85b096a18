-- `keys::write_products_of` meets its contract: one user a turn (Making.Writing.products_more). Assumes nothing.
use Rattle.std.proofs.Common.{ℕ, ◌+◌, ◌*◌, ◌≤◌, List, length, refl, ap, ◌∙◌, subst, arith}
use Rattle.std.proofs.lemmas.List.{length-replicate}
use Rattle.std.proofs.Math.Seq.{length-sets}
use Rattle.scheme.specs.Limits.{cells}
use Rattle.scheme.specs.Scheme.{sixteen, items, places}
use Rattle.scheme.specs.KeyParts.{Coefficients, block_values}
use Rattle.scheme.proofs.Modular.{sixteen_sums}
use Rattle.scheme.proofs.Making.Places.{row_in, rows_in}
use Rattle.scheme.proofs.Making.Writing.{products_start, products_more}
use Rattle.plan.specs.Plan.{plan_of}
use Rattle.keys.proofs.write_products_of.Goals as goal

pub loop-k-init : goal.loop-k-init
loop-k-init c =
    let e = c.requires.row_value.2 in
    (ap length e ∙ length-replicate {A = ℕ} cells 0, λ u f. rw e (products_start sixteen_sums _ _ _))

pub write_blocks_of-requires : goal.write_blocks_of-requires
unfolding items places
write_blocks_of-requires c =
    let i = c.loop-k in
    let a = c.args in
    let r = c.requires.good in
    let e = c.requires.row_value.0 in
    let inside : i.k * a.row + a.row ≤ length a.list.now = omega (
      arith,
      row_in i.k a.plan.users a.row c.loop-k-test.true,
      rows_in (plan_of a.plan),
      ap (λ (x : ℕ). a.plan.users * x) e,
      r.2,
    ) in (
      omega (arith, r),
      r.0.blocks_high,
      omega (arith, inside, e, ap (λ (x : ℕ). a.plan.blocks * x) r.1),
      omega (arith, i.invariant.0, c.loop-k-test.true, r.0.users_high, r.0.blocks_high),
    )

pub loop-k-preserved : goal.loop-k-preserved
loop-k-preserved c =
    let i = c.loop-k in
    let a = c.args in
    let r = c.requires.good in
    let e = c.write_blocks_of.ensures in
    let values : List ℕ = block_values sixteen c.zeros-none.result a.factors.now a.n a.list.now (i.k * a.row) a.plan.blocks in (
      ap length e ∙ length-sets i.products _ values ∙ i.invariant.0,
      λ u f. rw (e, c.zeros-none.ensures, r.1)
          (products_more sixteen_sums (i.invariant.1 u f) (subst (λ n. Coefficients sixteen u 1 n a.factors.now) r.1 f) r.0.blocks_high
          (omega (arith, c.loop-k-test.true, r.0.users_high)) _ _ (ap (λ (n : ℕ). i.k * n) c.requires.row_value.0) refl),
    )
