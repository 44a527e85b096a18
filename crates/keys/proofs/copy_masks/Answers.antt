-- `keys::copy_masks` meets its contract: what is written so far is the masks so far (Making.Rows.row_more).
use Rattle.std.proofs.Common.{◌≡◌, ℕ, ◌+◌, ◌*◌, ◌-◌, map, get_or, refl, sym, ap, ap₂, ◌∙◌, zero-add, arith}
use Rattle.std.proofs.lemmas.List.Edits.{sets}
use Rattle.scheme.specs.Lists.{span}
use Rattle.scheme.specs.Scheme.{mask}
use Rattle.scheme.proofs.Making.Rows.{row_more}
use Rattle.scheme.proofs.Making.Places.{rows_in, row_in}
use Rattle.plan.specs.Plan.{plan_of}
use Rattle.keys.proofs.copy_masks.Goals as goal

pub bounds-list-from : goal.bounds-list-from
bounds-list-from c =
    let a = c.args in
    let k = row_in (a.user - 1) a.plan.users a.row (omega arith) in
    omega (arith, k, ap (λ (x : ℕ). a.plan.users * x) c.requires.row_value.0, rows_in (plan_of a.plan))

pub loop-i-preserved : goal.loop-i-preserved
loop-i-preserved c =
    let i = c.loop-i in
    let a = c.args in
    row_more a.out.now 0 (λ j. get_or a.list.now ((a.user - 1) * a.row + j) 0) i.i i.invariant (sym (zero-add i.i)) refl

pub returns : goal.returns
unfolding mask
returns c =
    let i = c.loop-i in
    let a = c.args in
    let e : i.i ≡ a.row = omega arith in
    i.invariant
    ∙ ap₂ (λ (n row : ℕ). sets a.out.now 0 (map (λ j. get_or a.list.now ((a.user - 1) * row + j) 0) (span n 0))) e c.requires.row_value.0
