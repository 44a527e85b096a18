-- `element::far` meets its contract: a number within the most is near zero, and of one that is not both lacks are gathered by `|`.
-- Assumes nothing.
use Rattle.std.proofs.Common.{ℕ, eqb, refl, ap, ◌∙◌, ap₂, arith, lit<, le-leb, bit_or}
use Rattle.scheme.specs.Scheme.{sixteen, is_near}
use Rattle.scheme.proofs.Elements.{far_near}
use Rattle.element.proofs.far.Goals as goal

pub returns-then-x-most : goal.returns-then-x-most
unfolding is_near
returns-then-x-most c = rw (le-leb _ _ c.if-x-most.true) refl

pub returns : goal.returns
returns c =
    let a = c.args in
    ap (λ (n : ℕ). eqb n 0) (ap₂ bit_or c.past.ensures c.excess.ensures) ∙ far_near sixteen (lit< tt) a.most a.x (omega arith)
