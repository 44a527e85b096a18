-- `element::all_near` meets its contract: what was tested so far and the answer for the rest are the answer for the whole list. Assumes nothing.
use Rattle.std.proofs.Common.{Bool, ◌&&◌, eqb, sym, ap, ◌∙◌}
use Rattle.scheme.specs.Scheme.{sixteen, is_near, near}
use Rattle.scheme.proofs.Tests.{and_true}
use Rattle.scheme.proofs.Elements.{tested_more, tested_all}
use Rattle.element.proofs.all_near.Goals as goal

pub loop-element-preserved : goal.loop-element-preserved
unfolding near
loop-element-preserved c =
    tested_more (is_near sixteen c.args.most) c.args.list.now c.loop-element.element-index c.loop-element.beyond c.far-beyond.result c.loop-element-test.true c.far-beyond.ensures
    ∙ c.loop-element.invariant

pub returns : goal.returns
unfolding near
returns c =
    let l = c.loop-element in
    sym (and_true (eqb l.beyond 0)) ∙ ap (λ (b : Bool). eqb l.beyond 0 && b) (sym (tested_all _ _ _ c.loop-element-test.false)) ∙ l.invariant
