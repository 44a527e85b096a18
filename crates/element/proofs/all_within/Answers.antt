-- `element::all_within` meets its contract: what was tested so far and the answer for the rest are the answer for the whole list. Assumes nothing.
use Rattle.std.proofs.Common.{◌≡◌, ℕ, Bool, ◌&&◌, eqb, leb, get_or, sym, ap, ◌∙◌}
use Rattle.scheme.specs.Scheme.{within}
use Rattle.scheme.proofs.Tests.{and_true}
use Rattle.scheme.proofs.Elements.{tested_more, tested_all, past_within}
use Rattle.element.proofs.all_within.Goals as goal

pub loop-x-preserved : goal.loop-x-preserved
unfolding within
loop-x-preserved c =
    let xs = c.args.list.now in
    let most = c.args.most in
    let i = c.loop-x.x-index in
    let t : eqb c.past-beyond.result 0 ≡ leb (get_or xs i 0) most = ap (λ (n : ℕ). eqb n 0) c.past-beyond.ensures ∙ past_within _ most in
    tested_more (λ x. leb x most) xs i c.loop-x.beyond c.past-beyond.result c.loop-x-test.true t ∙ c.loop-x.invariant

pub returns : goal.returns
unfolding within
returns c =
    let l = c.loop-x in
    sym (and_true (eqb l.beyond 0)) ∙ ap (λ (b : Bool). eqb l.beyond 0 && b) (sym (tested_all _ _ _ c.loop-x-test.false)) ∙ l.invariant
