-- `finish::put_all_totals` meets its contract. The loop's invariant: the totals of the first items are written. Assumes nothing.
use Rattle.std.proofs.Common.{sym, ap, ◌∙◌, zero-mul}
use Rattle.scheme.specs.Scheme.{sixteen}
use Rattle.finish.specs.Parts.{some_totals}
use Rattle.finish.proofs.Totalling.{some_start, some_end}
use Rattle.finish.proofs.put_all_totals.Goals as goal

pub loop-item-init : goal.loop-item-init
loop-item-init c =
    let a = c.args in
    c.requires.out_value ∙ some_start sixteen a.sums.now a.unknowns.now a.items a.blocks c.requires.le_most_items.2
    ∙ ap (some_totals sixteen a.sums.now a.unknowns.now a.items a.blocks) (sym (zero-mul a.blocks))

pub returns : goal.returns
returns c = c.loop-item.invariant ∙ some_end sixteen _ _ _ _ c.requires.le_most_items.2 _ c.loop-item-test.false
