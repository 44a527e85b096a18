-- `lines::put_total` meets its contract: the pieces behind one another are the lines.
use Rattle.std.proofs.Common.{rules, append_assoc}
use Rattle.lines.specs.Text.{numbers, line}
use Rattle.lines.proofs.Lines.{wrote_append, put_through}
use Rattle.lines.proofs.put_total.Goals as goal

pub returns-clause-put : goal.returns-clause-put
unfolding numbers line
returns-clause-put c =
    let x = wrote_append (wrote_append c.put_aside.ensures.wrote c.put_bytes.ensures) c.put_number.ensures.wrote in
    let y = wrote_append (wrote_append x c.put_totals.ensures.wrote) c.put_bytes-2.ensures in
    λ o. put_through y (search (rules, y.same)) (simp append_assoc)
