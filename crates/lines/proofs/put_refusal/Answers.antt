-- `lines::put_refusal` meets its contract: the pieces behind one another are the line.
use Rattle.std.proofs.Common.{rules, append-nil}
use Rattle.lines.specs.Text.{numbers, line}
use Rattle.lines.proofs.Lines.{wrote_append, put_through}
use Rattle.lines.proofs.put_refusal.Goals as goal

pub returns-clause-put : goal.returns-clause-put
unfolding numbers line
returns-clause-put c =
    let x = wrote_append (wrote_append c.put_bytes.ensures c.put_number.ensures.wrote) c.put_bytes-2.ensures in
    let y = wrote_append (wrote_append x c.put_number-2.ensures.wrote) c.put_bytes-3.ensures in
    put_through y (search (rules, y.same)) (simp append-nil)
