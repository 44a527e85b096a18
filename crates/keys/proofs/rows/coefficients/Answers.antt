-- `keys::rows::coefficients` meets its contract: one column a turn (Making.Rows.row_more).
use Rattle.std.proofs.Common.{◌+◌, sym, zero-add, arith}
use Rattle.scheme.specs.Scheme.{sixteen}
use Rattle.scheme.proofs.Making.Rows.{row_more, row_at}
use Rattle.keys.proofs.rows.coefficients.Goals as goal

pub loop-i-preserved : goal.loop-i-preserved
loop-i-preserved c =
    let l = c.loop-i in
    row_more _ 0 (λ i. sixteen.coefficient c.args.user (c.args.first + i)) l.i l.invariant (sym (zero-add l.i)) c.coefficient.ensures

pub returns : goal.returns
returns c =
    let l = c.loop-i in
    let a = c.args in
    record {
      each = λ j h. row_at _ 0 (λ i. sixteen.coefficient a.user (a.first + i)) l.i l.invariant j j (sym (zero-add j)) (omega arith) (omega arith);
    }
