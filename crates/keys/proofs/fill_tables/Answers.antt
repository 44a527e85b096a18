-- `keys::fill_tables` meets its contract: every set's parts have their rows (Making.Tables.tables_right). Assumes nothing.
use Rattle.std.proofs.Common.{arith}
use Rattle.scheme.proofs.Modular.{sixteen_sums}
use Rattle.scheme.proofs.Making.Tables.{tables_right}
use Rattle.keys.proofs.fill_tables.Goals as goal

pub returns : goal.returns
returns c =
    tables_right sixteen_sums c.fill_table.ensures c.fill_table-2.ensures c.requires.good.0.users_high
    (λ v h. (omega arith, omega arith))
