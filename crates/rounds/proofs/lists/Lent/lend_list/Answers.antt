-- `rounds::lists::Lent::lend_list` meets its contract: the list is read back from the start.
use Rattle.std.proofs.Common.{sym, ◌∙◌}
use Rattle.rounds.proofs.Copies.{read_back}
use Rattle.rounds.proofs.lists.Lent.lend_list.Goals as goal

pub returns-then-copy_to : goal.returns-then-copy_to
returns-then-copy_to c =
    λ t. read_back c.args.list.now c.args.self.now.numbers _ 0 (sym c.copy_to.ensures.fits ∙ c.if-copy_to.true) c.copy_to.ensures.left
