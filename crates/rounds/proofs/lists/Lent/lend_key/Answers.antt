-- `rounds::lists::Lent::lend_key` meets its contract: the key is read back from its place.
use Rattle.std.proofs.Common.{sym, ◌∙◌}
use Rattle.rounds.specs.Lists.{key_start}
use Rattle.rounds.proofs.Copies.{read_back}
use Rattle.rounds.proofs.lists.Lent.lend_key.Goals as goal

pub returns : goal.returns
returns c = λ t. read_back c.args.key.now c.args.self.now.numbers _ key_start (sym c.copy_to.ensures.fits ∙ t) c.copy_to.ensures.left
