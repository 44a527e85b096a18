-- `finish::needed` meets its contract. Assumes nothing.
use Rattle.std.proofs.Common.{refl, arith}
use Rattle.scheme.specs.Scheme.{items}
use Rattle.finish.proofs.needed.Goals as goal

pub returns-then-n-count : goal.returns-then-n-count
unfolding items
returns-then-n-count c = record { low = omega arith; high = omega arith; all = λ h. refl }

pub returns : goal.returns
unfolding items
returns c = record { low = omega arith; high = omega arith; all = λ h. absurd (omega (arith, c.if-n-count.false)) }
