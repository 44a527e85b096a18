-- `lines::Writer::put_totals` meets its contract: what is written so far is the numbers so far, each within its room.
use Rattle.std.proofs.Common.{◌+◌, ◌*◌, ◌≤◌, take}
use Rattle.lines.specs.Text.{numbers}
use Rattle.lines.specs.Put.{short_room, Wrote}
use Rattle.lines.proofs.Writer.put_totals.Given as goal

abbrev pub invariant-loop-total : goal.invariant-loop-total
invariant-loop-total l = (l.self.at ≤ l.initial.self.at + short_room * l.total-index) × Wrote l.initial.self l.self (numbers (take l.total-index l.totals))
