-- `lines::Writer::put_bytes` meets its contract: what is written so far is the text so far.
use Rattle.std.proofs.Common.{take}
use Rattle.lines.specs.Put.{Wrote}
use Rattle.lines.proofs.Writer.put_bytes.Given as goal

abbrev pub invariant-loop-byte : goal.invariant-loop-byte
invariant-loop-byte l = Wrote l.initial.self l.self (take l.byte-index l.text)
