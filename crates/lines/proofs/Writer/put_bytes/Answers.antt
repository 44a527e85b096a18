-- `lines::Writer::put_bytes` meets its contract: what is written so far is the text so far.
use Rattle.std.proofs.Common.{refl, rules}
use Rattle.lines.proofs.Lines.{wrote_none, wrote_more}
use Rattle.lines.proofs.Writer.put_bytes.Goals as goal

pub loop-byte-init : goal.loop-byte-init
loop-byte-init c = wrote_none _

pub loop-byte-preserved : goal.loop-byte-preserved
loop-byte-preserved c =
    wrote_more c.args.text.now c.loop-byte.byte-index c.loop-byte-test.true c.loop-byte.invariant
    (record { same = refl; long = search rules; put = record { place = refl; bytes = refl } })
