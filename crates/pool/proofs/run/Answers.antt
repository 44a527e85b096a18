-- `pool::run` meets its contract: turn after turn.
use Rattle.std.proofs.Common.{refl, sym, ◌∙◌, arith}
use Rattle.scheme.proofs.Tests.{holds}
use Rattle.pool.proofs.Running.{moved_start, moved_more, moved_end, made_sound}
use Rattle.pool.proofs.run.Goals as goal

pub loop-init : goal.loop-init
loop-init g c = record { made = moved_start _ _ _ _ _ c.new.ensures; buffer = refl; room = refl }

pub returns-then-is_over-clause-bytes : goal.returns-then-is_over-clause-bytes
returns-then-is_over-clause-bytes g c = moved_end c.loop.invariant.made (λ e. absurd (holds (sym e ∙ sym c.is_over.ensures ∙ c.if-is_over.true)))

pub turn-requires : goal.turn-requires
turn-requires g c =
    let i = c.loop.invariant in made_sound i.made.made c.requires.1 i.room (omega (arith, i.buffer))

pub loop-preserved : goal.loop-preserved
loop-preserved g c =
    let i = c.loop.invariant in record {
      made = moved_more i.made c.turn.ensures.bytes i.room refl;
      buffer = omega arith;
      room = omega arith;
    }

pub returns-clause-bytes : goal.returns-clause-bytes
returns-clause-bytes g c = moved_end c.loop.invariant.made (λ e. omega arith)
