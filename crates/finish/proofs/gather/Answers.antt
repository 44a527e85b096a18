-- `finish::gather` meets its contract. The loop's invariant: the replies of i rows are written. Assumes nothing.
use Rattle.std.proofs.Common.{sym, ap, ◌∙◌, ℕ, ◌+◌, ◌-◌, arith, get_or, ◌≡◌, ◌*◌}
use Rattle.scheme.specs.Limits.{most_blocks}
use Rattle.scheme.proofs.Solving.Grids.{rows_long, rows_start, rows_more, rows_end}
use Rattle.service.proofs.View.{held_at}
use Rattle.finish.specs.Parts.{reply_grid}
use Rattle.finish.proofs.Turns.{row_reply_inside, row_reply_behind}
use Rattle.finish.proofs.gather.Goals as goal

pub loop-i-init : goal.loop-i-init
loop-i-init c = rows_start _ _

pub put_held-requires : goal.put_held-requires
put_held-requires c =
    let s = c.requires in
    let k = s.2.inside _ c.loop-i-test.true in
    let r = c.loop-i.invariant in
    (s.1, omega (arith, c.loop-i-test.true, s), omega (arith, k.0, k.1, s, c.row_start-from.ensures), rows_long _ _ _ _ _ s.0 r)

pub loop-i-preserved : goal.loop-i-preserved
loop-i-preserved c =
    let l = c.loop-i in
    let s = c.requires in
    let k = s.2.inside _ c.loop-i-test.true in
    let y = c.args.reply.now in
    let e : (l.i + 1) * most_blocks ≡ l.i * most_blocks + most_blocks = omega arith in
    rw e (rows_more _ _ l.i _ _ _ _ _ s.0 s.1 c.loop-i-test.true (λ b h.
    ap (λ (f : ℕ). get_or y (f + b) 0 - 1) c.row_start-from.ensures
    ∙ sym (row_reply_inside _ _ _ _ b h ∙ held_at most_blocks y _ b k.0 k.1 (omega (arith, s.1))))
    (λ b low high. row_reply_behind _ _ _ _ b low) c.put_held.ensures l.invariant)

pub returns : goal.returns
unfolding reply_grid
returns c = rows_end _ _ _ _ _ c.loop-i-test.false c.loop-i.invariant
