-- `finish::run_sums` meets its contract. The loop's invariant: in each place stands the sum over the first i rows, not reduced. Assumes nothing.
use Rattle.std.proofs.Common.{◌≡◌, sym, ap, ◌∙◌, map, ℕ, ◌+◌, ◌-◌, ◌%◌, zero-add, add_assoc, arith, length, get_or}
use lib.ListN.{length-replicate}
use lib.Seq.{length-sets}
use Rattle.scheme.specs.Limits.{most_blocks, most_places}
use Rattle.scheme.specs.Lists.{span}
use Rattle.scheme.specs.Scheme.{q}
use Rattle.scheme.proofs.Lists.{zeros_at}
use Rattle.scheme.proofs.Modular.{sixteen_sums}
use Rattle.scheme.proofs.Weighed.{unreduced_start, unreduced_more}
use Rattle.scheme.proofs.Making.Rows.{row_at}
use Rattle.service.proofs.View.{held_at}
use Rattle.finish.specs.Parts.{raised, first_sum}
use Rattle.finish.proofs.run_sums.Goals as goal

pub loop-i-init : goal.loop-i-init
loop-i-init c =
    (length-replicate {A = ℕ} most_blocks 0, λ p h. rw (zeros_at most_blocks p) (unreduced_start _ _ _ _))

pub loop-i-preserved : goal.loop-i-preserved
loop-i-preserved c =
    let l = c.loop-i in
    let k = c.requires.2.inside _ c.loop-i-test.true in
    let y = c.args.first.now in
    let at = c.args.at in
    let f : ℕ → ℕ = raised l.sums y (c.row_start-from.result + at) in
    let d = c.add_first.ensures.added in (
      ap length d ∙ length-sets l.sums 0 (map f (span most_blocks 0)) ∙ l.invariant.0,
      λ p h.
          let held = held_at most_places y _ (at + p) k.0 k.1 (omega (arith, c.requires)) in
          let new = ap (λ (f : ℕ). get_or y (f + at + p) 0 - 1) c.row_start-from.ensures
          ∙ ap (λ (i : ℕ). get_or y i 0 - 1) (add_assoc _ at p) ∙ sym held in
          rw (row_at l.sums 0 f most_blocks d p p (sym (zero-add p)) h (omega (arith, l.invariant.0)))
          (unreduced_more sixteen_sums l.i _ _ (l.invariant.1 p h) (ap (λ (x : ℕ). x % q) new) (c.add_first.ensures.small p h)),
    )

pub returns : goal.returns
unfolding first_sum
returns c =
    let l = c.loop-i in
    let e : l.i ≡ c.args.count = omega arith in
    record {
      small = record { low = λ i h. omega (arith, (l.invariant.1 i h).small, c.requires.0) };
      right = λ i h. rw (← e) (l.invariant.1 i h).right;
    }
