-- `finish::first_sums` meets its contract. The loop's invariant: in the places of the first turns stands the sum over all rows, not reduced. Assumes nothing.
use Rattle.std.proofs.Common.{◌≡◌, ap, ◌∙◌, List, ℕ, ◌+◌, ◌-◌, ◌%◌, ◌≤◌, ◌<◌, arith, length, get_or, ◌*◌, take, get_or-take, get_or-append-add, length-take-le, rules}
use native.Mathlib.Decide.{dec_lt}
use Rattle.scheme.specs.Limits.{most_blocks, most_places}
use Rattle.scheme.specs.Scheme.{q, modular}
use Rattle.finish.specs.Parts.{first_sum, FirstSums}
use borrow.Rule.Slice.PartMut.{put_mid, same_len_mid}
use lib.ListN.{get_or-append}
use Rattle.finish.proofs.first_sums.Goals as goal

-- the sums of a run behind those of the places below it
run_more : (first rows old run new : List ℕ) (n at k : ℕ) → FirstSums q first rows n 0 at old → FirstSums q first rows n at most_blocks run
    → at + most_blocks ≤ length old → new ≡ run → length run ≡ most_blocks
    → FirstSums q first rows n 0 (at + most_blocks) (put_mid at k old new)
run_more first rows old run new n at k s r l e d = record {
  small = record {
    low = λ i h. elim (dec_lt i at) [
      | yes k ↦ omega (arith, before i k, s.small.low i k)
      | no k ↦ omega (arith, here i (omega arith) h, r.small.low (i - at) (omega arith))
    ];
  };
  right = λ i h. elim (dec_lt i at) [
    | yes k ↦ ap (λ (x : ℕ). x % q) (before i k) ∙ s.right i k
    | no k ↦ (let d : at + (i - at) ≡ 0 + i = omega arith in
        ap (λ (x : ℕ). x % q) (here i (omega arith) h) ∙ r.right (i - at) (omega arith) ∙ ap (first_sum (modular q) first rows n) d)
  ];
}
  where
    head : length (take at old) ≡ at
    head = length-take-le at old (omega arith)

    before : (i : ℕ) → i < at → get_or (put_mid at k old new) i 0 ≡ get_or old i 0
    before i b = get_or-append (take at old) _ 0 i (omega (arith, head)) ∙ get_or-take at old i 0 b

    here : (i : ℕ) → at ≤ i → i < at + most_blocks → get_or (put_mid at k old new) i 0 ≡ get_or run (i - at) 0
    here i b h =
        let place : i ≡ length (take at old) + (i - at) = omega (arith, head) in
        ap (λ (j : ℕ). get_or (put_mid at k old new) j 0) place ∙ get_or-append-add (take at old) _ (i - at) 0
        ∙ get_or-append new _ 0 (i - at) (omega (arith, ap length e)) ∙ ap (λ (l : List ℕ). get_or l (i - at) 0) e

pub loop-turn-preserved : goal.loop-turn-preserved
loop-turn-preserved c =
    let l = c.loop-turn in
    let room : l.turn * most_blocks + most_blocks ≤ most_places = omega (arith, c.div_ceil-turn-end.ensures, c.loop-turn-test.true, c.requires.1) in
    let next : (l.turn + 1) * most_blocks ≡ l.turn * most_blocks + most_blocks = omega arith in
    let long : length c.run_sums-run.result ≡ most_blocks = search rules in (
      same_len_mid _ _ l.sums c.copy_from_slice.new.self c.copy_from_slice.ensures.len ∙ l.invariant.0,
      rw next (run_more _ _ l.sums c.run_sums-run.result c.copy_from_slice.new.self _ (l.turn * most_blocks) _ l.invariant.1 c.run_sums-run.ensures
          (omega (arith, room, l.invariant.0)) c.copy_from_slice.ensures.after long),
    )
