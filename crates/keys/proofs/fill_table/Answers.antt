-- `keys::fill_table` meets its contract: one set a turn (Making.Tables.Filling). Assumes nothing.
use Rattle.std.proofs.Common.{◌≡◌, ℕ, ◌+◌, ◌*◌, ◌-◌, ◌%◌, ◌^◌, ◌≤◌, ◌<◌, List, map, get_or, refl, ap, ◌∙◌, arith}
use Rattle.std.proofs.lemmas.List.Edits.{sets}
use Rattle.scheme.specs.Limits.{most_blocks}
use Rattle.scheme.specs.Lists.{span, filled}
use Rattle.scheme.specs.Scheme.{sixteen, q}
use Rattle.scheme.specs.KeyParts.{half, half_sets, added_row, Table}
use Rattle.scheme.proofs.Modular.{sixteen_sums}
use Rattle.scheme.proofs.Making.Sums.{added_copy}
use Rattle.scheme.proofs.Making.Tables.{Filling, filling_start, filling_low, filling_small, filling_more, filling_end}
use Rattle.keys.proofs.fill_table.Goals as goal

-- the set x, whose last user, behind the first s, is the d-th from 0
module _ {zs ts : List ℕ} {s x : ℕ} (d : ℕ) (t : Table sixteen zs s x ts) (from : 2 ^ d ≤ x) (below : x < 2 * 2 ^ d) (few : x < half_sets) where
  abbrev turn : Filling sixteen zs s (x * most_blocks) (2 ^ d * most_blocks) ((s + d) * most_blocks) ts
  turn = record { x = x; d = d; at_is = refl; top_is = refl; with_is = refl; from = from; below = omega arith; table = t }

  -- where the row of the set without its last user lies
  others : (x - 1 * 2 ^ d % 2 ^ 32) * most_blocks ≡ x * most_blocks - 2 ^ d * most_blocks
  others = omega arith

  low : d < half
  low = filling_low sixteen_sums turn (omega arith)

  small : (b : ℕ) → b < most_blocks → get_or ts ((x - 1 * 2 ^ d % 2 ^ 32) * most_blocks + b) 0 < q
  small = rw others (filling_small sixteen_sums turn)

  more : {row new : List ℕ} → ((i : ℕ) → get_or zs i 0 < q)
      → row ≡ filled most_blocks most_blocks (λ b. sixteen.add (get_or ts ((x - 1 * 2 ^ d % 2 ^ 32) * most_blocks + b) 0) (get_or zs ((s + d) * most_blocks + b) 0))
      → new ≡ sets ts (x * most_blocks) (map (λ b. get_or row b 0) (span most_blocks 0))
      → Table sixteen zs s (x + 1) new
  more {row} {new} h r n =
      let written : new ≡ sets ts (x * most_blocks) (added_row sixteen ts (x * most_blocks - 2 ^ d * most_blocks) zs ((s + d) * most_blocks)) =
      n ∙ ap (sets ts (x * most_blocks)) (ap (λ (l : List ℕ). map (λ b. get_or l b 0) (span most_blocks 0)) r ∙ added_copy sixteen ts _ zs _
      ∙ ap (λ (i : ℕ). added_row sixteen ts i zs ((s + d) * most_blocks)) others) in
      rw written (filling_more sixteen_sums turn h (omega arith))

pub loop-set-init : goal.loop-set-init
loop-set-init c = rw c.requires.start.3 (filling_end sixteen_sums (filling_start sixteen_sums _ refl) 1 refl)

pub add_rows-sum-requires-clause-room : goal.add_rows-sum-requires-clause-room
add_rows-sum-requires-clause-room c =
    let t = c.loop-set.invariant in
    let e = c.ilog2-last.ensures in
    let few : c.loop-set.set < half_sets = omega arith in
    (omega arith, omega (arith, t.long), omega (arith, low _ t e.power_le e.next_power_gt few))

pub add_rows-sum-requires-clause-a_small : goal.add_rows-sum-requires-clause-a_small
add_rows-sum-requires-clause-a_small c =
    let e = c.ilog2-last.ensures in
    small _ c.loop-set.invariant e.power_le e.next_power_gt (omega arith)

pub loop-set-preserved : goal.loop-set-preserved
loop-set-preserved c =
    let e = c.ilog2-last.ensures in
    more _ c.loop-set.invariant e.power_le e.next_power_gt (omega arith) c.requires.small c.add_rows-sum.ensures c.put_row.ensures
