-- `solve::solve` meets its contract. The loop's invariant: i rows of unknowns are written; `unknown_by` is one turn. Assumes nothing.
use Rattle.std.proofs.Common.{◌≡◌, ap, ◌∙◌, List, ℕ, ◌+◌, ◌<◌, zero-add, arith, lit<, get_or, rules, ◌*◌}
use Rattle.algebra.proofs.Primes.{prime_65521}
use Rattle.scheme.specs.Limits.{most_blocks}
use Rattle.scheme.specs.Scheme.{sixteen}
use Rattle.scheme.specs.Solve.{value_of, block, weighed_values, unknowns_of}
use Rattle.scheme.proofs.Lists.{map_below_at}
use Rattle.scheme.proofs.Solving.Grids.{rows_long, rows_start, rows_more, rows_end}
use Rattle.scheme.proofs.Solving.Modular.{weight_exchanged, unknown_by}
use Rattle.solve.specs.Solve.{laws16}
use Rattle.solve.proofs.solve.Goals as goal

-- the value of a block, from the weighed values, which are those of `weigh`
told_at : (d : goal.After-put_scaled) (b : ℕ) → b < most_blocks → let a = d.args in
    get_or d.dots-row.result (0 + b) 0
    ≡ value_of sixteen (get_or a.columns.now d.loop-i.i 0) a.rows.now (block (weighed_values sixteen laws16 a.rows.now a.columns.now a.values.now a.n) b) a.n
told_at d b k =
    let a = d.args in
    let told : List ℕ → ℕ → ℕ = λ ws b. value_of sixteen (get_or a.columns.now d.loop-i.i 0) a.rows.now (block ws b) a.n in
    ap (λ (i : ℕ). get_or d.dots-row.result i 0) (zero-add b) ∙ ap (λ (r : List ℕ). get_or r b 0) d.dots-row.ensures ∙ map_below_at (told _) most_blocks b k
    ∙ ap (λ (ws : List ℕ). told ws b) d.weigh-weighed.ensures

pub loop-i-init : goal.loop-i-init
loop-i-init c = rows_start _ _

pub put_scaled-requires : goal.put_scaled-requires
put_scaled-requires c =
    let l = c.loop-i in
    let p = c.requires in (
      omega (arith, p.0.few, c.loop-i-test.true, p.1),
      rows_long _ _ _ _ _ (omega (arith, p.0.few, p.1)) l.invariant,
      search rules,
    )

pub loop-i-preserved : goal.loop-i-preserved
loop-i-preserved c =
    let l = c.loop-i in
    let p = c.requires in
    let e : (l.i + 1) * most_blocks ≡ l.i * most_blocks + most_blocks = omega arith in
    rw e (rows_more _ _ l.i _ _ _ most_blocks _ (omega (arith, p.0.few, p.1)) (omega arith) c.loop-i-test.true
    (λ b k. ap (λ (v : ℕ). sixteen.add 0 (sixteen.multiply c.weight_of.result v)) (told_at c b k)
    ∙ unknown_by prime_65521 (lit< tt) _ _ _ _ l.i p.0 (omega (arith, c.loop-i-test.true, p.1)) _ b k
    (c.weight_of.ensures ∙ weight_exchanged prime_65521 (lit< tt) _ _ _ l.i))
    (λ b low high. absurd (omega arith)) c.put_scaled.ensures l.invariant)

pub returns : goal.returns
unfolding unknowns_of
returns c = rows_end _ _ _ _ _ c.loop-i-test.false c.loop-i.invariant
