-- `solve::misfit` meets its contract. The loop's invariant: the rows so far fit. Assumes nothing.
use Rattle.std.proofs.Common.{◌*◌, rules, ◌≡◌, refl, sym, ap, ◌∙◌, Bool, true, ℕ, ◌+◌, ◌≤◌, ◌<◌, arith}
use native.Mathlib.Decide.{dec_lt}
use Rattle.scheme.specs.Scheme.{sixteen}
use Rattle.scheme.proofs.Solving.Closed.{row_same}
use Rattle.scheme.specs.Limits.{most_blocks}
use Rattle.solve.proofs.Rows.{row_compared}
use Rattle.solve.proofs.misfit.Goals as goal

-- one row more
passed-more : (t : ℕ → Bool) (from a : ℕ) → ((c : ℕ) → from ≤ c → c < a → t c ≡ true) → t a ≡ true → (c : ℕ) → from ≤ c → c < a + 1 → t c ≡ true
passed-more t from a h e c lo l = elim (dec_lt c a) [ yes k ↦ h c lo k | no k ↦ (let d : c ≡ a = omega arith in ap t d ∙ e) ]

pub returns-then-not-same_row-clause-first : goal.returns-then-not-same_row-clause-first
returns-then-not-same_row-clause-first c =
    let e = row_compared c.dots-row.result c.args.values.now c.args.blocks (c.loop-a.a * most_blocks) (search rules)
    ∙ row_same sixteen _ _ _ _ _ _ _ c.loop-a.a _ c.requires.3 c.dots-row.ensures refl in
    record {
      low = c.loop-a.auto.a;
      high = omega arith;
      before = c.loop-a.invariant;
      fails = λ i. sym e ∙ sym c.same_row.ensures ∙ c.if-not-same_row.true;
    }

pub loop-a-preserved : goal.loop-a-preserved
loop-a-preserved c =
    let e = row_compared c.dots-row.result c.args.values.now c.args.blocks (c.loop-a.a * most_blocks) (search rules)
    ∙ row_same sixteen _ _ _ _ _ _ _ c.loop-a.a _ c.requires.3 c.dots-row.ensures refl in
    passed-more _ _ c.loop-a.a c.loop-a.invariant (sym e ∙ sym c.same_row.ensures ∙ c.if-not-same_row.false)
