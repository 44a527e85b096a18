-- `rounds::calls::meaning::value_of` meets its contract: the value fits 32 bits, so that it is read back from them.
use Rattle.std.proofs.Common.{ℕ, ◌≤◌, ℤ, pos, ◌-ℤ◌, sym, ap, ◌∙◌, subst, arith, w32, SFits, to_z}
use mir.ValLaws.{to_z-of_z}
use Rattle.rounds.proofs.Values.{as_signed, not_below, below, less_fits}
use Rattle.rounds.proofs.calls.meaning.value_of.Goals as goal

fits : (n : ℕ) → n ≤ 65535 → SFits w32 (pos 0 -ℤ to_z w32 n)
fits n h = subst (λ (z : ℤ). SFits w32 (pos 0 -ℤ z)) (sym (as_signed n h)) (less_fits n h)

pub returns-then-below-eq0 : goal.returns-then-below-eq0
returns-then-below-eq0 c = as_signed c.args.size (omega arith) ∙ not_below _ _ c.if-below-eq0.true

pub returns : goal.returns
returns c =
    let h : c.args.size ≤ 65535 = omega arith in
    to_z-of_z w32 _ (fits c.args.size h) ∙ ap (λ (z : ℤ). pos 0 -ℤ z) (as_signed c.args.size h) ∙ below _ _ c.if-below-eq0.false
