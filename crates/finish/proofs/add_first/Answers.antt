-- `finish::add_first` meets its contract. The loop's invariant: the first i sums are new, and the others old. Assumes nothing.
use Rattle.std.proofs.Common.{◌≡◌, ap₂, subst, List, ℕ, ◌+◌, ◌<◌, zero-add, arith, get_or, set}
use Rattle.scheme.proofs.Making.Rows.{below_more, row_other}
use Rattle.scheme.proofs.Padded.{Setting, setting_more, setting_end}
use Rattle.finish.proofs.add_first.Goals as goal

-- the sum that stands at i before its turn
old-at : {f : ℕ → ℕ} {n : ℕ} {old new : List ℕ} (i : ℕ) → Setting f n 0 old i new → get_or new i 0 ≡ get_or old i 0
old-at i s = row_other _ 0 _ i s.done i (λ b h e. omega arith)

next : {f : ℕ → ℕ} {n : ℕ} {old new : List ℕ} (i : ℕ) {x : ℕ} → i < n → x ≡ f i → Setting f n 0 old i new → Setting f n 0 old (i + 1) (set new i x)
next {f} {n} {old} {new} i {x} l e s = subst (λ (k : ℕ). Setting f n 0 old (i + 1) (set new k x)) (zero-add i) (setting_more f n 0 old i x new l e s)

pub overflow_add-sums : goal.overflow_add-sums
overflow_add-sums c =
    let l = c.loop-i in
    omega (arith, old-at l.i l.invariant.0, c.requires.2.low l.i c.loop-i-test.true)

pub loop-i-preserved : goal.loop-i-preserved
loop-i-preserved c =
    let l = c.loop-i in
    let e = ap₂ (λ (x y : ℕ). x + y) (old-at l.i l.invariant.0) c.element_of.ensures in
    (next l.i c.loop-i-test.true e l.invariant.0, below_more _ l.invariant.1 (omega (arith, c.element_of.ensures)))

pub returns-clause-added : goal.returns-clause-added
returns-clause-added c = setting_end _ _ _ _ _ _ c.loop-i-test.false c.loop-i.invariant.0
