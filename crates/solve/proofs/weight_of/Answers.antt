-- `solve::weight_of` meets its contract. The loop's invariant: the product so far times the weight over the positions that are left is the
-- whole weight. Assumes nothing.
use Rattle.std.proofs.Common.{◌≡◌, ap, ap₂, ◌∙◌, subst, ℕ, ◌+◌, ◌*◌, ◌%◌, ◌-◌, mul-one, arith, lit<}
use Rattle.algebra.proofs.Primes.{prime_65521}
use Rattle.scheme.specs.Scheme.{q}
use Rattle.scheme.proofs.Solving.Modular.{Factoring, factoring_start, factoring_more, factoring_two, factoring_end}
use Rattle.solve.proofs.weight_of.Goals as goal

pub loop-pair-init : goal.loop-pair-init
loop-pair-init c = factoring_start prime_65521 (lit< tt) _ _ _ _

pub loop-pair-preserved : goal.loop-pair-preserved
loop-pair-preserved c =
    let l = c.loop-pair in
    let p = c.requires in
    let e : 2 * l.pair + 2 ≡ 2 * (l.pair + 1) = omega arith in
    subst (λ (k : ℕ). Factoring prime_65521 (lit< tt) c.args.own.now c.args.other.now c.args.n c.args.at k c.times_two-weight.result) e
    (factoring_two prime_65521 (lit< tt) _ _ _ _ (2 * l.pair) l.weight _ p.2 p.1 (omega (arith, c.loop-pair-test.true))
    (c.times_two-weight.ensures ∙ ap₂ (λ (f g : ℕ). l.weight * (f * g) % q) c.factor-first.ensures.0 c.factor.ensures.0) l.invariant)

pub returns-then-n-eq1 : goal.returns-then-n-eq1
returns-then-n-eq1 c =
    let l = c.loop-pair in
    let p = c.requires in
    let e : 2 * l.pair ≡ c.args.n - 1 = omega arith in
    factoring_end prime_65521 (lit< tt) _ _ _ _ (c.args.n - 1 + 1) _ (omega arith)
    (factoring_more prime_65521 (lit< tt) _ _ _ _ (c.args.n - 1) l.weight _ p.2 p.1 (omega arith)
    (c.times_two.ensures ∙ ap (λ (f : ℕ). l.weight * f % q) (mul-one _ ∙ c.factor-then-n-eq1.ensures.0))
    (subst (λ (k : ℕ). Factoring prime_65521 (lit< tt) c.args.own.now c.args.other.now c.args.n c.args.at k l.weight) e l.invariant))

pub returns : goal.returns
returns c = factoring_end prime_65521 (lit< tt) _ _ _ _ _ _ (omega arith) c.loop-pair.invariant
