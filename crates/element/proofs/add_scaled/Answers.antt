-- `element::add_scaled` meets its contract: the law of prepared factors, at 16 bits. Assumes nothing.
use Rattle.std.proofs.Common.{◌≡◌, ℕ, ◌+◌, ◌-◌, ◌*◌, ◌/◌, ◌%◌, refl, ap, ◌∙◌, ap₂, le_refl, mod-lt, lit<}
use Rattle.scheme.specs.Scheme.{q}
use Rattle.element.specs.Word.{word}
use Rattle.element.proofs.Halves.{scaled, high_low}
use Rattle.element.proofs.add_scaled.Goals as goal

-- the inverse of word modulo q
abbrev back : ℕ
back = 61153

pub returns-clause-right : goal.returns-clause-right
returns-clause-right c =
    let x = c.args.x in
    let m = x * c.args.s.key % word in
    let first : c.add.result ≡ (c.args.sum + x * c.args.s.by / word) % q = c.add.ensures ∙ ap (λ (n : ℕ). (c.args.sum + n) % q) c.high_half.ensures in
    let second : c.high_half-2.result ≡ m * q / word = c.high_half-2.ensures ∙ ap (λ (n : ℕ). n * q / word) c.low_half.ensures in
    λ a h. c.subtract.ensures ∙ ap₂ (λ (n d : ℕ). (n + (q - d % q)) % q) first second
    ∙ scaled word q back refl h x c.args.sum (high_low {b = q} (mod-lt (x * c.args.s.key) (lit< tt)) (le_refl q) (lit< tt))
