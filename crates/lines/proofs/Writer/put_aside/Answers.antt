-- `lines::Writer::put_aside` meets its contract: nothing, or the pieces of the line behind one another.
use Rattle.std.proofs.Common.{◌≡◌, ◌≢◌, ℕ, Option, [], ◌∷◌, ◌++◌, ap, append_assoc, append-nil, unwrap_or, rules, ne_eqb}
use Rattle.lines.specs.Text.{numbers, aside_word, line_end, aside_line}
use Rattle.lines.proofs.Lines.{wrote_none, wrote_append, wrote_as}
use Rattle.lines.proofs.Writer.put_aside.Goals as goal
use Rattle.lines.proofs.Writer.put_aside.Goals.{in_default-via-in-None-1, in_default-via-in-Some+else-user-ne0}

some_aside : (r k : ℕ) → k ≢ 0 → aside_line r k ≡ aside_word ++ numbers (r ∷ k ∷ []) ++ line_end
unfolding aside_line
some_aside r k h = rw (ne_eqb k 0 h)

pub returns-then-user-ne0-clause-wrote : goal.returns-then-user-ne0-clause-wrote
unfolding numbers
returns-then-user-ne0-clause-wrote c =
    let x = wrote_append (wrote_append c.put_bytes.ensures c.put_number.ensures.wrote) c.put_number-2.ensures.wrote in
    let y = wrote_append x c.put_bytes-2.ensures in
    let e : unwrap_or c.args.aside 0 ≡ c.in-Some.user = ap (λ (o : Option ℕ). unwrap_or o 0) c.in-Some.is in
    rw (e, some_aside _ _ c.if-user-ne0.true) (wrote_as y (simp (append_assoc, append-nil)))

pub returns-in_default-clause-wrote : goal.returns-in_default-clause-wrote
unfolding aside_line
returns-in_default-clause-wrote c =
    let none : unwrap_or c.args.aside 0 ≡ 0 =
    elim c.in_default.branch [
      | in_default-via-in-None-1 w ↦ search rules
      | in_default-via-in-Some+else-user-ne0 w ↦ rw w.in-Some.is w.if-user-ne0.false
    ] in
    rw none (wrote_none _)
