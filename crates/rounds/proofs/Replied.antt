-- What a line r leaves and shows.
--   none_wanted   a reply with no part, where none is wanted
--   no_part       no part goes with a refused reply
--   told          what the line's calls answer, put together
-- Assumes nothing.
use Rattle.std.proofs.Common.{◌≡◌, ℕ, List, [], ◌∷◌, length, eqb, get_or, drop, sym, refl, ap, ◌∙◌}
use Rattle.std.proofs.Math.Dec.{eqb-suc-zero}
use lib.Pointwise.{pointwise}
use Rattle.scheme.specs.Scheme.{sixteen}
use Rattle.scheme.proofs.Refusals.{after_refused}
use Rattle.plan.specs.declared.refusal.Refusal.{Refusal}
use Rattle.plan.specs.Numbers.{number_of}
use Rattle.plan.proofs.Numbers.{refused_ne0}
use Rattle.client.specs.declared.Client.{Client}
use Rattle.client.specs.Client.{Moved, stage_of, stage_number, answer_refusal, reply_answer, part_of}
use Rattle.rounds.specs.declared.calls.Verdict.{Verdict}
use Rattle.rounds.specs.declared.calls.Case.{Case}
use Rattle.rounds.specs.Lists.{key_of, round_of}
use Rattle.rounds.specs.Judged.{judged, shown}
use Rattle.rounds.specs.Replied.{answered_as, answered_of, answered}
use Rattle.rounds.proofs.Started.{with_end}

pub none_wanted : (l : List ℕ) → eqb (length l) 0 ≡ pointwise eqb [] l
none_wanted [] = refl
none_wanted (x ∷ l) = eqb-suc-zero (length l)

pub no_part : (e : Client) (key : List ℕ) (set round : ℕ) (r : Refusal) → number_of r ≡ answer_refusal sixteen e key set round → [] ≡ part_of sixteen e key set round
unfolding part_of
no_part e key set round r h = sym (after_refused (λ z. refused_ne0 r (h ∙ z)) _ _)

-- a is what the reply answers, p its part, n, g and w the wanted number, stage and part, v the verdict
pub told : (c : Case) (l : List ℕ) {key : List ℕ} {set round n g : ℕ} {w : List ℕ} {v : Verdict} (a : Moved) (p : List ℕ)
    → key ≡ key_of c.lent → set ≡ get_or l 0 0 → round ≡ round_of l 1 → n ≡ get_or l 3 0 → g ≡ get_or l 4 0 → w ≡ drop 5 l
    → a ≡ reply_answer sixteen c.end key set round → p ≡ part_of sixteen c.end key set round
    → v ≡ judged a.number n (eqb g (stage_number (stage_of a.client.stage))) (pointwise eqb p w) → shown (with_end c a.client) v ≡ answered c l
told c l {key = key} {set = set} {round = round} a p e f h number stage wanted answer part verdict =
    let moved : a ≡ reply_answer sixteen c.end key (get_or l 0 0) (round_of l 1) = answer ∙ ap (λ (x : ℕ). reply_answer sixteen c.end key x round) f ∙ ap (reply_answer sixteen c.end key (get_or l 0 0)) h in
    let named : p ≡ part_of sixteen c.end key (get_or l 0 0) (round_of l 1) = part ∙ ap (λ (x : ℕ). part_of sixteen c.end key x round) f ∙ ap (part_of sixteen c.end key (get_or l 0 0)) h in
    ap (shown (with_end c a.client)) (verdict ∙ rw (number, stage, wanted) refl)
    ∙ ap (λ (x : Moved). answered_as c x p l) moved
    ∙ ap (λ (x : List ℕ). answered_as c (reply_answer sixteen c.end key (get_or l 0 0) (round_of l 1)) x l) named
    ∙ ap (λ (k : List ℕ). answered_of c k l) e
