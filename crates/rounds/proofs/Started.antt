-- What a line s leaves and shows.
--   with_end   a case with another end
--   told       what its calls answer, put together
-- Assumes nothing.
use Rattle.std.proofs.Common.{◌≡◌, ℕ, true, List, get_or, ap, ◌∙◌}
use Rattle.plan.specs.declared.Use.{Use}
use Rattle.plan.specs.Plan.{code_use}
use Rattle.client.specs.declared.Client.{Client}
use Rattle.client.specs.Client.{Begun, begun}
use Rattle.rounds.specs.declared.calls.Verdict.{Verdict}
use Rattle.rounds.specs.declared.calls.Case.{Case}
use Rattle.rounds.specs.Lists.{round_of}
use Rattle.rounds.specs.Judged.{judged, shown, end_of, begun_as, started}

abbrev pub with_end : Case → Client → Case
with_end c d = record { plan = c.plan; lent = c.lent; end = d; service = c.service }

-- u is the user, a its use, r its round, w the wanted number, b what the start answers, v the verdict
pub told : (c : Case) (l : List ℕ) {u r w : ℕ} {a : Use} {v : Verdict} (b : Begun) → u ≡ get_or l 0 0 → a ≡ code_use (get_or l 1 0) → r ≡ round_of l 2
    → w ≡ get_or l 4 0 → b ≡ begun c.plan u a r → v ≡ judged b.number w true true → shown (with_end c (end_of c b.client)) v ≡ started c l
told c l {u = u} {r = r} {a = a} b user usage round wanted answer verdict =
    ap (shown (with_end c (end_of c b.client))) (verdict ∙ ap (λ (x : ℕ). judged b.number x true true) wanted)
    ∙ ap (λ (x : Begun). begun_as c x (get_or l 4 0))
    (answer ∙ ap (λ (k : ℕ). begun c.plan k a r) user ∙ ap (λ (x : Use). begun c.plan (get_or l 0 0) x r) usage ∙ ap (begun c.plan (get_or l 0 0) (code_use (get_or l 1 0))) round)
