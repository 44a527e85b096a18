-- What a line shows of a call's answer.
--   judged                the first that differs: number, stage, elements; or that the answer agrees
--   judged_second         the same of a number and what comes with it
--   judged_pair           where that is a number too: a set, a start
--   agreed                whether a line agrees
--   lent_right            a list that is lent must fit
--   Checked, shown        what a line leaves and shows
--   served, opened, closed   what the lines o and c leave and show
--   end_of, begun_as, started     what the line s leaves and shows: the fresh end, or after a refusal the old one
--   found_shown, lookup_shown     what the line w shows: the case stays
--   value_of                      the value that two numbers of a line stand for
--   judged_value                  the first that differs of a reading: number, value
--   read_shown, total_shown       what the line v shows: the case stays
--   given_shown, residue_shown    what the line x shows: the case stays
-- Assumes nothing: these are definitions.
use Rattle.std.specs.Prelude.{ℕ, zero, suc, Bool, true, false, cond, List, ℤ, pos, neg_ℤ, ◌==◌, slice_index}
use Rattle.std.specs.Ordering.{int_eq}
use Rattle.std.proofs.Math.Option.{Option, none, some}
use Rattle.scheme.specs.Scheme.{sixteen}
use Rattle.plan.specs.Plan.{plan_of, use_of, code_use}
use Rattle.plan.specs.Found.{Found, found}
use Rattle.client.specs.declared.Client.{Client}
use Rattle.client.specs.Client.{Begun, begun}
use Rattle.reading.specs.Read.{Reading}
use Rattle.reading.specs.Read as read
use Rattle.reading.specs.Given.{Residue}
use Rattle.reading.specs.Given as given
use Rattle.reading.specs.Reading.{reading, residue_answer}
use Rattle.service.specs.declared.Service.{Service}
use Rattle.service.specs.Calls.{open_step, close_step}
use Rattle.rounds.specs.declared.calls.Verdict.{Verdict}
use Rattle.rounds.specs.declared.calls.Verdict.TheVariants as verdict
use Rattle.rounds.specs.declared.calls.Case.{Case}
use Rattle.rounds.specs.Lists.{round_of}

unfoldable pub judged : (got wanted : ℕ) (stage elements : Bool) → Verdict
judged got wanted stage elements =
    cond (got == wanted) (cond stage (cond elements verdict.Agrees verdict.Elements) verdict.Stage) verdict.Number

-- the last is the verdict where what comes with the number differs
unfoldable pub judged_second : (number wanted : ℕ) (same : Bool) → Verdict → Verdict
judged_second number wanted same otherwise = cond (number == wanted) (cond same verdict.Agrees otherwise) verdict.Number

abbrev pub judged_pair : (number wanted second expected : ℕ) → Verdict → Verdict
judged_pair number wanted second expected otherwise = judged_second number wanted (second == expected) otherwise

unfoldable pub agreed : Verdict → Bool
agreed verdict.Agrees = true
agreed verdict.Damaged = false
agreed verdict.Number = false
agreed verdict.Stage = false
agreed verdict.Set = false
agreed verdict.Aside = false
agreed verdict.Start = false
agreed verdict.Value = false
agreed verdict.Elements = false

unfoldable pub lent_right : (fits : Bool) → Verdict
lent_right fits = cond fits verdict.Agrees verdict.Damaged

pub record Checked : Type 0 where
  pub case : Case
  pub verdict : Verdict

abbrev pub shown : Case → Verdict → Checked
shown c v = record { case = c; verdict = v }

abbrev pub served : Case → Service → Verdict → Checked
served c s v = record { case = record { plan = c.plan; lent = c.lent; end = c.end; service = s }; verdict = v }

abbrev pub opened : Case → (line : List ℕ) → Checked
opened c l =
    served c (open_step c.service (slice_index l 0)).service (judged (open_step c.service (slice_index l 0)).number (slice_index l 1) true true)

abbrev pub closed : Case → (line : List ℕ) → Checked
closed c l =
    served c (close_step c.service).service
    (judged_pair (close_step c.service).number (slice_index l 0) (close_step c.service).set (slice_index l 1) verdict.Set)

unfoldable pub end_of : Case → Option Client → Client
end_of c none = c.end
end_of c (some e) = e

abbrev pub begun_as : Case → Begun → (wanted : ℕ) → Checked
begun_as c b wanted =
    record {
      case = record { plan = c.plan; lent = c.lent; end = end_of c b.client; service = c.service };
      verdict = judged b.number wanted true true;
    }

abbrev pub started : Case → (line : List ℕ) → Checked
started c l = begun_as c (begun c.plan (slice_index l 0) (code_use (slice_index l 1)) (round_of l 2)) (slice_index l 4)

abbrev pub found_shown : Found → (wanted expected : ℕ) → Verdict
found_shown f wanted expected = judged_pair f.number wanted f.start expected verdict.Start

abbrev pub lookup_shown : Case → (line : List ℕ) → Checked
lookup_shown c l = record { case = c; verdict = found_shown (found (plan_of c.plan) (slice_index l 0) (slice_index l 1)) (slice_index l 2) (slice_index l 3) }

-- 0 and n stand for n, anything else and n for −n
unfoldable pub value_of : (below size : ℕ) → ℤ
value_of zero n = pos n
value_of (suc b) n = neg_ℤ (pos n)

abbrev pub judged_value : (got wanted : ℕ) (value expected : ℤ) → Verdict
judged_value got wanted value expected = judged_second got wanted (int_eq value expected) verdict.Value

unfoldable pub read_shown : Reading → (wanted : ℕ) (expected : ℤ) → Verdict
read_shown (read.Refused n) wanted expected = judged_value n wanted (pos 0) expected
read_shown (read.Value z) wanted expected = judged_value 0 wanted z expected

abbrev pub total_shown : Case → (line : List ℕ) → Checked
total_shown c l =
    record { case = c; verdict = read_shown (reading sixteen (use_of (code_use (slice_index l 0))) (slice_index l 1)) (slice_index l 2) (value_of (slice_index l 3) (slice_index l 4)) }

unfoldable pub given_shown : Residue → (wanted expected : ℕ) → Verdict
given_shown (given.Refused n) wanted expected = judged n wanted true (expected == 0)
given_shown (given.Element x) wanted expected = judged 0 wanted true (x == expected)

abbrev pub residue_shown : Case → (line : List ℕ) → Checked
residue_shown c l =
    record { case = c; verdict = given_shown (residue_answer sixteen (plan_of c.plan) (value_of (slice_index l 0) (slice_index l 1))) (slice_index l 2) (slice_index l 3) }
