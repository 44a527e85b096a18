-- What the line r shows.
--   answered_as   the number, end and part of a reply, against those that the line wants
--   answered_of   what the line leaves and shows, of a key: the end behind the reply
--   answered      the same of the key that is lent
-- Assumes nothing: these are definitions.
use Rattle.std.specs.Prelude.{ℕ, List, ◌==◌, drop, slice_index}
use Rattle.std.specs.Cmp.Lexicographic.{pointwise}
use Rattle.std.proofs.Math.Dec.{eqb}
use Rattle.scheme.specs.Scheme.{sixteen}
use Rattle.client.specs.Client.{Moved, stage_of, stage_number, reply_answer, part_of}
use Rattle.rounds.specs.declared.calls.Case.{Case}
use Rattle.rounds.specs.Lists.{key_of, round_of}
use Rattle.rounds.specs.Judged.{Checked, judged}

abbrev pub answered_as : Case → Moved → (part line : List ℕ) → Checked
answered_as c a part l =
    record {
      case = record { plan = c.plan; lent = c.lent; end = a.client; service = c.service };
      verdict = judged a.number (slice_index l 3) (slice_index l 4 == stage_number (stage_of a.client.stage)) (pointwise eqb part (drop 5 l));
    }

abbrev pub answered_of : Case → (key line : List ℕ) → Checked
answered_of c key l =
    answered_as c (reply_answer sixteen c.end key (slice_index l 0) (round_of l 1)) (part_of sixteen c.end key (slice_index l 0) (round_of l 1)) l

abbrev pub answered : Case → (line : List ℕ) → Checked
answered c l = answered_of c (key_of c.lent) l
