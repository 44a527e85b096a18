-- Demand 3 from raw bytes.
--   bytes_matched            a matching of lists matches byte strings
--   nothing_told_of_bytes    for one plan and the tables of a kind, from demand 3 for them
--   demand_3_of_bytes        THE THIRD DEMAND FROM RAW BYTES, modulo 65521
-- Assumes nothing.
use mathlib.Core.Path.{◌≡◌}
use mathlib.Core.Bool.{true}
use mathlib.Core.List.{List}
use Prim.Native.Nat.{ℕ, ◌*◌, ◌≤◌}
use native.Mathlib.Omega.{arith}
use Rattle.scheme.specs.Scheme.{Arithmetic, sixteen, Plan}
use Rattle.scheme.specs.Promise.{Table, everyone, admissible, list_good, MatchingUnder, NothingTold, Demand3}
use Rattle.scheme.specs.Drawn.{byte}
use Rattle.scheme.specs.Evenly.{Matched, Draws, ByteMatchingUnder, NothingToldOfBytes, Demand3OfBytes}
use Rattle.scheme.proofs.Privacy.Demand.{demand_3}
use Rattle.scheme.proofs.Drawing.Draws.{draws_good, draws_left}
use Rattle.scheme.proofs.Drawing.Partners.{DrawnFrom, partners, partners_drawn}

module _ (A : Arithmetic) (p : Plan) where
  abbrev GoodList : List ℕ → Type 0
  GoodList xs = list_good A p xs ≡ true

  draws_from : (n : ℕ) → DrawnFrom A p n GoodList (Draws A p n)
  draws_from n = record {
    good = λ xs h. h;
    draws = λ s d. (d, draws_good A p n s d);
    drawing = λ s d h. d;
  }

  abbrev lists_matched : (Same : (xs ys : List ℕ) → Type 0) → MatchingUnder A p Same → Matched GoodList GoodList
  lists_matched Same m = record {
    there = m.partner;
    back = m.back;
    there_in = λ xs h. (m.stays xs h).0;
    back_in = λ xs h. (m.stays xs h).1;
    there_back = λ xs h. (m.one_to_one xs h).0;
    back_there = λ xs h. (m.one_to_one xs h).1;
  }

pub bytes_matched : (A : Arithmetic) → A.size ≤ byte * byte → (p : Plan) (n : ℕ) (Same : (xs ys : List ℕ) → Type 0) → MatchingUnder A p Same
    → ByteMatchingUnder A p n Same
bytes_matched A two p n Same m =
    let l = lists_matched A p Same m in
    let f = draws_from A p n in
    record {
      matched = partners A two p n f f l;
      same = λ s o o' d e e'.
          rw (draws_left A p n s d o e, draws_left A p n _ ((partners A two p n f f l).there_in s d) o' e', partners_drawn A two p n f f l s d)
          (m.same _ (draws_good A p n s d));
    }

pub nothing_told_of_bytes : (A : Arithmetic) → A.size ≤ byte * byte → (p : Plan) (kind : Table → Type 0) → NothingTold A p kind
    → NothingToldOfBytes A p kind
unfolding NothingTold NothingToldOfBytes
nothing_told_of_bytes A two p kind told n v c x y ok lt few good-x good-y alike =
    bytes_matched A two p n _ (told v c x y ok lt few good-x good-y alike)

pub demand_3_of_bytes : Demand3OfBytes
unfolding Demand3OfBytes Demand3
demand_3_of_bytes p uses h = nothing_told_of_bytes sixteen (omega arith) p (admissible sixteen p everyone uses) (demand_3 p uses h)
