-- Byte strings that the call takes.
--   draws_list      one in which a random list is found first: that list is drawn
--   draws_enough    enough elements are in it
--   draws_good      what is drawn is a random list
--   draws_left      and it is what the call leaves of every lent list
-- Assumes nothing.
use mathlib.Core.Path.{◌≡◌, refl, ap}
use mathlib.Core.Bool.{true}
use mathlib.Core.List.{List, ◌++◌}
use Prim.Native.Nat.{ℕ, ◌≤◌}
use native.Mathlib.Omega.{arith}
use lib.ListN.{length, length-append}
use lib.Seq.{length-take-le, take_at}
use borrow.Author.Tests.{le-leb, leb-true, eq-eqb}
use Rattle.scheme.specs.Scheme.{Arithmetic, Plan, plan_good, list_length}
use Rattle.scheme.specs.Promise.{list_good}
use Rattle.scheme.specs.Drawn.{bytes_good, numbers_in, fills, drawn, list_left, found}
use Rattle.scheme.specs.Evenly.{Draws}
use Rattle.scheme.proofs.Tests.{and_joined}
use Rattle.scheme.proofs.Refusals.{after_taken}
use Rattle.scheme.proofs.Keys.{list_long}
use Rattle.scheme.proofs.Drawing.Refusal.{list_taken, list_passes}
use Rattle.scheme.proofs.Drawing.Bytes.{found_elements}

module _ (A : Arithmetic) (p : Plan) (n : ℕ) (s : List ℕ) where
  pub draws_list : (xs more : List ℕ) → plan_good p ≡ true → list_good A p xs ≡ true → length s ≡ n → bytes_good s ≡ true → found A s ≡ xs ++ more
      → Draws A p n s × (drawn A (list_length p) s ≡ xs)
  unfolding fills drawn
  draws_list xs more h ok long small e =
      let l = list_long A p xs ok in
      let enough : list_length p ≤ length (found A s) = omega (arith, ap length e, length-append xs more) in (
        record {
          long = long;
          small = small;
          taken = list_passes A p s (list_length p) (h, refl, le-leb _ _ enough);
        },
        rw e (take_at xs more (list_length p) l),
      )

  module _ (d : Draws A p n s) where
    pub draws_enough : list_length p ≤ length (found A s)
    unfolding fills
    draws_enough = leb-true _ _ (list_taken A p s (list_length p) d.taken).2

    pub draws_good : list_good A p (drawn A (list_length p) s) ≡ true
    unfolding list_good drawn
    draws_good = and_joined (eq-eqb _ _ (length-take-le (list_length p) (found A s) draws_enough)) (found_elements A (list_length p) (numbers_in s))

    pub draws_left : (o : List ℕ) → length o ≡ list_length p → list_left A p s o ≡ drawn A (list_length p) s
    draws_left o e = rw e (after_taken d.taken (drawn A (list_length p) s) o)
