-- `finish::solve_rows` meets its contract: the rows and the columns are good points, and the rest is the solver's. Where there are further
-- rows all unknowns are solved for; where there are none, none is compared. Assumes nothing.
use Rattle.std.proofs.Common.{refl, unwrap_or, ◌≡◌, sym, ap, ◌∙◌, subst, Bool, List, ℕ, ◌+◌, ◌≤◌, ◌<◌, arith}
use native.Mathlib.Decide.{dec_lt}
use Rattle.scheme.specs.Limits.{most_users, most_threshold}
use Rattle.scheme.specs.Scheme.{Plan, sixteen, items}
use Rattle.scheme.specs.Solve.{Points, Square, cell, block, unknown_at, unknowns_of, row_fits, FirstMisfit}
use Rattle.scheme.proofs.Solving.Closed.{points_some, unknowns_at}
use Rattle.solve.specs.Solve.{laws16}
use Rattle.finish.specs.Finish.{columns}
use Rattle.scheme.specs.Good.{Good}
use Rattle.finish.specs.Parts.{Needed, solution_fits}
use Rattle.finish.proofs.Blocks.{columns_points}
use Rattle.scheme.specs.Lists.{padded}
use Rattle.finish.specs.declared.TheConstants.{COLUMNS}
use Rattle.finish.proofs.solve_rows.Goals as goal

columns_right : COLUMNS ≡ columns
unfolding padded
columns_right = refl

-- tests that are the same where there are further rows
misfit_same : (t u : ℕ → Bool) (n m at : ℕ) → (n < m → t ≡ u) → n ≤ m → FirstMisfit t n m at → FirstMisfit u n m at
misfit_same t u n m at same few h = elim (dec_lt n m) [
  | yes l ↦ subst (λ (v : ℕ → Bool). FirstMisfit v n m at) (same l) h
  | no l ↦ record { low = h.low; high = h.high; before = λ a lo hi. absurd (omega (arith, h.high)); fails = λ hi. absurd (omega (arith, h.low)) }
]

-- what the solver is given
square : (p : Plan) (rows columns' : List ℕ) (count : ℕ) → Good p → p.threshold ≤ count → count ≤ most_users → Points most_users count rows
    → columns' ≡ columns → Square rows columns' p.threshold
square p rows columns' count g enough few points e = record {
  few = omega (arith, few);
  rows_good = points_some points (omega arith) enough;
  columns_good = subst (Points most_threshold _) (sym e) (columns_points _ (omega (arith, g.threshold_high, g.users_high)));
}

-- what is solved are the unknowns of the replies
unknowns_told : (p : Plan) (rows columns' values solved : List ℕ) (count needed : ℕ) → Good p → Needed p count needed → needed ≤ p.threshold
    → columns' ≡ columns → solved ≡ unknowns_of sixteen laws16 rows columns' values p.threshold needed
    → (i b : ℕ) → i < items p → b < p.blocks → cell solved i b ≡ unknown_at sixteen laws16 rows columns (block values b) p.threshold i
unknowns_told p rows columns' values solved count needed g n most e s i b l k =
    ap (λ (g : List ℕ). cell g i b) s
    ∙ unknowns_at sixteen laws16 _ _ _ _ _ i b (omega (arith, n.low)) (omega (arith, g.blocks_high))
    ∙ ap (λ (cs : List ℕ). unknown_at sixteen laws16 rows cs (block values b) p.threshold i) e

-- where there are further rows, the unknowns are all of them
tests : (p : Plan) (rows columns' values solved : List ℕ) (count needed : ℕ) → Needed p count needed → columns' ≡ columns
    → solved ≡ unknowns_of sixteen laws16 rows columns' values p.threshold needed → p.threshold < count
    → row_fits sixteen rows columns' values solved p.threshold p.blocks ≡ solution_fits sixteen laws16 p rows values
unfolding solution_fits
tests p rows columns' values solved count needed n e s l =
    ap (λ (ws : List ℕ). row_fits sixteen rows columns' values ws p.threshold p.blocks)
    (s ∙ ap (unknowns_of sixteen laws16 rows columns' values p.threshold) (n.all l))
    ∙ ap (λ (cs : List ℕ). row_fits sixteen rows cs values
    (unknowns_of sixteen laws16 rows cs values p.threshold p.threshold) p.threshold p.blocks) e

pub solve-requires : goal.solve-requires
solve-requires c =
    let s = c.requires in
    (square _ _ _ _ s.0 s.1 s.2 s.3 columns_right, c.needed.ensures.high)

pub misfit-first-requires : goal.misfit-first-requires
misfit-first-requires c =
    let s = c.requires in
    (omega arith, omega (arith, s.1), omega (arith, s.1, s.2), omega (arith, s.0.blocks_high), s.3, (square _ _ _ _ s.0 s.1 s.2 s.3 columns_right).columns_good)

pub returns-in_default : goal.returns-in_default
returns-in_default c =
    let s = c.requires in
    let n = c.needed.ensures in
    record {
      unknowns_right = unknowns_told _ _ _ _ _ _ _ s.0 n n.high columns_right c.solve.ensures;
      first_right = misfit_same _ _ _ _ _ (tests _ _ _ _ _ _ _ n columns_right c.solve.ensures) s.1 c.misfit-first.ensures.first;
      first_low = c.misfit-first.ensures.low;
      second_right = rw c.in_default.is tt;
      second_low = tt;
    }

pub misfit-second-requires : goal.misfit-second-requires
misfit-second-requires c =
    let s = c.requires in
    let f = c.in-Some.ensures in (
      omega (arith, f.first.low),
      omega (arith, f.low),
      s.2,
      omega (arith, s.0.blocks_high),
      s.3,
      (square _ _ _ _ s.0 s.1 s.2 s.3 columns_right).columns_good,
    )

pub returns : goal.returns
returns c =
    let s = c.requires in
    let n = c.needed.ensures in
    let f = c.in-Some.ensures in
    let t = tests _ _ _ _ _ _ _ n columns_right c.solve.ensures in
    record {
      unknowns_right = unknowns_told _ _ _ _ _ _ _ s.0 n n.high columns_right c.solve.ensures;
      first_right = misfit_same _ _ _ _ _ t s.1 f.first;
      first_low = f.low;
      second_right = subst (λ (t : ℕ → Bool). FirstMisfit t (c.in-Some.odd + 1) c.args.count (unwrap_or c.misfit-second.result c.args.count))
          (t (omega (arith, f.first.low, f.low))) c.misfit-second.ensures.first;
      second_low = c.misfit-second.ensures.low;
    }
