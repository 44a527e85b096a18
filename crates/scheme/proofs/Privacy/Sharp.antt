-- The premises of demand 3 are sharp: what is shown settles the survivors' total.
--   zeros, zeros_good       the random list of zeros
--   totals_told             lists that show the same belong to tables with the same survivors' total
--   totals_needed           another total over the survivors: no matching
--   totals_needed_sixteen   modulo 65521, for every good plan
-- Assumes nothing.
use mathlib.Core.Path.{◌≡◌, refl, sym, ap, ◌∙◌}
use mathlib.Core.Bool.{true}
use mathlib.Core.List.{List, map}
use Prim.Native.Nat.{ℕ, ◌<◌}
use native.Mathlib.Omega.{arith}
use lib.ListN.{get_or}
use borrow.Author.Tests.{eq-eqb}
use Rattle.scheme.specs.Lists.{span}
use Rattle.scheme.specs.Scheme.{Arithmetic, sixteen, Plan, plan_good, places, usable, users_in, list_length, key, first_message, reply, total_at}
use Rattle.scheme.specs.Promise.{Table, Shown, list_good, shown}
use Rattle.scheme.specs.Totals.{Follows, ResiduesRight, Choice, RulesExplain}
use Rattle.scheme.specs.Laws.{Laws}
use Rattle.scheme.specs.Sharp.{TotalsNeeded}
use Rattle.scheme.proofs.Tests.{and_joined}
use Rattle.scheme.proofs.Lists.{in_span, map_back, map_span_length, map_below_at}
use Rattle.scheme.proofs.Sums.{zero_small}
use Rattle.scheme.proofs.Sets.{in_users, usable_size}
use Rattle.scheme.proofs.Keys.{elements_map}
use Rattle.scheme.proofs.Modular.{sixteen_laws}
use Rattle.scheme.proofs.Pooling.Totals.{rules_explain, residues_right}

pub zeros : Plan → List ℕ
zeros p = map (λ i. 0) (span (list_length p) 0)

pub zeros_good : (A : Arithmetic) (p : Plan) → Laws A p.users p.threshold → list_good A p (zeros p) ≡ true
unfolding list_good zeros
zeros_good A p L = and_joined (eq-eqb _ _ (map_span_length (λ i. 0) (list_length p) 0))
    (elements_map A (λ i. 0) (span (list_length p) 0) (λ i h. zero_small A _ _ L))

module _ (A : Arithmetic) (p : Plan) (L : Laws A p.users p.threshold) (v c : ℕ) (x y : Table)
    (u : usable p v ≡ true) where
  pub totals_told : (xs ys : List ℕ) → list_good A p xs ≡ true → list_good A p ys ≡ true → shown A p v c xs x ≡ shown A p v c ys y
      → (i : ℕ) → i < places p → total_at A p x v i ≡ total_at A p y v i
  unfolding shown ResiduesRight RulesExplain
  totals_told xs ys ok good same i h = sym (at x) ∙ ap (λ (l : List ℕ). get_or l i 0)
      (sym (residues_right A p L xs x v v firsts replies found.choice ok u (usable_size p v u) first found.right)
      ∙ residues_right A p L ys y v v firsts replies found.choice good u (usable_size p v u) second found.right) ∙ at y
    where
      firsts : (k place : ℕ) → ℕ
      firsts k i = get_or (first_message A p (key A p xs k) (x k)) i 0

      replies : (k block : ℕ) → ℕ
      replies k b = get_or (reply p (key A p xs k) k v) b 0

      first : Follows A p xs x v v firsts replies
      first = record { first = λ k i lo hi e l. refl; survives = λ k lo hi e. e; answer = λ k b lo hi e l. refl }

      second : Follows A p ys y v v firsts replies
      second = record {
        first = λ k i lo hi e l.
            ap (λ (l : List ℕ). get_or l i 0)
            (map_back (λ k. first_message A p (key A p xs k) (x k)) (λ k. first_message A p (key A p ys k) (y k)) (span p.users 1)
            (ap (λ (s : Shown). s.firsts) same) k (in_span p.users 1 k lo (omega arith)));
        survives = λ k lo hi e. e;
        answer = λ k b lo hi e l.
            ap (λ (l : List ℕ). get_or l b 0)
            (map_back (λ k. reply p (key A p xs k) k v) (λ k. reply p (key A p ys k) k v) (users_in p v) (ap (λ (s : Shown). s.replies) same) k
            (in_users p v k lo hi e));
      }

      found : Choice A p v replies
      found = rules_explain A p L xs x v v firsts replies ok u first

      at : (z : Table) → get_or (map (total_at A p z v) (span (places p) 0)) i 0 ≡ total_at A p z v i
      at z = map_below_at (total_at A p z v) (places p) i h

pub totals_needed : (A : Arithmetic) (p : Plan) → Laws A p.users p.threshold → TotalsNeeded A p
unfolding TotalsNeeded
totals_needed A p L v c x y i u h ne m =
    let fine = zeros_good A p L in
    ne (totals_told A p L v c x y u (zeros p) (m.partner (zeros p)) fine (m.stays (zeros p) fine).0 (m.same (zeros p) fine) i h)

pub totals_needed_sixteen : (p : Plan) → plan_good p ≡ true → TotalsNeeded sixteen p
totals_needed_sixteen p h = totals_needed sixteen p (sixteen_laws p h)
