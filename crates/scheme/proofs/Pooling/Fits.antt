-- What explains replies, user by user.
--   Fits, fits, fits_back     what `explains_all` says
--   fits_part, fits_same      fewer users, and choices that are equal at each block
-- Assumes nothing.
use mathlib.Core.Path.{◌≡◌, sym, ap, ◌∙◌}
use mathlib.Core.Bool.{true, ◌&&◌}
use mathlib.Core.List.{List}
use Prim.Native.Nat.{ℕ, ◌≤◌, ◌<◌}
use native.Mathlib.Omega.{arith}
use lib.Dec.{eqb}
use lib.ListN.{length}
use borrow.Author.Tests.{eqb-true}
use Rattle.scheme.specs.Lists.{span}
use Rattle.scheme.specs.Scheme.{Arithmetic, elements, Plan, in_set, users_in, row_value}
use Rattle.scheme.specs.Totals.{explains, explains_all}
use Rattle.scheme.proofs.Tests.{and_both}
use Rattle.scheme.proofs.Lists.{in_span, in_members, all_of_in, in_at}
use Rattle.scheme.proofs.Sets.{users_in_in}
use Rattle.scheme.proofs.Pooling.Totals.{unknown, explained, explained_back}

module _ (A : Arithmetic) (p : Plan) where
  pub record Fits (r : ℕ) (y : (k block : ℕ) → ℕ) (f : (block : ℕ) → List ℕ) : Type 0 where
    pub long : (b : ℕ) → b < p.blocks → length (f b) ≡ p.threshold
    pub small : (b : ℕ) → b < p.blocks → elements A (f b) ≡ true
    pub right : (b k : ℕ) → b < p.blocks → 1 ≤ k → k ≤ p.users → in_set r k ≡ true → row_value A p.threshold k (unknown (f b)) ≡ y k b

  pub fits : (r : ℕ) (y : (k block : ℕ) → ℕ) (f : (block : ℕ) → List ℕ) → explains_all A p r y f ≡ true → Fits r y f
  unfolding explains_all explains users_in
  fits r y f h = record {
    long = λ b i. (explained A p r y f h b i).long;
    small = λ b i. (explained A p r y f h b i).small;
    right = λ b k i lo hi m.
        let s = all_of_in _ (span p.blocks 0) h b (in_span p.blocks 0 b (omega arith) (omega arith)) in
        eqb-true _ _ (all_of_in _ (users_in p r) (and_both (eqb (length (f b)) p.threshold && elements A (f b)) _ s).1 k
        (in_members (in_set r) p.users 1 k lo (omega arith) m));
  }

  pub fits_back : (r : ℕ) (y : (k block : ℕ) → ℕ) (f : (block : ℕ) → List ℕ) → Fits r y f → explains_all A p r y f ≡ true
  fits_back r y f g = explained_back A p r y f (λ b i. record {
    long = g.long b i;
    small = g.small b i;
    fits = λ a l. let s = users_in_in p r _ (in_at (users_in p r) a l) in g.right b _ i s.0 s.1 s.2;
  })

  pub fits_part : (r v : ℕ) (y : (k block : ℕ) → ℕ) (f : (block : ℕ) → List ℕ) → ((k : ℕ) → 1 ≤ k → in_set v k ≡ true → in_set r k ≡ true)
      → Fits r y f → Fits v y f
  fits_part r v y f inside g = record { long = g.long; small = g.small; right = λ b k i lo hi m. g.right b k i lo hi (inside k lo m) }

  pub fits_same : (r : ℕ) (y : (k block : ℕ) → ℕ) (f g : (block : ℕ) → List ℕ) → ((b : ℕ) → b < p.blocks → f b ≡ g b) → Fits r y f → Fits r y g
  fits_same r y f g same h = record {
    long = λ b i. ap length (sym (same b i)) ∙ h.long b i;
    small = λ b i. ap (elements A) (sym (same b i)) ∙ h.small b i;
    right = λ b k i lo hi m. ap (λ (w : List ℕ). row_value A p.threshold k (unknown w)) (sym (same b i)) ∙ h.right b k i lo hi m;
  }
