-- The computed tests of specs/Finish.antt and what settles replies, over an arithmetic with its laws.
--   agree_right                 where anything explains the replies of a set, their closed solution does
--   settled_right, is_right     replies that pass are settled, and settled ones pass
--   not_settled                 replies that nothing settles do not pass
--   apart_right                 and replies that do not pass are apart
--   aside_known, choice_known   what settles them is what is computed
-- Assumes nothing.
use Rattle.std.proofs.Common.{◌≡◌, refl, sym, ap, ◌∙◌, subst, inl, inr, Bool, true, false, cond, ◌&&◌, ◌||◌, List, [], ◌∷◌, ℕ, ◌+◌, ◌≤◌, ◌<◌, arith, ltb, leb, length, get_or, ltb-true, leb-true, lt-ltb, le-leb}
use native.Mathlib.Decide.{dec_le}
use Rattle.algebra.specs.Sums.{In}
use Rattle.scheme.specs.Limits.{most_users, most_threshold}
use Rattle.scheme.specs.Scheme.{Arithmetic, Plan, plan_good, in_set, ones, users_in}
use Rattle.scheme.specs.Laws.{Laws}
use Rattle.scheme.specs.Totals.{explains_all}
use Rattle.scheme.specs.Aside.{without, NoChoice, Aside, Settles, all_agree, one_aside, Apart, OneSettled}
use Rattle.scheme.proofs.Good.{good}
use Rattle.scheme.proofs.Tests.{is_false, holds, and_both, and_joined}
use Rattle.scheme.proofs.Lists.{members_in, in_members, in_at}
use Rattle.scheme.proofs.Laws.{laws_of}
use Rattle.scheme.proofs.Pooling.Totals.{Explained, explained, explained_back, settled}
use Rattle.scheme.proofs.Pooling.Without.{without_ones}
use Rattle.scheme.proofs.Pooling.Aside.{one_settled, more_than}
use Rattle.finish.specs.Finish.{choice_of, agree, fitting, aside_of, heard, is_settled}
use Rattle.finish.proofs.Blocks.{value_at, explained_small, choice_first}

-- a list with an entry
some_in : (k : ℕ) (l : List ℕ) → In k l → 0 < length l
some_in k [] m = absurd m
some_in k (x ∷ l) m = omega arith

module _ (A : Arithmetic) (L : Laws A most_users most_threshold) (p : Plan) (g : plan_good p ≡ true) (y : (k block : ℕ) → ℕ) where
  agree_right : (r : ℕ) → p.threshold ≤ ones p.users r → (f : (block : ℕ) → List ℕ) → explains_all A p r y f ≡ true → agree A L p r y ≡ true
  unfolding agree
  agree_right r many f h =
      explained_back A p r y (choice_of A L p r y) (λ b i.
      let first = choice_first A L p r (good p g) many y b (λ a l. rw (value_at p r y b a l) (explained_small A L p r y f h a b l i)) in
      subst (Explained A p (users_in p r) (length (users_in p r)) (λ k. y k b))
      (settled A p (laws_of L p g) r y many b i (choice_of A L p r y b) first f h) (explained A p r y f h b i))

  module _ (r : ℕ) (many : p.threshold ≤ ones p.users r) where
    pub settled_right : is_settled A L p r y ≡ true → Settles A p r y (aside_of A L p r y) (choice_of A L p (heard A L p r y) y)
    unfolding is_settled aside_of heard agree fitting
    settled_right = go (agree A L p r y) refl
      where
        go : (b : Bool) → agree A L p r y ≡ b
            → (b || (leb (p.threshold + 2) (ones p.users r) && ltb 0 (length (fitting A L p r y)))) ≡ true
            → Settles A p r y (cond b 0 (get_or (fitting A L p r y) 0 0))
            (choice_of A L p (cond b r (without r (cond b 0 (get_or (fitting A L p r y) 0 0)))) y)
        go true e h = all_agree (choice_of A L p r y) e
        go false e h =
            let two = and_both (leb (p.threshold + 2) (ones p.users r)) (ltb 0 (length (fitting A L p r y))) h in
            let k = get_or (fitting A L p r y) 0 0 in
            let m = members_in _ p.users 1 k (in_at (fitting A L p r y) 0 (ltb-true _ _ two.1)) in
            let t = and_both (in_set r k) (agree A L p (without r k) y) m.2 in
            one_aside k (choice_of A L p (without r k) y) (leb-true _ _ two.0) (λ f x. holds (sym e ∙ agree_right r many f x))
            (record { low = m.0; high = omega (arith, m.1); inside = t.0; others = t.1 })

    pub is_right : (k : ℕ) (f : (block : ℕ) → List ℕ) → Settles A p r y k f → is_settled A L p r y ≡ true
    unfolding is_settled fitting
    is_right _ _ (all_agree f h) = rw (agree_right r many f h) refl
    is_right _ _ (one_aside k f l none a) =
        let e = agree_right (without r k) (omega (arith, without_ones p.users r k a.low a.high a.inside)) f a.others in
        let m = in_members (λ k. in_set r k && agree A L p (without r k) y) p.users 1 k a.low (omega (arith, a.high)) (and_joined a.inside e) in
        ap (λ (b : Bool). agree A L p r y || b) (and_joined (le-leb _ _ l) (lt-ltb _ _ (some_in k (fitting A L p r y) m)))
        ∙ elim (agree A L p r y) as (λ b. (b || true) ≡ true) [ true ↦ refl | false ↦ refl ]

    refuted : (k : ℕ) (f : (block : ℕ) → List ℕ) → NoChoice A p r y
        → (p.threshold + 2 ≤ ones p.users r → (k : ℕ) (f : (block : ℕ) → List ℕ) → Aside A p r y k f → ⊥) → Settles A p r y k f → ⊥
    refuted _ _ none no_aside (all_agree f h) = none f h
    refuted _ _ none no_aside (one_aside k f l _ a) = no_aside l k f a

    pub not_settled : NoChoice A p r y → (p.threshold + 2 ≤ ones p.users r → (k : ℕ) (f : (block : ℕ) → List ℕ) → Aside A p r y k f → ⊥)
        → is_settled A L p r y ≡ false
    not_settled none no_aside = is_false _ (λ e. refuted _ _ none no_aside (settled_right e))

    pub apart_right : ((k b : ℕ) → y k b < A.size) → is_settled A L p r y ≡ false → Apart A p r y
    apart_right small e =
        let none : NoChoice A p r y = λ f h. holds (sym e ∙ is_right _ _ (all_agree f h)) in
        record {
          no_choice = none;
          no_aside = elim (dec_le (p.threshold + 2) (ones p.users r)) [
            | yes l ↦ inr (λ k f a. holds (sym e ∙ is_right k f (one_aside k f l none a)))
            | no l ↦ inl (omega (arith, more_than A p (laws_of L p g) y small r many none))
          ];
        }

    module _ (k : ℕ) (f : (block : ℕ) → List ℕ) (h : Settles A p r y k f) where
      pub aside_known : k ≡ aside_of A L p r y
      unfolding OneSettled
      aside_known = (one_settled A p (laws_of L p g) r y k _ f _ many h (settled_right (is_right k f h))).0

      pub choice_known : (b : ℕ) → b < p.blocks → f b ≡ choice_of A L p (heard A L p r y) y b
      unfolding OneSettled
      choice_known = (one_settled A p (laws_of L p g) r y k _ f _ many h (settled_right (is_right k f h))).1
