-- One reply set aside, over an arithmetic with its laws.
--   at_most_one, one_settled             at most one user fits, and replies are settled in one way
--   more_than, Ended, ended              replies that disagree are more than U; replies are settled, or apart
--   settled_residues, never_apart        where all else follows the rules
-- Assumes nothing.
use mathlib.Core.Path.{◌≡◌, refl, sym, ap, ◌∙◌, subst}
use mathlib.Core.Logic.{◌≢◌, ◌⊎◌, inl, inr, ⊎_elim}
use mathlib.Core.Bool.{Bool, true, false, cond}
use mathlib.Core.List.{List, map}
use Prim.Native.Nat.{ℕ, zero, suc, ◌+◌, ◌≤◌, ◌<◌}
use native.Mathlib.Decide.{dec_le, ℕ_discrete}
use native.Mathlib.Omega.{arith}
use lib.ListN.{get_or}
use borrow.Author.Tests.{eq-eqb, eqb-true}
use Rattle.scheme.specs.Lists.{span}
use Rattle.scheme.specs.Scheme.{Arithmetic, Plan, places, in_set, ones, usable, row_value, key, reply, total_at}
use Rattle.scheme.specs.Promise.{Table, list_good}
use Rattle.scheme.specs.Totals.{explains_all, totals, Choice, SomeChoice, ResiduesRight, RulesExplain}
use Rattle.scheme.specs.Aside.{without, NoChoice, Aside, AtMostOne, Settles, all_agree, one_aside, Apart, OneSettled, reply_right, named, OneFalse, SettledResidues, NeverApart}
use Rattle.scheme.specs.Laws.{Laws}
use Rattle.scheme.proofs.Tests.{holds}
use Rattle.scheme.proofs.Lists.{span_in, in_span, all_of_in, at_all_of, in_at}
use Rattle.scheme.proofs.Pooling.Totals.{unknown, some_choice, rules_explain, residues_right}
use Rattle.scheme.proofs.Pooling.Fits.{Fits, fits, fits_back, fits_part}
use Rattle.scheme.proofs.Pooling.Choices.{same_choice, decided}
use Rattle.scheme.proofs.Pooling.Without.{without_other, without_in, without_ones}

-- a choice that explains the others' replies and that of the user too
fits_joined : (A : Arithmetic) (p : Plan) (r k : ℕ) (y : (k block : ℕ) → ℕ) (f : (block : ℕ) → List ℕ) → 1 ≤ k → in_set r k ≡ true
    → Fits A p (without r k) y f → ((b : ℕ) → b < p.blocks → row_value A p.threshold k (unknown (f b)) ≡ y k b) → Fits A p r y f
fits_joined A p r k y f lo m g own = record { long = g.long; small = g.small; right = λ b i ib li hi h. pick b i ib li hi h (ℕ_discrete i k) }
  where
    pick : (b i : ℕ) → b < p.blocks → 1 ≤ i → i ≤ p.users → in_set r i ≡ true → Dec (i ≡ k) → row_value A p.threshold i (unknown (f b)) ≡ y i b
    pick b i ib li hi h (yes e) = subst (λ (i : ℕ). row_value A p.threshold i (unknown (f b)) ≡ y i b) (sym e) (own b ib)
    pick b i ib li hi h (no ne) = g.right b i ib li hi (without_other r k i lo m li ne ∙ h)

fits_without : (A : Arithmetic) (p : Plan) (r k : ℕ) (y : (k block : ℕ) → ℕ) (f : (block : ℕ) → List ℕ) → 1 ≤ k → in_set r k ≡ true
    → Fits A p r y f → Fits A p (without r k) y f
fits_without A p r k y f lo m = fits_part A p r (without r k) y f (λ i li h. (without_in r k i lo m li h).1)

module _ (A : Arithmetic) (p : Plan) (L : Laws A p.users p.threshold) where
  -- ---- two users that fit leave U replies in common, so one choice, which explains all
  module _ (r : ℕ) (y : (k block : ℕ) → ℕ) (k l : ℕ) (f g : (block : ℕ) → List ℕ) (many : p.threshold + 2 ≤ ones p.users r)
      (a : Aside A p r y k f) (c : Aside A p r y l g) (ne : k ≢ l) where
    inside : in_set (without r k) l ≡ true
    inside = without_other r k l a.low a.inside c.low (λ e. ne (sym e)) ∙ c.inside

    agreed : (b : ℕ) → b < p.blocks → f b ≡ g b
    agreed =
        let fewer = without_ones p.users (without r k) l c.low c.high inside in
        same_choice A p y L (without (without r k) l) f g
        (omega (arith, without_ones p.users r k a.low a.high a.inside))
        (fits_without A p (without r k) l y f c.low inside (fits A p _ y f a.others))
        (fits_part A p (without r l) _ y g (λ i li m.
        let s = without_in (without r k) l i c.low inside li m in
        without_other r l i c.low c.inside li s.0 ∙ (without_in r k i a.low a.inside li s.1).1) (fits A p _ y g c.others))

    explains_both : explains_all A p r y f ≡ true
    explains_both = fits_back A p r y f (fits_joined A p r k y f a.low a.inside (fits A p _ y f a.others) (λ b i.
        ap (λ (w : List ℕ). row_value A p.threshold k (unknown w)) (agreed b i)
        ∙ (fits A p _ y g c.others).right b k i a.low a.high (without_other r l k c.low c.inside a.low ne ∙ a.inside)))

  pub at_most_one : AtMostOne A p
  unfolding AtMostOne
  at_most_one r y k l f g many none a c = elim (ℕ_discrete k l) [ yes e ↦ e | no ne ↦ absurd (none f (explains_both r y k l f g many a c ne)) ]

  pub one_settled : OneSettled A p
  unfolding OneSettled AtMostOne
  one_settled r y _ _ _ _ many (all_agree f h) (all_agree g l) = (refl, same_choice A p y L r f g many (fits A p r y f h) (fits A p r y g l))
  one_settled r y _ _ _ _ many (all_agree f h) (one_aside l g m none c) = absurd (none f h)
  one_settled r y _ _ _ _ many (one_aside k f m none a) (all_agree g l) = absurd (none g l)
  one_settled r y _ _ _ _ many (one_aside k f m none a) (one_aside l g _ _ c) =
      let e : k ≡ l = at_most_one r y k l f g m none a c in (
        e,
        same_choice A p y L (without r k) f g (omega (arith, without_ones p.users r k a.low a.high a.inside))
            (fits A p _ y f a.others) (subst (λ (i : ℕ). Fits A p (without r i) y g) (sym e) (fits A p _ y g c.others)),
      )

  -- ---- some user fits, or none does
  record Found (r : ℕ) (y : (k block : ℕ) → ℕ) : Type 0 where
    user : ℕ
    choice : (block : ℕ) → List ℕ
    fit : Aside A p r y user choice

  pub record Ended (r : ℕ) (y : (k block : ℕ) → ℕ) : Type 0 where
    pub aside : ℕ
    pub choice : (block : ℕ) → List ℕ
    pub settles : Settles A p r y aside choice

  module _ (y : (k block : ℕ) → ℕ) (small : (k b : ℕ) → y k b < A.size) (r : ℕ) where
    None : (k : ℕ) → Type 0
    None k = (f : (block : ℕ) → List ℕ) → Aside A p r y k f → ⊥

    one_decided : p.threshold + 1 ≤ ones p.users r → (k : ℕ) → 1 ≤ k → k ≤ p.users → Found r y ⊎ None k
    unfolding None
    one_decided many k lo hi = elim (in_set r k) as (λ b. in_set r k ≡ b → Found r y ⊎ None k) [
      | true ↦ λ e. ⊎_elim (λ c. inl (record { user = k; choice = c.choice; fit = record { low = lo; high = hi; inside = e; others = c.right } }))
          (λ h. inr (λ f a. h f a.others)) (decided A p y L small (without r k) (omega (arith, without_ones p.users r k lo hi e)))
      | false ↦ λ e. inr (λ f a. holds (sym e ∙ a.inside))
    ] refl

    up_to : p.threshold + 1 ≤ ones p.users r → (n : ℕ) → n ≤ p.users → Found r y ⊎ ((k : ℕ) → k ≤ n → None k)
    unfolding None
    up_to many zero h = inr (λ k l f a. omega (arith, a.low))
    up_to many (suc n) h = ⊎_elim inl (λ g. ⊎_elim inl (λ last. inr (λ k l f a.
        elim (ℕ_discrete k (suc n)) [ yes e ↦ last f (subst (λ (i : ℕ). Aside A p r y i f) e a) | no ne ↦ g k (omega arith) f a ]))
        (one_decided many (suc n) (omega arith) h)) (up_to many n (omega arith))

    -- U replies agree, so those that disagree are U + 1 or more
    pub more_than : p.threshold ≤ ones p.users r → NoChoice A p r y → p.threshold + 1 ≤ ones p.users r
    unfolding SomeChoice
    more_than many none = elim (ℕ_discrete p.threshold (ones p.users r))
        [ yes e ↦ (let c = some_choice A p L r y e small in absurd (none c.choice c.right)) | no ne ↦ omega arith ]

    pub ended : p.threshold ≤ ones p.users r → Ended r y ⊎ Apart A p r y
    unfolding None
    ended many = ⊎_elim (λ c. inl (record { aside = 0; choice = c.choice; settles = all_agree c.choice c.right })) (λ none.
        elim (dec_le (p.threshold + 2) (ones p.users r)) [
          | yes l ↦ ⊎_elim (λ u. inl (record { aside = u.user; choice = u.choice; settles = one_aside u.user u.choice l none u.fit }))
              (λ g. inr (record { no_choice = none; no_aside = inr (λ k f a. g k a.high f a) })) (up_to (omega arith) p.users (omega arith))
          | no l ↦ inr (record { no_choice = none; no_aside = inl (omega (arith, more_than many none)) })
        ]) (decided A p y L small r many)

  -- ---- all but one reply follow the rules
  module _ (xs : List ℕ) (x : Table) (v r z : ℕ) (firsts replies : (k at : ℕ) → ℕ) (ok : list_good A p xs ≡ true) (u : usable p v ≡ true)
      (many : p.threshold + 2 ≤ ones p.users r) (o : OneFalse A p xs x v r z firsts replies) where
    enough : p.threshold ≤ ones p.users (without r z)
    enough = omega (arith, without_ones p.users r z o.low o.high o.inside)

    -- the replies that all users would send
    rules : (k block : ℕ) → ℕ
    rules k b = get_or (reply p (key A p xs k) k v) b 0

    survive : (k : ℕ) → 1 ≤ k → k ≤ p.users → in_set r k ≡ true → in_set v k ≡ true
    survive k lo hi m = elim (ℕ_discrete k z) [
      | yes e ↦ ap (in_set v) e ∙ o.survives
      | no ne ↦ o.others.survives k lo hi (without_other r z k o.low o.inside lo ne ∙ m)
    ]

    ruled : Choice A p r rules
    unfolding RulesExplain rules
    ruled = rules_explain A p L xs x v r firsts rules ok u (record { first = o.others.first; survives = survive; answer = λ k b lo hi m i. refl })

    ruled_fits : Fits A p r rules ruled.choice
    ruled_fits = fits A p r rules ruled.choice ruled.right

    -- what explains them explains the others' replies
    others_fit : Fits A p (without r z) replies ruled.choice
    unfolding rules
    others_fit = record {
      long = ruled_fits.long;
      small = ruled_fits.small;
      right = λ b k i lo hi m. ruled_fits.right b k i lo hi (without_in r z k o.low o.inside lo m).1 ∙ sym (o.others.answer k b lo hi m i);
    }

    z_fits : Aside A p r replies z ruled.choice
    z_fits = record { low = o.low; high = o.high; inside = o.inside; others = fits_back A p (without r z) replies _ others_fit }

    -- a reply that agrees with the others is right, and a right one agrees
    agreeing : (f : (block : ℕ) → List ℕ) → explains_all A p r replies f ≡ true → reply_right A p xs v z (replies z) ≡ true
    unfolding rules reply_right
    agreeing f h =
        let g = fits A p r replies f h in
        at_all_of _ (span p.blocks 0) (λ a l.
        let b : ℕ = get_or (span p.blocks 0) a 0 in
        let i : b < p.blocks = omega (arith, (span_in p.blocks 0 _ (in_at (span p.blocks 0) a l)).1) in
        eq-eqb _ _ (sym (g.right b z i o.low o.high o.inside)
        ∙ ap (λ (w : List ℕ). row_value A p.threshold z (unknown w))
        (same_choice A p replies L (without r z) f ruled.choice enough (fits_without A p r z replies f o.low o.inside g) others_fit b i)
        ∙ ruled_fits.right b z i o.low o.high o.inside))

    right_agrees : reply_right A p xs v z (replies z) ≡ true → explains_all A p r replies ruled.choice ≡ true
    unfolding rules reply_right
    right_agrees h = fits_back A p r replies _ (fits_joined A p r z replies _ o.low o.inside others_fit (λ b i.
        ruled_fits.right b z i o.low o.high o.inside
        ∙ sym (eqb-true _ _ (all_of_in _ (span p.blocks 0) h b (in_span p.blocks 0 b (omega arith) (omega arith))))))

    total : (f : (block : ℕ) → List ℕ) → Fits A p (without r z) replies f → totals A p v firsts f ≡ map (total_at A p x v) (span (places p) 0)
    unfolding ResiduesRight
    total f h = residues_right A p L xs x v (without r z) firsts replies f ok u enough o.others (fits_back A p _ replies f h)

    told : (k : ℕ) (f : (block : ℕ) → List ℕ) → Settles A p r replies k f
        → (k ≡ named A p xs v z (replies z)) × (totals A p v firsts f ≡ map (total_at A p x v) (span (places p) 0))
    unfolding named AtMostOne
    told _ _ (all_agree f h) = (
      ap (λ (b : Bool). cond b 0 z) (sym (agreeing f h)),
      total f (fits_without A p r z replies f o.low o.inside (fits A p r replies f h)),
    )
    told _ _ (one_aside k f _ none a) =
        let e : k ≡ z = at_most_one r replies k z f ruled.choice many none a z_fits in
        let false-reply : reply_right A p xs v z (replies z) ≡ false
        = elim (reply_right A p xs v z (replies z)) as (λ b. reply_right A p xs v z (replies z) ≡ b → b ≡ false)
        [ true ↦ λ h. absurd (none _ (right_agrees h)) | false ↦ λ h. refl ] refl in (
          e ∙ ap (λ (b : Bool). cond b 0 z) (sym false-reply),
          total f (subst (λ (i : ℕ). Fits A p (without r i) replies f) e (fits A p _ replies f a.others)),
        )

    not_apart : Apart A p r replies → ⊥
    not_apart h = ⊎_elim (λ (e : ones p.users r ≡ p.threshold + 1). omega arith) (λ g. g z ruled.choice z_fits) h.no_aside

  pub settled_residues : SettledResidues A p
  unfolding SettledResidues
  settled_residues xs x v r z firsts replies k f ok u many o = told xs x v r z firsts replies ok u many o k f

  pub never_apart : NeverApart A p
  unfolding NeverApart
  never_apart xs x v r z firsts replies ok u many o = not_apart xs x v r z firsts replies ok u many o
