-- Sums and shares: ours modulo 65521 are document 03's.
--   noise_same                                what stands in the random list
--   inverse_same, coefficient_same            its inverses by powers are ours, for the numbers that occur
--   sum_set_same, sum_S_same, total_at_same   sums over a set
--   dotted_same                               a row of coefficients, from any column on
--   share_same, shares_same                   the two sums of a share are one sum over all columns
-- Assumes nothing.
use Rattle.std.proofs.Common.{◌≡◌, refl, sym, ap, ap₂, ◌∙◌, Bool, true, false, ◌&&◌, cond, List, ◌∷◌, map, ℕ, zero, suc, ◌+◌, ◌*◌, ◌-◌, ◌%◌, ◌≤◌, ◌<◌, zero-add, mod-eq_of_lt, arith, eqb-true, le-leb, eqb, get_or}
use native.Mathlib.Decide.{ℕ_discrete}
use borrow.Author.Tests.{lt-leb}
use Rattle.algebra.specs.Residue.{inverse, inverse_from}
use Rattle.scheme.specs.Limits.{points}
use Rattle.scheme.specs.Lists.{span, keep, members}
use Rattle.scheme.specs.Scheme.{q, sixteen, sum, items, places, in_set, usable, users_in, mask, noise, noise_start, column, row_value, share, shares, total_at}
use Rattle.scheme.specs.Good.{Good}
use Rattle.scheme.proofs.Tests.{and_both}
use Rattle.scheme.proofs.Lists.{span_append}
use Rattle.scheme.proofs.Sums.{sum_small, sum_append}
use Rattle.scheme.proofs.Modular.{sixteen_sums}
use Rattle.document03.specs.Ours.{our_plan}
use Rattle.document03.specs.Scheme as D
use Rattle.document03.proofs.Sets.{places_same, in_set_same, usable_index}

-- ---- the random list
pub noise_same : (p : D.Plan) (xs : List ℕ) (v b i : ℕ) → usable (our_plan p) v ≡ true → D.noise p xs v b i ≡ noise (our_plan p) xs v b i
unfolding D.noise noise noise_start
noise_same p xs v b i h = ap₂ (λ (n r : ℕ). get_or xs (p.k * n + (r * p.m + b) * p.t + i) 0) (places_same p) (usable_index p v h)

-- ---- inverses: those of the numbers from 2 on, below points, are computed
abbrev agree : (f g : ℕ → ℕ) → (n a : ℕ) → Bool
agree f g zero a = true
agree f g (suc n) a = eqb (f a) (g a) && agree f g n (suc a)

agree_at : (f g : ℕ → ℕ) (n a i : ℕ) → agree f g n a ≡ true → a ≤ i → i < a + n → f i ≡ g i
agree_at f g zero a i e lo hi = absurd (omega arith)
agree_at f g (suc n) a i e lo hi = let s = and_both _ _ e in pick (ℕ_discrete a i) (eqb-true _ _ s.0) (agree_at f g n (suc a) i s.1)
  where
    pick : Dec (a ≡ i) → f a ≡ g a → (suc a ≤ i → i < suc a + n → f i ≡ g i) → f i ≡ g i
    pick (yes r) t rest = rw (← r) t
    pick (no r) t rest = rest (omega arith) (omega arith)

pub inverse_same : (a : ℕ) → 2 ≤ a → a < points → D.inverse a ≡ inverse q a
unfolding D.inverse D.power inverse inverse_from
inverse_same a lo hi = agree_at D.inverse (inverse q) (points - 2) 2 a refl lo hi

pub coefficient_same : (k j : ℕ) → 2 ≤ k + j → k + j < points → D.coefficient k j ≡ sixteen.coefficient k j
unfolding D.coefficient
coefficient_same k j = inverse_same (k + j)

-- ---- sums
sum_span : (m n : ℕ) (f : ℕ → ℕ) → (sum sixteen (span m 1) f + sum sixteen (span n (suc m)) f) % q ≡ sum sixteen (span (m + n) 1) f
sum_span m n f =
    let e : suc m ≡ 1 + m = omega arith in
    ap (λ (j : ℕ). (sum sixteen (span m 1) f + sum sixteen (span n j) f) % q) e
    ∙ sym (ap (λ (l : List ℕ). sum sixteen l f) (span_append m n 1) ∙ sum_append sixteen 0 0 sixteen_sums (span m 1) (span n (1 + m)) f)

pub sum_set_same : (n k v : ℕ) (f : ℕ → ℕ) → D.sum_set n k v f ≡ sum sixteen (members (in_set v) n k) f
unfolding D.sum_set sum
sum_set_same zero k v f = refl
sum_set_same (suc n) k v f =
    ap₂ (λ (b : Bool) (s : ℕ). (cond b (f k) 0 + s) % q) (in_set_same v k) (sum_set_same n (suc k) v f) ∙ step (in_set v k) (members (in_set v) n (suc k))
  where
    step : (b : Bool) (l : List ℕ) → (cond b (f k) 0 + sum sixteen l f) % q ≡ sum sixteen (keep b k l) f
    step true l = refl
    step false l = ap (λ (s : ℕ). s % q) (zero-add (sum sixteen l f)) ∙ mod-eq_of_lt (sum_small sixteen 0 0 sixteen_sums l f)

pub sum_S_same : (p : D.Plan) (xs : List ℕ) (v i : ℕ) → D.sum_S p xs v i ≡ sum sixteen (users_in (our_plan p) v) (λ k. mask (our_plan p) xs k i)
unfolding D.sum_S D.S D.places D.items mask places items users_in
sum_S_same p xs v i = sum_set_same p.k 1 v (λ k. mask (our_plan p) xs k i)

pub total_at_same : (p : D.Plan) (x : ℕ → List ℕ) (v i : ℕ) → D.total_at p x v i ≡ total_at sixteen (our_plan p) x v i
unfolding D.total_at total_at users_in
total_at_same p x v i = sum_set_same p.k 1 v (λ k. get_or (x k) i 0)

pub dotted_same : (n j k : ℕ) (f g : ℕ → ℕ) → 2 ≤ k + j → k + j + n ≤ points → ((i : ℕ) → j ≤ i → i < j + n → f i ≡ g i)
    → D.dotted n j k f ≡ sum sixteen (span n j) (λ i. inverse q (k + i) * g i)
unfolding D.dotted sum
dotted_same zero j k f g lo hi h = refl
dotted_same (suc n) j k f g lo hi h =
    ap₂ (λ (a b : ℕ). (a + b) % q) (ap₂ (λ (a b : ℕ). a * b) (coefficient_same k j lo (omega arith)) (h j (omega arith) (omega arith)))
    (dotted_same n (suc j) k f g (omega arith) (omega arith) (λ i a b. h i (omega arith) (omega arith)))

-- ---- shares
module _ (p : D.Plan) (xs : List ℕ) (v : ℕ) (h : usable (our_plan p) v ≡ true) where
  column_low : (b j : ℕ) → j ≤ items (our_plan p) → D.sum_S p xs v (b * D.items p + (j - 1)) ≡ column sixteen (our_plan p) xs v b j
  unfolding D.items items column
  column_low b j l = rw (le-leb j (items (our_plan p)) l) (sum_S_same p xs v (b * items (our_plan p) + (j - 1)))

  column_high : (b j : ℕ) → items (our_plan p) < j → D.noise p xs v b (j - suc (D.items p)) ≡ column sixteen (our_plan p) xs v b j
  unfolding D.items items column
  column_high b j l = rw (lt-leb j (items (our_plan p)) l) (noise_same p xs v b (j - suc (items (our_plan p))) h)

  module _ (g : Good (our_plan p)) (k : ℕ) (lo : 1 ≤ k) (hi : k ≤ p.k) where
    pub share_same : (b : ℕ) → D.share p xs k v b ≡ share sixteen (our_plan p) xs k v b
    unfolding D.share share row_value D.items items
    share_same b =
        let c = column sixteen (our_plan p) xs v b in
        let n = items (our_plan p) in
        let whole : n + p.t ≡ p.u = omega (arith, g.collusion_high) in
        let f : ℕ → ℕ = λ j. inverse q (k + j) * c j in
        ap₂ (λ (a b : ℕ). (a + b) % q)
        (dotted_same n 1 k _ c (omega arith) (omega (arith, g.users_high, g.threshold_high)) (λ j a z. column_low b j (omega arith)))
        (dotted_same p.t (suc n) k _ c (omega arith) (omega (arith, g.users_high, g.threshold_high, g.collusion_high))
        (λ j a z. column_high b j (omega arith)))
        ∙ sum_span n p.t f ∙ ap (λ (m : ℕ). sum sixteen (span m 1) f) whole

    shares_from_same : (n b : ℕ) → D.shares_from n b p xs k v ≡ map (share sixteen (our_plan p) xs k v) (span n b)
    unfolding D.shares_from
    shares_from_same zero b = refl
    shares_from_same (suc n) b = ap₂ ◌∷◌ (share_same b) (shares_from_same n (suc b))

    pub shares_same : D.shares p xs k v ≡ shares sixteen (our_plan p) xs k v
    unfolding D.shares shares
    shares_same = shares_from_same p.m 0
