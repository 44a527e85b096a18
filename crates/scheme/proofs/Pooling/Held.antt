-- Sets made by a test, parts of a set, and the elements held.
--   in_half                              the users of a set but the first
--   set_of_below, set_of_in              the users that pass a test, as a set
--   Part, part                           as many users of a set as are wanted
--   complete_below, complete_in, complete_held     the users with all their elements held
--   with_small, with_held                one element more
--   state_same                           states with the same elements
-- Assumes nothing.
use mathlib.Core.Path.{◌≡◌, refl, sym, ap, ap₂, ◌∙◌}
use mathlib.Core.Logic.{◌⊎◌, inl, inr}
use mathlib.Core.Bool.{Bool, true, false, ◌&&◌, cond}
use mathlib.Core.Option.{Option, some}
use Prim.Native.Nat.{ℕ, zero, suc, ◌+◌, ◌*◌, ◌-◌, ◌/◌, ◌%◌, ◌^◌, ◌≤◌, ◌<◌}
use native.Mathlib.Nat.{pow-suc, pow-succ', div-div-eq-div-mul, div-one, mod-lt, zero-add, zero-lt-suc}
use native.Mathlib.Decide.{dec_le}
use native.Mathlib.Omega.{arith}
use lib.Dec.{eqb}
use borrow.Author.Tests.{eqb-true}
use Rattle.scheme.specs.Lists.{span, all_of}
use Rattle.scheme.specs.Scheme.{Plan, in_set, ones}
use Rattle.scheme.specs.Service.{Phase, State, is_held, element_of, with_element, set_of, complete_set, values}
use Rattle.scheme.proofs.Tests.{and_both, holds}
use Rattle.scheme.proofs.Lists.{high, low, in_span, all_of_in}

-- ---- the lowest bit, and the others
abbrev bit : Bool → ℕ
bit b = cond b 1 0

bit_lt : (b : Bool) → bit b < 2
bit_lt true = omega arith
bit_lt false = omega arith

in_first : (b : Bool) (v : ℕ) → in_set (v * 2 + bit b) 1 ≡ b
unfolding in_set
in_first b v = ap (λ (x : ℕ). eqb (x % 2) 1) (div-one (v * 2 + bit b)) ∙ ap (λ (x : ℕ). eqb x 1) (low v (bit b) 2 (bit_lt b))
    ∙ elim b as (λ b. eqb (bit b) 1 ≡ b) [ true ↦ refl | false ↦ refl ]

pub in_half : (v k : ℕ) → in_set v (suc (suc k)) ≡ in_set (v / 2) (suc k)
unfolding in_set
in_half v k =
    let e : suc k - 1 ≡ k = omega arith in
    let d : suc (suc k) - 1 ≡ suc k = omega arith in
    ap (λ (x : ℕ). eqb (x % 2) 1)
    (ap (λ (i : ℕ). v / 2 ^ i) d ∙ ap (λ (x : ℕ). v / x) (pow-succ' 2 k) ∙ sym (div-div-eq-div-mul v 2 (2 ^ k)) ∙ ap (λ (i : ℕ). v / 2 / 2 ^ i) (sym e))

-- ---- the users that pass a test
set_of_shift : (t : ℕ → Bool) (n k : ℕ) → set_of t n (suc (suc k)) ≡ set_of (λ i. t (suc i)) n (suc k) * 2
unfolding set_of
set_of_shift t zero k = refl
set_of_shift t (suc n) k =
    let e : suc (suc k) - 1 ≡ suc (suc k - 1) = omega arith in
    let double : (b : Bool) → cond b (2 ^ (suc (suc k) - 1)) 0 ≡ cond b (2 ^ (suc k - 1)) 0 * 2
    = elim [ true ↦ ap (λ (i : ℕ). 2 ^ i) e ∙ pow-suc 2 (suc k - 1) | false ↦ refl ] in
    omega (arith, double (t (suc (suc k))), set_of_shift t n (suc k))

set_of_step : (t : ℕ → Bool) (n : ℕ) → set_of t (suc n) 1 ≡ set_of (λ i. t (suc i)) n 1 * 2 + bit (t 1)
unfolding set_of
set_of_step t n = omega (arith, set_of_shift t n 0)

pub set_of_below : (t : ℕ → Bool) (n : ℕ) → set_of t n 1 < 2 ^ n
unfolding set_of
set_of_below t zero = omega arith
set_of_below t (suc n) = omega (arith, set_of_step t n, bit_lt (t 1), set_of_below (λ i. t (suc i)) n, pow-suc 2 n)

pub set_of_in : (t : ℕ → Bool) (n k : ℕ) → 1 ≤ k → k ≤ n → in_set (set_of t n 1) k ≡ t k
set_of_in t n zero lo hi = absurd (omega arith)
set_of_in t zero (suc k) lo hi = absurd (omega arith)
set_of_in t (suc n) (suc zero) lo hi = ap (λ (v : ℕ). in_set v 1) (set_of_step t n) ∙ in_first (t 1) _
set_of_in t (suc n) (suc (suc k)) lo hi = in_half (set_of t (suc n) 1) k
    ∙ ap (λ (v : ℕ). in_set v (suc k)) (ap (λ (v : ℕ). v / 2) (set_of_step t n) ∙ high (set_of (λ i. t (suc i)) n 1) (bit (t 1)) 2 (bit_lt (t 1)))
    ∙ set_of_in (λ i. t (suc i)) n (suc k) (omega arith) (omega arith)

-- ---- u of the users of a set: the highest
pub record Part (n v u : ℕ) : Type 0 where
  pub set : ℕ
  pub size : ones n set ≡ u
  pub inside : (k : ℕ) → 1 ≤ k → in_set set k ≡ true → in_set v k ≡ true

pub part : (n v u : ℕ) → u ≤ ones n v → Part n v u
unfolding ones
part zero v u h = record { set = v; size = omega arith; inside = λ k lo e. e }
part (suc n) v u h = pick (dec_le u (ones n (v / 2))) (part n (v / 2) u)
  where
    inside : (w : ℕ) → ((k : ℕ) → 1 ≤ k → in_set w k ≡ true → in_set (v / 2) k ≡ true)
        → (k : ℕ) → 1 ≤ k → in_set (w * 2 + bit false) k ≡ true → in_set v k ≡ true
    inside w h zero lo e = absurd (omega arith)
    inside w h (suc zero) lo e = absurd (holds (sym (in_first false w) ∙ e))
    inside w h (suc (suc k)) lo e = in_half v k
        ∙ h (suc k) (omega arith) (ap (λ (x : ℕ). in_set x (suc k)) (sym (high w (bit false) 2 (bit_lt false))) ∙ sym (in_half (w * 2 + bit false) k) ∙ e)

    pick : Dec (u ≤ ones n (v / 2)) → (u ≤ ones n (v / 2) → Part n (v / 2) u) → Part (suc n) v u
    pick (yes l) rest =
        let r = rest l in
        let half = high r.set (bit false) 2 (bit_lt false) in
        record {
          set = r.set * 2 + bit false;
          size = ap₂ ◌+◌ (low r.set (bit false) 2 (bit_lt false)) (ap (ones n) half ∙ r.size) ∙ zero-add u;
          inside = inside r.set r.inside;
        }
    pick (no l) rest = record { set = v; size = omega (arith, mod-lt v (zero-lt-suc 1)); inside = λ k lo e. e }

-- ---- what is held
module _ (p : Plan) (f : (k at : ℕ) → Option ℕ) (n : ℕ) where
  pub complete_below : complete_set p f n < 2 ^ p.users
  unfolding complete_set
  complete_below = set_of_below _ p.users

  pub complete_in : (k : ℕ) → 1 ≤ k → k ≤ p.users → in_set (complete_set p f n) k ≡ all_of (λ i. is_held (f k i)) (span n 0)
  unfolding complete_set
  complete_in k lo hi = set_of_in _ p.users k lo hi

  pub complete_held : (k : ℕ) → 1 ≤ k → k ≤ p.users → in_set (complete_set p f n) k ≡ true → (i : ℕ) → i < n → is_held (f k i) ≡ true
  complete_held k lo hi e i h = all_of_in (λ i. is_held (f k i)) (span n 0) (sym (complete_in k lo hi) ∙ e) i (in_span n 0 i (omega arith) (omega arith))

module _ (k i x : ℕ) (f : (k at : ℕ) → Option ℕ) where
  pub with_small : (m : ℕ) → x < m → ((l j : ℕ) → values f l j < m) → (l j : ℕ) → values (with_element k i x f) l j < m
  unfolding with_element element_of
  with_small m h small l j = elim (eqb l k && eqb j i) as (λ b. element_of (cond b (some x) (f l j)) < m) [ true ↦ h | false ↦ small l j ]

  pub with_held : (l j : ℕ) → is_held (with_element k i x f l j) ≡ true → (l ≡ k) ⊎ (is_held (f l j) ≡ true)
  unfolding with_element
  with_held l j =
      elim (eqb l k && eqb j i) as (λ b. (eqb l k && eqb j i) ≡ b → is_held (cond b (some x) (f l j)) ≡ true → (l ≡ k) ⊎ (is_held (f l j) ≡ true))
      [ true ↦ λ t e. inl (eqb-true l k (and_both (eqb l k) (eqb j i) t).0) | false ↦ λ t e. inr e ] refl

pub state_same : {g : Phase} {p : Plan} {r v : ℕ} {xs xs' ys ys' : (k at : ℕ) → Option ℕ} →
    ((k i : ℕ) → xs k i ≡ xs' k i) → ((k b : ℕ) → ys k b ≡ ys' k b) →
    ◌≡◌ {A = State} (record { phase = g; plan = p; round = r; survivors = v; firsts = xs; replies = ys })
    (record { phase = g; plan = p; round = r; survivors = v; firsts = xs'; replies = ys' })
state_same {g} {p} {r} {v} e d = λ t. record { phase = g; plan = p; round = r; survivors = v; firsts = λ k i. e k i t; replies = λ k b. d k b t }
