-- Tests and the facts that they stand for.
--   holds                     a test that is true, as a fact
--   is_false                  a test by what it would say
--   same_test                 two tests of which each gives the other
--   and_both, and_joined      the two halves of a true `&&`
--   and_true, and_false       `&&` with a test that is settled
--   not_not                   `not` twice
--   Past, last_arm            not one of the first k numbers: of those up to k, the last; so for what a match leaves behind its arms 0, 1, ..
--   none_below                no number is below 0
-- Assumes nothing.
use mathlib.Core.Path.{◌≡◌, refl, sym, ap₂, subst}
use mathlib.Core.Bool.{Bool, true, false, ◌&&◌, not}
use Prim.Native.Nat.{ℕ, zero, suc, ◌≤◌, ◌<◌}
use native.Mathlib.Nat.{le_antisymm}
use native.Mathlib.Omega.{arith}
use lib.Dec.{T}

pub holds : {b : Bool} → b ≡ true → T b
holds e = subst T (sym e) tt

pub is_false : (b : Bool) → (b ≡ true → ⊥) → b ≡ false
is_false true h = absurd (h refl)
is_false false h = refl

pub same_test : (a b : Bool) → (a ≡ true → b ≡ true) → (b ≡ true → a ≡ true) → a ≡ b
same_test true b f g = sym (f refl)
same_test false b f g = sym (is_false b (λ e. holds (g e)))

pub and_both : (a b : Bool) → (a && b) ≡ true → (a ≡ true) × (b ≡ true)
and_both true b e = (refl, e)
and_both false b e = absurd (holds e)

pub and_joined : {a b : Bool} → a ≡ true → b ≡ true → (a && b) ≡ true
and_joined {a} {b} e f = ap₂ (λ (x y : Bool). x && y) e f

pub and_true : (b : Bool) → (b && true) ≡ b
and_true true = refl
and_true false = refl

pub and_false : (b : Bool) → (b && false) ≡ false
and_false true = refl
and_false false = refl

pub not_not : (b : Bool) → not (not b) ≡ b
not_not true = refl
not_not false = refl

abbrev pub Past : (k n : ℕ) → Type 0
Past zero n = Unit {0}
Past (suc k) n = Past k n × (n ≡ k → ⊥)

past : (k n : ℕ) → Past k n → k ≤ n
past zero n h = omega arith
past (suc k) n h = let l = past k n h.0 in omega arith

pub last_arm : (k n : ℕ) → Past k n → n ≤ k → n ≡ k
last_arm k n h l = le_antisymm l (past k n h)

pub none_below : (i : ℕ) → i < 0 → ⊥
none_below i h = omega arith
