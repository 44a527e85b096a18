-- The residues modulo a prime are a field, for every prime.
--   alike               numbers that differ by multiples of q have one remainder
--   mod-mul, mul_mod    so a factor may be replaced by its remainder
--   mods                ruleset: drops the remainders inside the sums and products of a remainder
--   el_path             residues with one number are one residue
--   inverse_right       a * inverse q a % q = 1
--   residue, residues   the residue of a number modulo a prime; the field
use mathlib.Core.Path.{◌≡◌, sym, ap, ◌∙◌}
use mathlib.Core.HLevel.{is_prop→PathP}
use Prim.Native.Nat.{ℕ, zero, suc, ◌+◌, ◌-◌, ◌*◌, ◌/◌, ◌%◌, ◌≤◌, ◌<◌}
use native.Mathlib.Bridge.{le_prop}
use native.Mathlib.Nat.{add_comm, add_assoc, add-zero, mul_comm, mul_assoc, mul-one, mul-add, mod-eq_of_lt, mod-mod, mod-add-mod, add-mod-mod, add-mul-mod_self_right, mod-add-div', div-add-mod', mod_self, zero-mod, mod-lt, add-sub_of_le, le_of_lt, le_refl, pos_of_ne-zero}
use native.Mathlib.Omega.{arith}
use Rattle.algebra.specs.Field.{Field}
use Rattle.algebra.specs.Residue.{El, el, Prime, inverse, inverse_from}

alike : (q a b m n : ℕ) → a + m * q ≡ b + n * q → a % q ≡ b % q
alike q a b m n e = sym (add-mul-mod_self_right a m q) ∙ ap (λ (x : ℕ). x % q) e ∙ add-mul-mod_self_right b n q

pub mod-mul : (a b q : ℕ) → a % q * b % q ≡ a * b % q
mod-mul a b q = alike q (a % q * b) (a * b) (a / q * b) 0 (omega (arith, ap (λ (x : ℕ). x * b) (mod-add-div' a q)))

pub mul_mod : (a b q : ℕ) → a * (b % q) % q ≡ a * b % q
mul_mod a b q = rw (mul_comm a (b % q), mul_comm a b) (mod-mul b a q)

pub ruleset mods = (mod-mod, mod-add-mod, add-mod-mod, mod-mul, mul_mod)

pub el_path : {q : ℕ} {x y : El q} → x.val ≡ y.val → x ≡ y
el_path {q} {x} {y} e = λ i. record { val = e i; small = is_prop→PathP (λ i. e i < q) (λ i. le_prop) x.small y.small i }

module _ {q : ℕ} (prime : Prime q) where
  pub prime_positive : 0 < q
  prime_positive = omega (arith, prime.two)

  -- one turn of the inverse: from q = s a + b and the inverse i of b to u = - s i, that of a
  turn : (a b s i t u m : ℕ) → s * a + b ≡ q → t + m * q ≡ s * i → u + t ≡ q → a * (u % q) % q ≡ b * i % q
  turn a b s i t u m e f g =
      mul_mod a u q
      ∙ alike q (a * u) (b * i) i (a + a * m) (omega (arith, ap (λ (x : ℕ). x * i) e, ap (λ (x : ℕ). a * x) f, ap (λ (x : ℕ). a * x) g))

  right_from : (fuel a : ℕ) → 0 < a → a ≤ fuel → a < q → a * inverse_from q fuel a % q ≡ 1
  unfolding inverse_from
  right_from zero a low few high = absurd (omega arith)
  right_from (suc n) zero low few high = absurd (omega arith)
  right_from (suc n) (suc zero) low few high = mod-eq_of_lt prime.two
  right_from (suc n) (suc (suc c)) low few high = step (suc (suc c)) (omega arith) few high (right_from n (q % suc (suc c)))
    where
      step : (a : ℕ) → 1 < a → a ≤ suc n → a < q → (0 < q % a → q % a ≤ n → q % a < q → q % a * inverse_from q n (q % a) % q ≡ 1)
          → a * ((q - q / a * inverse_from q n (q % a) % q) % q) % q ≡ 1
      step a more few high before =
          let less : q % a < a = mod-lt q (omega arith) in
          let i : ℕ = inverse_from q n (q % a) in
          turn a (q % a) (q / a) i _ _ (q / a * i / q) (div-add-mod' q a) (mod-add-div' (q / a * i) q) (omega (arith, mod-lt (q / a * i) prime_positive))
          ∙ before (pos_of_ne-zero (prime.no_divisor a more high)) (omega arith) (omega arith)

  pub inverse_right : {a : ℕ} → 0 < a → a < q → a * inverse q a % q ≡ 1
  unfolding inverse
  inverse_right {a} low high = right_from a a low (le_refl a) high

  abbrev pub residue : ℕ → El q
  residue = el q prime_positive

abbrev pub residues : (q : ℕ) → Prime q → Field
residues q prime = record {
  F = El q;
  𝟘 = residue prime 0;
  𝟙 = residue prime 1;
  add = λ x y. residue prime (x.val + y.val);
  mul = λ x y. residue prime (x.val * y.val);
  neg = λ x. residue prime (q - x.val);
  inv = λ x. residue prime (inverse q x.val);
  add_comm = λ x y. el_path (simp add_comm);
  add_assoc = λ x y z. el_path (simp (mods, add_assoc));
  add-zero = λ x. el_path (simp (mods, add-zero) (mod-eq_of_lt x.small));
  add_neg = λ x. el_path (simp (mods, add-sub_of_le (le_of_lt x.small)) (mod_self q ∙ sym (zero-mod q)));
  mul_comm = λ x y. el_path (simp mul_comm);
  mul_assoc = λ x y z. el_path (simp (mods, mul_assoc));
  mul-one = λ x. el_path (simp (mods, mul-one) (mod-eq_of_lt x.small));
  mul-add = λ x y z. el_path (simp (mods, mul-add));
  mul_inv = λ x ne.
      let some : 0 < x.val = pos_of_ne-zero (λ e. ne (el_path (e ∙ sym (zero-mod q)))) in
      el_path (simp mods (inverse_right prime some x.small ∙ sym (mod-eq_of_lt prime.two)));
}
