-- The integers modulo a prime as an arithmetic with its laws: what a definition takes its field from.
--   modular_laws    for a prime above n + m
--   sixteen_field   modulo 65521
-- A record of laws holds their proofs, so this file, alone of its folder, leans on proofs: those of the residues.
use Rattle.std.specs.Prelude.{refl, ◌≢◌, ℕ, ◌+◌, ◌<◌}
use Rattle.std.proofs.Math.Path.{sym}
use Rattle.std.proofs.Common.{ap, ◌∙◌, arith}
use Rattle.std.proofs.Math.Nat.{mod-lt, mod-eq_of_lt}
use Rattle.algebra.specs.Field.{sub}
use Rattle.algebra.specs.Residue.{Prime}
use Rattle.algebra.proofs.Residue.{mods, el_path, prime_positive, inverse_right, residue, residues}
use Rattle.algebra.proofs.Primes.{prime_65521}
use Rattle.scheme.specs.Scheme.{modular, sixteen, q}
use Rattle.scheme.specs.Laws.{Laws}

module _ {q : ℕ} (prime : Prime q) where
  -- numbers below the prime are different as residues
  pub apart : {a b : ℕ} → a < q → b < q → a ≢ b → residue prime a ≢ residue prime b
  apart h l ne e = ne (sym (mod-eq_of_lt h) ∙ ap (λ x. x.val) e ∙ mod-eq_of_lt l)

  unfoldable pub modular_laws : (n m : ℕ) → n + m < q → Laws (modular q) n m
  unfolding sub
  modular_laws n m large = record {
    K = residues q prime;
    el = residue prime;
    val = λ x. x.val;
    val_small = λ x. x.small;
    el_val = λ x. el_path (mod-eq_of_lt x.small);
    val_el = λ a h. mod-eq_of_lt h;
    add_small = λ a b. mod-lt _ (prime_positive prime);
    subtract_small = λ a b. mod-lt _ (prime_positive prime);
    el_zero = refl;
    el_add = λ a b. el_path (simp mods);
    el_subtract = λ a b. el_path (simp mods);
    el_multiply = λ a b. el_path (simp mods);
    row = residue prime;
    col = residue prime;
    coefficient_right = λ k j h l. el_path
        (simp mods (inverse_right prime (omega (arith, h.0)) (omega (arith, h.1, l.1)) ∙ sym (mod-eq_of_lt prime.two)));
    rows_apart = λ i k h l. apart (omega (arith, h.1)) (omega (arith, l.1));
    columns_apart = λ i j h l. apart (omega (arith, h.1)) (omega (arith, l.1));
    meet = λ k j h l e. apart {a = k + j} (omega (arith, h.1, l.1)) (prime_positive prime) (omega (arith, h.0)) (el_path (simp mods) ∙ e);
  }

abbrev pub sixteen_field : (n m : ℕ) → n + m < q → Laws sixteen n m
sixteen_field = modular_laws prime_65521
