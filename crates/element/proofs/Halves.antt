-- Products in the halves of a word of w numbers (Montgomery).
--   wrapped, unwrapped      a number that is w more, or less, than one below w
--   add_wraps               a sum modulo q that wraps at w: what q is short of w more, where it passes q
--   subtract_wraps          a difference modulo q that wraps at w: as much less, where it is below zero
--   cancel                  modulo q, a factor that has an inverse
--   key_of                  the second number of a prepared factor, from an inverse of q modulo w
--   halves_scaled, scaled   the difference of the high halves is the product with the prepared factor; the same behind a sum
--   high_low                the high half of a product of a word's number is below the other factor's bound
-- Assumes nothing.
use Rattle.std.proofs.Common.{◌≡◌, ℕ, ◌+◌, ◌-◌, ◌*◌, ◌/◌, ◌%◌, ◌<◌, ◌≤◌, Bool, true, false, cond, ltb, leb, sym, refl, ap, ◌∙◌, mod-eq_of_lt, mul_assoc, mul_comm, div-lt_iff_lt-mul, add-mul, mul-le-mul_left, mul-lt-mul_of_pos_right, mul-one, arith, ltb-false, ltb-true, leb-false, leb-true}
use native.Mathlib.Nat.{mod-add-mod, add-mod-mod, mod-add-div', add-mod_right, add-mul-mod_self_right}
use Rattle.algebra.proofs.Residue.{mod-mul, mul_mod}
use Rattle.element.specs.Halves.{Scales}

-- ---- sums and differences
wrapped : {w n d : ℕ} → n ≡ d + w → d < w → n % w ≡ d
wrapped {w} {n} {d} e h = ap (λ (x : ℕ). x % w) e ∙ add-mod_right d w ∙ mod-eq_of_lt h

-- a number that w - d added to wraps to a
unwrapped : {w r a : ℕ} (n d : ℕ) → r < w → n + d ≡ w → (r + n) % w ≡ a → r ≡ (a + d) % w
unwrapped {w} {r} {a} n d h l e =
    sym (ap (λ (x : ℕ). (x + d) % w) (sym e) ∙ mod-add-mod (r + n) w d ∙ wrapped (omega (arith, l)) h)

module _ {w q a b : ℕ} (low : q ≤ w) (a-low : a < q) (b-low : b < q) where
  pub add_wraps : ((a + b) % w + cond (leb (q - b) a) (w - q) 0) % w ≡ (a + b) % q
  add_wraps = mod-add-mod (a + b) w _ ∙ go (leb (q - b) a) refl
    where
      go : (t : Bool) → leb (q - b) a ≡ t → (a + b + cond t (w - q) 0) % w ≡ (a + b) % q
      go true e =
          let h : q ≤ a + b = omega (arith, leb-true (q - b) a e, b-low) in
          wrapped {d = a + b - q} (omega (arith, h, low)) (omega (arith, a-low, b-low, low)) ∙ sym (wrapped (omega (arith, h)) (omega (arith, a-low, b-low)))
      go false e =
          let h : a + b < q = omega (arith, leb-false (q - b) a e, b-low) in
          mod-eq_of_lt {n = a + b + 0} {m = w} (omega (arith, h, low)) ∙ omega (arith, mod-eq_of_lt h)

  pub subtract_wraps : (m r : ℕ) → m < w → r < w → (m + b) % w ≡ a → (r + cond (ltb a b) (w - q) 0) % w ≡ m → r ≡ (a + (q - b % q)) % q
  subtract_wraps m r m-low r-low e f =
      go (ltb a b) refl f ∙ ap (λ (x : ℕ). (a + (q - x)) % q) (sym (mod-eq_of_lt b-low))
    where
      twice : (c d : ℕ) → c + d ≡ w → (r + c) % w ≡ m → r ≡ (a + (w - b) + d) % w
      twice c d h f =
          unwrapped c d r-low h f ∙ ap (λ (x : ℕ). (x + d) % w) (unwrapped b (w - b) m-low (omega (arith, b-low, low)) e) ∙ mod-add-mod (a + (w - b)) w d

      go : (t : Bool) → ltb a b ≡ t → (r + cond t (w - q) 0) % w ≡ m → r ≡ (a + (q - b)) % q
      go true t f =
          let h : a < b = ltb-true a b t in
          twice (w - q) q (omega (arith, low)) f ∙ wrapped {d = a + (q - b)} (omega (arith, low, b-low)) (omega (arith, h, b-low, low))
          ∙ sym (mod-eq_of_lt (omega (arith, h, b-low)))
      go false t f =
          let h : b ≤ a = ltb-false a b t in
          twice 0 w (omega arith) f ∙ add-mod_right (a + (w - b)) w ∙ wrapped {d = a - b} (omega (arith, h, low, b-low)) (omega (arith, a-low, low))
          ∙ sym (wrapped (omega (arith, h, b-low)) (omega (arith, a-low)))

-- ---- products
cancel : (q w i a b : ℕ) → w * i % q ≡ 1 → a * w % q ≡ b * w % q → a % q ≡ b % q
cancel q w i a b inverse e = back a ∙ ap (λ (n : ℕ). n * i % q) e ∙ sym (back b)
  where
    back : (a : ℕ) → a % q ≡ a * w % q * i % q
    back a =
        ap (λ (n : ℕ). n % q) (sym (mul-one a)) ∙ ap (λ (n : ℕ). a * n % q) (sym inverse) ∙ mul_mod a (w * i) q
        ∙ ap (λ (n : ℕ). n % q) (sym (mul_assoc a w i)) ∙ sym (mod-mul (a * w) i q)

-- a sum plus h less d, where h is d plus p modulo q
behind : (q sum h d p : ℕ) → d < q → h % q ≡ (d + p) % q → ((sum + h) % q + (q - d % q)) % q ≡ (sum + p) % q
behind q sum h d p low e =
    let f : sum + h + (q - d) + (d + p) / q * q ≡ sum + p + (h / q + 1) * q =
    omega (arith, low, e, mod-add-div' h q, mod-add-div' (d + p) q, add-mul (h / q) 1 q) in
    ap (λ (n : ℕ). ((sum + h) % q + (q - n)) % q) (mod-eq_of_lt low) ∙ mod-add-mod (sum + h) q (q - d)
    ∙ sym (add-mul-mod_self_right (sum + h + (q - d)) ((d + p) / q) q) ∙ ap (λ (n : ℕ). n % q) f ∙ add-mul-mod_self_right (sum + p) (h / q + 1) q

pub key_of : (w q i by : ℕ) → i * q % w ≡ 1 → by * i % w * q % w ≡ by % w
key_of w q i by inverse =
    mod-mul (by * i) q w ∙ ap (λ (n : ℕ). n % w) (mul_assoc by i q) ∙ sym (mul_mod by (i * q) w) ∙ ap (λ (n : ℕ). by * n % w) inverse
    ∙ ap (λ (n : ℕ). n % w) (mul-one by)

module _ (w q i : ℕ) (inverse : w * i % q ≡ 1) {a by key : ℕ} (s : Scales w q a by key) (x : ℕ) where
  -- the number whose multiple of q has the low half of x * by
  abbrev m : ℕ
  m = x * key % w

  low_same : m * q % w ≡ x * by % w
  low_same =
      mod-mul (x * key) q w ∙ ap (λ (n : ℕ). n % w) (mul_assoc x key q) ∙ sym (mul_mod x (key * q) w) ∙ ap (λ (n : ℕ). x * n % w) s.key_right
      ∙ mul_mod x by w

  halves_scaled : x * by / w % q ≡ (m * q / w + a * x) % q
  halves_scaled =
      let e : x * by / w * w + m * q ≡ m * q / w * w + x * by = omega (arith, mod-add-div' (x * by) w, mod-add-div' (m * q) w, low_same) in
      let f : m * q / w * w + x * (a * w) ≡ (m * q / w + a * x) * w =
      omega (arith, add-mul (m * q / w) (a * x) w, ap (λ (n : ℕ). n * w) (mul_comm a x), mul_assoc x a w) in
      cancel q w i _ _ inverse
      (sym (add-mul-mod_self_right (x * by / w * w) m q) ∙ ap (λ (n : ℕ). n % q) e ∙ ap (λ (n : ℕ). (m * q / w * w + x * n) % q) s.by_right
      ∙ sym (add-mod-mod (m * q / w * w) (x * (a * w % q)) q) ∙ ap (λ (n : ℕ). (m * q / w * w + n) % q) (mul_mod x (a * w) q)
      ∙ add-mod-mod (m * q / w * w) (x * (a * w)) q ∙ ap (λ (n : ℕ). n % q) f)

  pub scaled : (sum : ℕ) → m * q / w < q → ((sum + x * by / w) % q + (q - m * q / w % q)) % q ≡ (sum + a * x) % q
  scaled sum low = behind q sum (x * by / w) (m * q / w) (a * x) low halves_scaled

pub high_low : {x y w b : ℕ} → x < w → y ≤ b → 0 < b → x * y / w < b
high_low {x} {y} {w} {b} h l p =
    let f : x * y ≤ x * b = mul-le-mul_left x l in
    let g : x * b < w * b = mul-lt-mul_of_pos_right h p in
    (div-lt_iff_lt-mul {k = w} (omega (arith, h))).1 (omega (arith, f, g, mul_comm w b))
