-- Laws of a field, beside those of its record.
--   sums, expand              rulesets: sums in one order; products of sums as sums of products
--   add_last                  a sum with its last two summands exchanged
--   zero-add .. zero-mul      zero and one as summand and factor
--   neg_add                   - a + (a + b) = b
--   add_cancel, mul_cancel    a summand, and a factor that is not zero, may be dropped on both sides
--   add_sub, sub_is           b + (a - b) = a, and a - b is the only such element
--   sub_ne                    different elements have a difference that is not zero
-- An identity with a difference is proved with no negation: call a - b by d, and put b + d for a.
use mathlib.Core.Path.{◌≡◌, sym, ◌∙◌}
use mathlib.Core.Logic.{◌≢◌}
use Rattle.algebra.specs.Field.{Field, sub}

module _ (K : Field) where
  open K use {F, 𝟘, 𝟙, add as ◌⊕◌, mul as ◌⊗◌, neg, inv}

  infixl 65 ◌⊕◌
  infixl 70 ◌⊗◌
  -- a ruleset lists declared names only, so the record's laws that one lists stand here again
  module _ (a b : F) where
    pub add_comm : a ⊕ b ≡ b ⊕ a
    add_comm = K.add_comm a b

    pub mul_comm : a ⊗ b ≡ b ⊗ a
    mul_comm = K.mul_comm a b

  module _ (a b c : F) where
    pub add_assoc : a ⊕ b ⊕ c ≡ a ⊕ (b ⊕ c)
    add_assoc = K.add_assoc a b c

    pub mul_assoc : a ⊗ b ⊗ c ≡ a ⊗ (b ⊗ c)
    mul_assoc = K.mul_assoc a b c

    pub mul-add : a ⊗ (b ⊕ c) ≡ a ⊗ b ⊕ a ⊗ c
    mul-add = K.mul-add a b c

    pub add-mul : (a ⊕ b) ⊗ c ≡ a ⊗ c ⊕ b ⊗ c
    add-mul = cc (mul_comm (a ⊕ b) c, K.mul-add c a b, mul_comm a c, mul_comm b c)

    pub add_swap : a ⊕ (b ⊕ c) ≡ b ⊕ (a ⊕ c)
    add_swap = cc (add_assoc, add_comm a b, K.add_assoc b a c)

    pub mul_swap : a ⊗ (b ⊗ c) ≡ b ⊗ (a ⊗ c)
    mul_swap = cc (mul_assoc, mul_comm a b, K.mul_assoc b a c)

  pub zero-add : (a : F) → 𝟘 ⊕ a ≡ a
  zero-add a = cc (add_comm 𝟘 a, K.add-zero a)

  pub one-mul : (a : F) → 𝟙 ⊗ a ≡ a
  one-mul a = cc (mul_comm 𝟙 a, K.mul-one a)

  pub ruleset sums = (add_assoc, add_comm, add_swap)

  pub add_last : (a b c : F) → a ⊕ b ⊕ c ≡ a ⊕ c ⊕ b
  add_last a b c = simp sums

  pub ruleset expand = (sums, mul_assoc, mul_comm, mul_swap, mul-add, add-mul, one-mul)

  pub neg_add : (a b : F) → neg a ⊕ (a ⊕ b) ≡ b
  neg_add a b = cc (add_assoc (neg a) a b, add_comm (neg a) a, K.add_neg a, zero-add b)

  pub add_cancel : (a : F) {b c : F} → a ⊕ b ≡ a ⊕ c → b ≡ c
  add_cancel a {b} {c} e = cc (neg_add a b, neg_add a c)

  pub mul_cancel : (a : F) {b c : F} → a ≢ 𝟘 → a ⊗ b ≡ a ⊗ c → b ≡ c
  mul_cancel a {b} {c} h e = cc (undo b, undo c)
    where
      undo : (x : F) → inv a ⊗ (a ⊗ x) ≡ x
      undo x = cc (mul_assoc (inv a) a x, mul_comm (inv a) a, K.mul_inv a h, one-mul x)

  pub mul-zero : (a : F) → a ⊗ 𝟘 ≡ 𝟘
  mul-zero a = add_cancel (a ⊗ 𝟘) (cc (mul-add a 𝟘 𝟘, K.add-zero 𝟘, K.add-zero (a ⊗ 𝟘)))

  pub zero-mul : (a : F) → 𝟘 ⊗ a ≡ 𝟘
  zero-mul a = cc (mul_comm 𝟘 a, mul-zero a)

  pub add_sub : (a b : F) → b ⊕ sub K a b ≡ a
  unfolding sub
  add_sub a b = cc (add_swap b a (neg b), K.add_neg b, K.add-zero a)

  pub sub_is : {a b d : F} → b ⊕ d ≡ a → sub K a b ≡ d
  sub_is {a} {b} e = add_cancel b (add_sub a b ∙ sym e)

  pub sub_ne : {a b : F} → a ≢ b → sub K a b ≢ 𝟘
  sub_ne {a} {b} ne e = ne (cc (add_sub a b, K.add-zero b))
