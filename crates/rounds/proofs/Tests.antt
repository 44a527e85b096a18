-- Tests of lists.
--   not_just, just   a list, and one number throughout behind it
-- Assumes nothing.
use Rattle.std.proofs.Common.{◌≡◌, ◌≢◌, ℕ, ◌-◌, ◌↔◌, Bool, false, List, ◌++◌, length, replicate, IsTrue, sym, ap, ◌∙◌, arith, length-append}
use Rattle.std.proofs.lemmas.List.{append_cancel_left}

-- s is w and then b, or begins otherwise
module _ (s w : List ℕ) (x : ℕ) where
  pub not_just : ((b : List ℕ) → s ≢ w ++ b) → IsTrue false ↔ (s ≡ w ++ replicate (length s - length w) x)
  not_just d = (λ e. absurd (cc), λ e. absurd (d _ e))

  pub just : (b : List ℕ) (r : Bool) → s ≡ w ++ b → (IsTrue r ↔ (b ≡ replicate (length b) x)) → IsTrue r ↔ (s ≡ w ++ replicate (length s - length w) x)
  just b r e t = (λ h. e ∙ ap (λ (l : List ℕ). w ++ l) (t.0 h ∙ long), λ h. t.1 (append_cancel_left w _ _ (sym e ∙ h) ∙ sym long))
    where
      long : replicate (length b) x ≡ replicate (length s - length w) x
      long = ap (λ (n : ℕ). replicate n x) (omega (arith, ap length e, length-append w b))
