-- A list filled number by number.
--   drawn_to_start                         at first
--   drawn_to_inside                        where places are to be filled the bytes are there
--   drawn_to_over                          what is written behind the filled places counts for nothing
--   drawn_to_more_in, drawn_to_more_out    one number more: it is an element, or it is skipped
--   drawn_to_end                           a full list is what is drawn
-- Assumes nothing.
use mathlib.Core.Path.{◌≡◌, refl, sym, ap, ◌∙◌}
use mathlib.Core.Bool.{true}
use mathlib.Core.List.{List, ◌++◌, append-nil}
use Prim.Native.Nat.{ℕ, suc, ◌+◌, ◌*◌, ◌-◌, ◌≤◌, ◌<◌}
use native.Mathlib.Numerals.{add-one}
use native.Mathlib.Omega.{arith}
use lib.ListN.{length, get_or, take, drop, set, length-set}
use lib.Seq.{take_all, take-set-le, take-suc-set, append_snoc}
use borrow.Author.Tests.{leb-true}
use Rattle.scheme.specs.Scheme.{Arithmetic}
use Rattle.scheme.specs.Drawn.{byte, found, fills, drawn}
use Rattle.scheme.specs.DrawnParts.{DrawnTo}
use Rattle.scheme.proofs.Drawing.Reading.{from_kept, from_skipped, from_few}

module _ (A : Arithmetic) (s : List ℕ) where
  pub drawn_to_start : (list : List ℕ) → fills A (length list) s ≡ true → DrawnTo A s (length list) list 0 0
  unfolding fills drawn
  drawn_to_start list h =
      let m = leb-true (length list) (length (found A s)) h in
      let e : length list - 0 ≡ length list = omega arith in
      record { within = omega arith; long = refl; enough = omega arith; whole = ap (λ (n : ℕ). take n (found A s)) e }

  module _ {len n at : ℕ} {list : List ℕ} (f : DrawnTo A s len list n at) where
    pub drawn_to_inside : (m : ℕ) → 0 < m → n + m ≤ len → at + 2 * m ≤ length s
    drawn_to_inside m z h = omega (arith, f.enough, from_few A s at)

    pub drawn_to_over : (i x : ℕ) → n ≤ i → DrawnTo A s len (set list i x) n at
    drawn_to_over i x h = record {
      within = f.within;
      long = length-set list i x ∙ f.long;
      enough = f.enough;
      whole = ap (λ (l : List ℕ). l ++ take (len - n) (found A (drop at s))) (take-set-le n list i x h) ∙ f.whole;
    }

    pub drawn_to_end : len ≤ n → list ≡ drawn A len s
    drawn_to_end h =
        let e : len - n ≡ 0 = omega arith in
        sym (take_all n list (omega (arith, f.long))) ∙ sym (append-nil (take n list))
        ∙ ap (λ (m : ℕ). take n list ++ take m (found A (drop at s))) (sym e) ∙ f.whole

    module _ (x : ℕ) (more : n < len) (is : x ≡ get_or s (at + 1) 0 * byte + get_or s at 0) where
      inside : at + 2 ≤ length s
      inside = omega (arith, drawn_to_inside 1 (omega arith) (omega arith))

      pub drawn_to_more_in : x < A.size → DrawnTo A s len (set list n x) (n + 1) (at + 2)
      drawn_to_more_in h =
          let t = from_kept A s at x inside is h in
          let e : suc (len - (n + 1)) ≡ len - n = omega arith in
          let rest = take (len - (n + 1)) (found A (drop (at + 2) s)) in
          record {
            within = omega arith;
            long = length-set list n x ∙ f.long;
            enough = omega (arith, f.enough, ap length t);
            whole = ap (λ (i : ℕ). take i (set list n x) ++ rest) (add-one n)
                ∙ ap (λ (l : List ℕ). l ++ rest) (take-suc-set list n x (omega (arith, f.long)))
                ∙ append_snoc (take n list) x rest
                ∙ ap (λ (l : List ℕ). take n list ++ take (suc (len - (n + 1))) l) (sym t)
                ∙ ap (λ (m : ℕ). take n list ++ take m (found A (drop at s))) e ∙ f.whole;
          }

      pub drawn_to_more_out : A.size ≤ x → DrawnTo A s len list n (at + 2)
      drawn_to_more_out h =
          let t = from_skipped A s at x inside is h in
          record {
            within = f.within;
            long = f.long;
            enough = omega (arith, f.enough, ap length t);
            whole = ap (λ (l : List ℕ). take n list ++ take (len - n) l) (sym t) ∙ f.whole;
          }
