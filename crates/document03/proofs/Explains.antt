-- What explains the replies, and the totals: ours modulo 65521 are document 03's, in a state with a good plan.
--   explained_in                     unknowns of every block that explain the replies of a set
--   explains_same, explained_same    unknowns of a block, and of every block
--   unknown_small                    unknowns that explain are elements
--   totals_same                      the totals from unknowns that explain
-- Assumes nothing.
use Rattle.std.proofs.Common.{◌≡◌, refl, sym, ap, ap₂, ◌∙◌, Bool, true, false, ◌&&◌, ◌||◌, not, List, map, ◌∷◌, ℕ, zero, suc, ◌+◌, ◌-◌, ◌/◌, ◌%◌, ◌≤◌, ◌<◌, mod-eq_of_lt, mul-zero, div-lt_iff_lt-mul, arith, eqb, length, get_or}
use mathlib.Core.Path.{fun_ext}
use native.Mathlib.Nat.{lt_of_mul-lt-mul_left}
use Rattle.scheme.specs.Lists.{span, keep, members, all_of}
use Rattle.scheme.specs.Scheme.{q, sixteen, sum, items, places, in_set, users_in, row_value}
use Rattle.scheme.specs.Good.{Good}
use Rattle.scheme.specs.Totals.{explains, explains_all, total_of, totals}
use Rattle.scheme.specs.Service.{replied, values, totals_by}
use Rattle.scheme.proofs.Keys.{elements_at}
use Rattle.scheme.proofs.Pooling.Totals.{explained}
use Rattle.document03.specs.Ours.{our_plan, our_held, our_state}
use Rattle.document03.specs.Scheme as D
use Rattle.document03.specs.Service as S
use Rattle.document03.proofs.Sets.{places_same, in_set_same}
use Rattle.document03.proofs.Shares.{sum_set_same, dotted_same}
use Rattle.document03.proofs.Shown.{elements_same}
use Rattle.document03.proofs.State.{held_value_same, replied_same}

-- ---- unknowns that explain
-- a test of the numbers that are kept
test_keep : {a b e r : Bool} → a ≡ b → (t : ℕ → Bool) (k : ℕ) (m : List ℕ) → e ≡ t k → r ≡ all_of t m → ((not a || e) && r) ≡ all_of t (keep b k m)
unfolding all_of
test_keep {b = true} d t k m e h = rw d (ap₂ (λ (x y : Bool). x && y) e h)
test_keep {b = false} d t k m e h = rw d h

module _ (p : D.Plan) (g : Good (our_plan p)) where
  row_value_same : (k : ℕ) (ws : List ℕ) → 1 ≤ k → k ≤ p.k → S.row_value p k ws ≡ row_value sixteen p.u k (λ j. get_or ws (j - 1) 0)
  unfolding S.row_value row_value
  row_value_same k ws lo hi =
      dotted_same p.u 1 k _ (λ j. get_or ws (j - 1) 0) (omega arith) (omega (arith, g.users_high, g.threshold_high)) (λ i a z. refl)

  explains_from_same : (v b : ℕ) (hs : List S.Held) (ws : List ℕ) (n k : ℕ) → 1 ≤ k → k + n ≤ suc p.k
      → S.explains_from n k p v b hs ws
      ≡ all_of (λ i. eqb (row_value sixteen p.u i (λ j. get_or ws (j - 1) 0)) (values (our_held hs) i b)) (members (in_set v) n k)
  unfolding S.explains_from all_of
  explains_from_same v b hs ws zero k lo hi = refl
  explains_from_same v b hs ws (suc n) k lo hi =
      test_keep (in_set_same v k) (λ i. eqb (row_value sixteen p.u i (λ j. get_or ws (j - 1) 0)) (values (our_held hs) i b)) k (members (in_set v) n (suc k))
      (ap₂ eqb (row_value_same k ws lo (omega arith)) (held_value_same k b hs))
      (explains_from_same v b hs ws n (suc k) (omega arith) (omega arith))

  pub explains_same : (v b : ℕ) (hs : List S.Held) (ws : List ℕ) → S.explains p v b hs ws ≡ explains sixteen (our_plan p) v (λ k. values (our_held hs) k b) ws
  unfolding S.explains explains users_in
  explains_same v b hs ws =
      ap₂ (λ (x y : Bool). (eqb (length ws) p.u && x) && y) (elements_same ws) (explains_from_same v b hs ws p.k 1 (omega arith) (omega arith))

abbrev pub explained_in : S.State → (set : ℕ) → (choice : (block : ℕ) → List ℕ) → Bool
explained_in s r f = explains_all sixteen (our_plan s.plan_of) r (values (our_held s.replies)) f

module _ (s : S.State) (g : Good (our_plan s.plan_of)) (f : (block : ℕ) → List ℕ) where
  all_explain_same : (n b : ℕ)
      → S.all_explain n b s f
      ≡ all_of (λ b. explains sixteen (our_plan s.plan_of) (replied (our_state s)) (λ k. values (our_held s.replies) k b) (f b)) (span n b)
  unfolding S.all_explain all_of
  all_explain_same zero b = refl
  all_explain_same (suc n) b =
      ap₂ (λ (x y : Bool). x && y)
      (ap (λ (v : ℕ). S.explains s.plan_of v b s.replies (f b)) (replied_same s)
      ∙ explains_same s.plan_of g (replied (our_state s)) b s.replies (f b))
      (all_explain_same n (suc b))

  pub explained_same : S.all_explain s.plan_of.m 0 s f ≡ explained_in s (replied (our_state s)) f
  unfolding explains_all
  explained_same = all_explain_same s.plan_of.m 0

  -- ---- totals
  pub unknown_small : (r : ℕ) → explained_in s r f ≡ true → (b i : ℕ) → b < s.plan_of.m → get_or (f b) i 0 < q
  unknown_small r h b i l =
      elements_at sixteen (omega arith) (f b) i
      (explained sixteen (our_plan s.plan_of) r (values (our_held s.replies)) f h b l).small

  block_below : (i : ℕ) → i < places (our_plan s.plan_of) → i / items (our_plan s.plan_of) < s.plan_of.m
  unfolding places
  block_below i l =
      let n = items (our_plan s.plan_of) in
      let some : 0 < n = lt_of_mul-lt-mul_left s.plan_of.m (omega (arith, mul-zero s.plan_of.m)) in
      (div-lt_iff_lt-mul {k = n} {x = i} {y = s.plan_of.m} some).1 l

  totals_from_same : (r : ℕ) → explained_in s r f ≡ true → (n i : ℕ) → i + n ≤ places (our_plan s.plan_of)
      → S.totals_from n i s f ≡ map (total_of sixteen (our_plan s.plan_of) s.survivors (values (our_held s.firsts)) f) (span n i)
  unfolding S.totals_from total_of D.items items users_in
  totals_from_same r h zero i hi = refl
  totals_from_same r h (suc n) i hi =
      let w = items (our_plan s.plan_of) in
      ap₂ ◌∷◌
      (ap₂ (λ (x y : ℕ). (x + (q - y)) % q)
      (sum_set_same s.plan_of.k 1 s.survivors (λ k. S.held_value k i s.firsts)
      ∙ ap (sum sixteen (members (in_set s.survivors) s.plan_of.k 1)) (fun_ext (λ k. held_value_same k i s.firsts)))
      (sym (mod-eq_of_lt (unknown_small r h (i / w) (i % w) (block_below i (omega arith))))))
      (totals_from_same r h n (suc i) (omega arith))

  pub totals_same : (r : ℕ) → explained_in s r f ≡ true → S.totals s f ≡ totals_by sixteen (our_state s) f
  unfolding S.totals totals_by totals
  totals_same r h =
      ap (λ (n : ℕ). S.totals_from n 0 s f) (places_same s.plan_of) ∙ totals_from_same r h (places (our_plan s.plan_of)) 0 (omega arith)
