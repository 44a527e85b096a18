-- An airfield that can be set aside: ours modulo 65521 is document 03's, in a state with a good plan.
--   fits_ours, fits_back     who fits in document 03's words is one of at least U + 2 who can be set aside in ours, and the other way round
-- Assumes nothing.
use Rattle.std.proofs.Common.{◌≡◌, sym, ap, ◌∙◌, List, ℕ, ◌+◌, ◌≤◌, ◌<◌, arith, get_or}
use Rattle.scheme.specs.Lists.{span}
use Rattle.scheme.specs.Scheme.{sixteen, in_set, ones}
use Rattle.scheme.specs.Good.{Good}
use Rattle.scheme.specs.Totals.{explains, explains_all}
use Rattle.scheme.specs.Aside.{without, Aside}
use Rattle.scheme.specs.Service.{replied, values}
use Rattle.scheme.proofs.Lists.{span_in, in_span, all_of_in, at_all_of, in_at}
use Rattle.document03.specs.Ours.{our_plan, our_held, our_state, Fits}
use Rattle.document03.specs.Scheme as D
use Rattle.document03.specs.Service as S
use Rattle.document03.proofs.Sets.{in_set_same, ones_same}
use Rattle.document03.proofs.State.{replied_same}
use Rattle.document03.proofs.Explains.{explains_same}

module _ (s : S.State) (g : Good (our_plan s.plan_of)) (k : ℕ) (f : (block : ℕ) → List ℕ) where
  block_same : (b : ℕ)
      → S.explains s.plan_of (without (S.replied s) k) b s.replies (f b)
      ≡ explains sixteen (our_plan s.plan_of) (without (replied (our_state s)) k) (λ i. values (our_held s.replies) i b) (f b)
  block_same b =
      ap (λ (v : ℕ). S.explains s.plan_of (without v k) b s.replies (f b)) (replied_same s)
      ∙ explains_same s.plan_of g (without (replied (our_state s)) k) b s.replies (f b)

  many_same : D.ones s.plan_of.k (S.replied s) ≡ ones s.plan_of.k (replied (our_state s))
  many_same = ones_same s.plan_of.k (S.replied s) ∙ ap (ones s.plan_of.k) (replied_same s)

  inside_same : D.in_set (S.replied s) k ≡ in_set (replied (our_state s)) k
  inside_same = ap (λ (v : ℕ). D.in_set v k) (replied_same s) ∙ in_set_same (replied (our_state s)) k

  pub fits_ours : Fits s k f
      → (s.plan_of.u + 2 ≤ ones s.plan_of.k (replied (our_state s)))
      × Aside sixteen (our_plan s.plan_of) (replied (our_state s)) (values (our_held s.replies)) k f
  unfolding explains_all
  fits_ours h = (
    omega (arith, h.many, many_same),
    record {
      low = h.low;
      high = h.high;
      inside = sym inside_same ∙ h.inside;
      others = at_all_of _ (span s.plan_of.m 0) (λ a l.
          let b : ℕ = get_or (span s.plan_of.m 0) a 0 in
          let i : b < s.plan_of.m = omega (arith, (span_in s.plan_of.m 0 _ (in_at (span s.plan_of.m 0) a l)).1) in
          sym (block_same b) ∙ h.others b i);
    },
  )

  pub fits_back : s.plan_of.u + 2 ≤ ones s.plan_of.k (replied (our_state s))
      → Aside sixteen (our_plan s.plan_of) (replied (our_state s)) (values (our_held s.replies)) k f → Fits s k f
  unfolding explains_all
  fits_back many h = record {
    many = omega (arith, many_same);
    low = h.low;
    high = h.high;
    inside = inside_same ∙ h.inside;
    others = λ b i. block_same b ∙ all_of_in _ (span s.plan_of.m 0) h.others b (in_span s.plan_of.m 0 b (omega arith) (omega arith));
  }
