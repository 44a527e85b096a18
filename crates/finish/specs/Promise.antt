-- That finish is the step of document 01's service, and that a refused one leaves the state as it was, over an arithmetic with its laws.
--   FinishSteps      on a well-formed state: the step that names what settles the replies, never the solver
--   FinishRight      where the survivors report counts, complete replies that follow the rules give their whole-number total
--   FinishResidues   behind it: of any table, the total in the arithmetic
--   AsideRight, AsideResidues   so do at least U + 2 of which one may be false: its user is set aside exactly if it is
--   RefusedUnchanged "a refusal hands back its number alone": no user set aside, no totals, and the state as it was, whatever it was
-- Assumes nothing: these are definitions.
use Rattle.std.specs.Prelude.{◌≡◌, ◌≢◌, true, List, ℕ, ◌+◌, ◌≤◌, take}
use Rattle.scheme.specs.Limits.{most_users, most_threshold, most_places}
use Rattle.scheme.specs.Lists.{filled}
use Rattle.scheme.specs.Scheme.{Arithmetic, places, counts, in_set, ones, total_at, whole_total}
use Rattle.scheme.specs.Laws.{Laws}
use Rattle.scheme.specs.Promise.{Table, admissible, list_good}
use Rattle.scheme.specs.Totals.{Follows, TotalsFit}
use Rattle.scheme.specs.Aside.{named, OneFalse}
use Rattle.scheme.specs.Service.{finish_record, totalled, refusal, replied, values}
use Rattle.plan.specs.Plan.{plan_of}
use Rattle.service.specs.declared.Service.{Service}
use Rattle.service.specs.View.{view, Formed}
use Rattle.service.specs.Promise.{told, IsStep}
use Rattle.finish.specs.Finish.{finish_refused, finish_step}

module _ (A : Arithmetic) (L : Laws A most_users most_threshold) where
  unfoldable pub FinishSteps : Type 0
  FinishSteps =
      (s : Service) → Formed A s →
      let t = finish_step A L s in
      IsStep A finish_record s (told t.number (totalled s.head.round t.aside (take (places (plan_of s.head.plan)) t.totals))) t.service

  -- whatever else was sent
  unfoldable pub FinishRight : Type 0
  FinishRight =
      (s : Service) (xs : List ℕ) (x : Table) →
      let p = plan_of s.head.plan in
      let t = finish_step A L s in
      Formed A s → refusal A finish_record (view s) ≡ 0 → list_good A p xs ≡ true →
      admissible A p (in_set s.head.survivors) (λ k. counts) x →
      Follows A p xs x s.head.survivors (replied (view s)) (values (view s).firsts) (values (view s).replies) →
      (t.number ≡ 0) × (t.aside ≡ 0) × (t.totals ≡ filled most_places (places p) (whole_total p x s.head.survivors))
      × TotalsFit A p x s.head.survivors

  unfoldable pub FinishResidues : Type 0
  FinishResidues =
      (s : Service) (xs : List ℕ) (x : Table) →
      let p = plan_of s.head.plan in
      let t = finish_step A L s in
      Formed A s → refusal A finish_record (view s) ≡ 0 → list_good A p xs ≡ true →
      Follows A p xs x s.head.survivors (replied (view s)) (values (view s).firsts) (values (view s).replies) →
      (t.number ≡ 0) × (t.aside ≡ 0) × (t.totals ≡ filled most_places (places p) (total_at A p x s.head.survivors))

  -- at least U + 2 complete replies, of which all but that of z follow the rules, and all survivors' first messages do
  unfoldable pub AsideRight : Type 0
  AsideRight =
      (s : Service) (xs : List ℕ) (x : Table) (z : ℕ) →
      let p = plan_of s.head.plan in
      let v = s.head.survivors in
      let t = finish_step A L s in
      Formed A s → refusal A finish_record (view s) ≡ 0 → list_good A p xs ≡ true → admissible A p (in_set v) (λ k. counts) x →
      p.threshold + 2 ≤ ones p.users (replied (view s)) →
      OneFalse A p xs x v (replied (view s)) z (values (view s).firsts) (values (view s).replies) →
      (t.number ≡ 0) × (t.aside ≡ named A p xs v z (values (view s).replies z)) × (t.totals ≡ filled most_places (places p) (whole_total p x v))
      × TotalsFit A p x v

  unfoldable pub AsideResidues : Type 0
  AsideResidues =
      (s : Service) (xs : List ℕ) (x : Table) (z : ℕ) →
      let p = plan_of s.head.plan in
      let v = s.head.survivors in
      let t = finish_step A L s in
      Formed A s → refusal A finish_record (view s) ≡ 0 → list_good A p xs ≡ true → p.threshold + 2 ≤ ones p.users (replied (view s)) →
      OneFalse A p xs x v (replied (view s)) z (values (view s).firsts) (values (view s).replies) →
      (t.number ≡ 0) × (t.aside ≡ named A p xs v z (values (view s).replies z)) × (t.totals ≡ filled most_places (places p) (total_at A p x v))

  unfoldable pub RefusedUnchanged : Type 0
  RefusedUnchanged = (s : Service) → (finish_step A L s).number ≢ 0 → finish_step A L s ≡ finish_refused (finish_step A L s).number s
