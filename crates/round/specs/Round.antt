-- Demand 2 from end to end: what key maker, start, first message and reply give, held by the service, finishes as the survivors' total,
-- over an arithmetic with its laws. Late first messages, unfinished rows and partial replies may be held too.
--   plain_calls       what a survivor's calls give, all of them started with one round, whichever it is
--   SentIn           the elements that the service holds are what the survivors' calls gave
--   ButOne           so they are but for the reply of one user, among at least U + 2 complete ones
--   named_in          the user to name: that one if its reply is not the right one, and 0 if it is
--   Room              lent buffers of the plan's lengths
--   RoundResidues    the total in the arithmetic, the survivors' uses in any mix
--   RoundRight       where the survivors report counts, and the arithmetic adds as whole numbers do: the whole-number total
--   SignedTotal      where they report signed figures: what the reader reads is the whole-number total
--   AsideResidues, AsideRight, AsideSigned    the same where one reply may be false: its user is set aside exactly if it is
-- Assumes nothing: these are definitions.
use Rattle.std.specs.Prelude.{◌≡◌, true, List, map, ℕ, ◌+◌, ◌≤◌, ◌<◌, length, get_or, take}
use Rattle.scheme.specs.Limits.{most_users, most_threshold}
use Rattle.scheme.specs.Lists.{span}
use Rattle.scheme.specs.Scheme.{Arithmetic, Plan, places, counts, signed, in_set, ones, key_length, total_at, whole_total}
use Rattle.scheme.specs.Laws.{Laws}
use Rattle.scheme.specs.Promise.{Table, admissible, list_good}
use Rattle.scheme.specs.Signed.{Changes, changes_good, residues, change_total}
use Rattle.scheme.specs.Totals.{TotalsFit}
use Rattle.scheme.specs.Aside.{without, named}
use Rattle.scheme.specs.Service.{finish_record, refusal, replied, values}
use Rattle.plan.specs.declared.Use.{Use}
use Rattle.plan.specs.declared.Use.TheVariants.{Counts, Signed}
use Rattle.plan.specs.Plan.{plan_of, use_of}
use Rattle.reading.specs.Read.{Value}
use Rattle.reading.specs.Reading.{reading}
use Rattle.client.specs.History.{Handed, calls, plainly, message_in, part_in}
use Rattle.service.specs.declared.Service.{Service}
use Rattle.service.specs.View.{view, Formed}
use Rattle.finish.specs.Finish.{finish_step}

-- what the calls of a user give: one first message, and one request, to the survivors' set, for the round that it was started with; by
-- ShownIsSent of client any other history with that set for that round hands out the same two
abbrev pub plain_calls : Arithmetic → Service → (own : ℕ) → (uses : (k : ℕ) → Use) → (list : List ℕ) → Table
    → (key_buffer buffer : (k : ℕ) → List ℕ) → (k : ℕ) → Handed
plain_calls A s own uses xs x ko o k = calls A s.head.plan (uses k) own xs (x k) k (ko k) (plainly s.head.survivors own (o k))

-- from one random list and one table, each survivor by its own use, all for one round, the replies of the users of r to the survivors'
-- set, into any lent buffers
pub record SentIn (A : Arithmetic) (s : Service) (r own : ℕ) (uses : (k : ℕ) → Use) (xs : List ℕ) (x : Table)
    (key_buffer buffer : (k : ℕ) → List ℕ) : Type 0 where
  pub first : (k i : ℕ) → 1 ≤ k → k ≤ s.head.plan.users → in_set s.head.survivors k ≡ true → i < places (plan_of s.head.plan) →
      values (view s).firsts k i ≡ get_or (message_in (plain_calls A s own uses xs x key_buffer buffer k)) i 0
  pub answer : (k b : ℕ) → 1 ≤ k → k ≤ s.head.plan.users → in_set r k ≡ true → b < s.head.plan.blocks →
      values (view s).replies k b ≡ get_or (part_in (plain_calls A s own uses xs x key_buffer buffer k)) b 0

-- the complete reply of z may be anything; its first message is what its calls gave, as those of all survivors are
pub record ButOne (A : Arithmetic) (s : Service) (z own : ℕ) (uses : (k : ℕ) → Use) (xs : List ℕ) (x : Table)
    (key_buffer buffer : (k : ℕ) → List ℕ) : Type 0 where
  pub low : 1 ≤ z
  pub high : z ≤ s.head.plan.users
  pub inside : in_set (replied (view s)) z ≡ true
  pub many : s.head.plan.threshold + 2 ≤ ones s.head.plan.users (replied (view s))
  pub others : SentIn A s (without (replied (view s)) z) own uses xs x key_buffer buffer

abbrev pub named_in : Arithmetic → Service → (list : List ℕ) → (z : ℕ) → ℕ
named_in A s xs z = named A (plan_of s.head.plan) xs s.head.survivors z (values (view s).replies z)

-- lent buffers of the plan's lengths
abbrev pub Room : Plan → (key_buffer buffer : (k : ℕ) → List ℕ) → Type 0
Room p ko o = (k : ℕ) → 1 ≤ k → k ≤ p.users → (length (ko k) ≡ key_length p k) × (length (o k) ≡ places p)

-- ---- all complete replies follow the rules
-- finish is not refused by 11, 12 or 15: it answers 0, sets no user aside, and gives the sum of the survivors' figures in the arithmetic,
-- place by place
unfoldable pub RoundResidues : (A : Arithmetic) → Laws A most_users most_threshold → Type 0
RoundResidues A L =
    (s : Service) (own : ℕ) (uses : (k : ℕ) → Use) (xs : List ℕ) (x : Table) (key_buffer buffer : (k : ℕ) → List ℕ) →
    let p = plan_of s.head.plan in
    let v = s.head.survivors in
    let t = finish_step A L s in
    Formed A s → refusal A finish_record (view s) ≡ 0 → list_good A p xs ≡ true → admissible A p (in_set v) (λ k. use_of (uses k)) x →
    Room p key_buffer buffer → SentIn A s (replied (view s)) own uses xs x key_buffer buffer →
    (t.number ≡ 0) × (t.aside ≡ 0) × (take (places p) t.totals ≡ map (total_at A p x v) (span (places p) 0))

-- the whole-number sum
unfoldable pub RoundRight : (A : Arithmetic) → Laws A most_users most_threshold → Type 0
RoundRight A L =
    (s : Service) (own : ℕ) (xs : List ℕ) (x : Table) (key_buffer buffer : (k : ℕ) → List ℕ) →
    let p = plan_of s.head.plan in
    let v = s.head.survivors in
    let t = finish_step A L s in
    Formed A s → refusal A finish_record (view s) ≡ 0 → list_good A p xs ≡ true → admissible A p (in_set v) (λ k. counts) x →
    Room p key_buffer buffer → SentIn A s (replied (view s)) own (λ k. Counts) xs x key_buffer buffer →
    (t.number ≡ 0) × (t.aside ≡ 0) × (take (places p) t.totals ≡ map (whole_total p x v) (span (places p) 0)) × TotalsFit A p x v

-- the figures are lent as their residues, and the totals read
unfoldable pub SignedTotal : (A : Arithmetic) → Laws A most_users most_threshold → Type 0
SignedTotal A L =
    (s : Service) (own : ℕ) (xs : List ℕ) (c : Changes) (key_buffer buffer : (k : ℕ) → List ℕ) →
    let p = plan_of s.head.plan in
    let v = s.head.survivors in
    let t = finish_step A L s in
    Formed A s → refusal A finish_record (view s) ≡ 0 → list_good A p xs ≡ true → changes_good A p (in_set v) c →
    Room p key_buffer buffer → SentIn A s (replied (view s)) own (λ k. Signed) xs (residues A c) key_buffer buffer →
    (t.number ≡ 0) × (t.aside ≡ 0)
    × (map (reading A signed) (take (places p) t.totals) ≡ map (λ i. Value (change_total p c v i)) (span (places p) 0))

-- ---- all complete replies but that of z follow the rules: the same totals, and z is set aside exactly if its reply is not the right one
unfoldable pub AsideResidues : (A : Arithmetic) → Laws A most_users most_threshold → Type 0
AsideResidues A L =
    (s : Service) (z own : ℕ) (uses : (k : ℕ) → Use) (xs : List ℕ) (x : Table) (key_buffer buffer : (k : ℕ) → List ℕ) →
    let p = plan_of s.head.plan in
    let v = s.head.survivors in
    let t = finish_step A L s in
    Formed A s → refusal A finish_record (view s) ≡ 0 → list_good A p xs ≡ true → admissible A p (in_set v) (λ k. use_of (uses k)) x →
    Room p key_buffer buffer → ButOne A s z own uses xs x key_buffer buffer →
    (t.number ≡ 0) × (t.aside ≡ named_in A s xs z) × (take (places p) t.totals ≡ map (total_at A p x v) (span (places p) 0))

unfoldable pub AsideRight : (A : Arithmetic) → Laws A most_users most_threshold → Type 0
AsideRight A L =
    (s : Service) (z own : ℕ) (xs : List ℕ) (x : Table) (key_buffer buffer : (k : ℕ) → List ℕ) →
    let p = plan_of s.head.plan in
    let v = s.head.survivors in
    let t = finish_step A L s in
    Formed A s → refusal A finish_record (view s) ≡ 0 → list_good A p xs ≡ true → admissible A p (in_set v) (λ k. counts) x →
    Room p key_buffer buffer → ButOne A s z own (λ k. Counts) xs x key_buffer buffer →
    (t.number ≡ 0) × (t.aside ≡ named_in A s xs z)
    × (take (places p) t.totals ≡ map (whole_total p x v) (span (places p) 0)) × TotalsFit A p x v

unfoldable pub AsideSigned : (A : Arithmetic) → Laws A most_users most_threshold → Type 0
AsideSigned A L =
    (s : Service) (z own : ℕ) (xs : List ℕ) (c : Changes) (key_buffer buffer : (k : ℕ) → List ℕ) →
    let p = plan_of s.head.plan in
    let v = s.head.survivors in
    let t = finish_step A L s in
    Formed A s → refusal A finish_record (view s) ≡ 0 → list_good A p xs ≡ true → changes_good A p (in_set v) c →
    Room p key_buffer buffer → ButOne A s z own (λ k. Signed) xs (residues A c) key_buffer buffer →
    (t.number ≡ 0) × (t.aside ≡ named_in A s xs z)
    × (map (reading A signed) (take (places p) t.totals) ≡ map (λ i. Value (change_total p c v i)) (span (places p) 0))
