-- The promises of demands 1 and 2, about the abstract service.
--   OneAnswer, OneRun, Answered, AlwaysAnswers, RefusedUnchanged     each record has one answer, and a refusal changes nothing
--   AsNew                                           a round keeps nothing but the plan of what was before
--   FinishRight, FinishResidues                    replies that follow the rules give the survivors' whole-number total of counts;
--                                                    behind it, of any table, the total in the arithmetic
--   named_in, AsideRight, AsideResidues            so do at least U + 2 of which one may be false: its user is set aside exactly
--                                                    if it is
--   Unexplained, SixteenExactly, NeverSixteen      when 16 is given, and when never
--   StaysWell                                       every run stays well-formed
--   Demand2                                         all of them modulo 65521, that totals of signed figures are read as what they are, and
--                                                    that repeats are quiet
-- Assumes nothing: these are definitions.
use Rattle.std.specs.Prelude.{◌≡◌, ◌↔◌, true, List, ◌∷◌, map, ℕ, ◌+◌, ◌≤◌}
use Rattle.scheme.specs.Lists.{span}
use Rattle.scheme.specs.Scheme.{Arithmetic, sixteen, Plan, plan_good, places, counts, in_set, ones, total_at, whole_total}
use Rattle.scheme.specs.Promise.{Table, admissible, list_good}
use Rattle.scheme.specs.Signed.{SignedRead}
use Rattle.scheme.specs.Totals.{Follows, TotalsFit}
use Rattle.scheme.specs.Aside.{named, OneFalse, AtMostOne}
use Rattle.scheme.specs.Service.{State, new_state, replied, Record, open_record, finish_record, Answer, opened, totalled, refused, refusal, planned_state, values, apart_in, Steps, Runs, Well}
use Rattle.scheme.specs.Repeats.{ThirteenExactly, RepeatSilent, RepeatsQuiet, TwiceRepeats}

-- each record has at most one answer
unfoldable pub OneAnswer : Arithmetic → Type 0
OneAnswer A = (r : Record) (s t u : State) (a b : Answer) → Well A s → Steps A r s a t → Steps A r s b u → (a ≡ b) × (t ≡ u)

-- and a list of records has one run
unfoldable pub OneRun : Arithmetic → Type 0
OneRun A = (rs : List Record) (s t u : State) (l m : List Answer) → Well A s → Runs A rs s l t → Runs A rs s m u → (l ≡ m) × (t ≡ u)

-- and it has one, and leads to a state of the same kind
pub record Answered (A : Arithmetic) (r : Record) (s : State) : Type 0 where
  pub answer : Answer
  pub state : State
  pub step : Steps A r s answer state
  pub well : Well A state

unfoldable pub AlwaysAnswers : Arithmetic → Type 0
AlwaysAnswers A = (r : Record) (s : State) → Well A s → Answered A r s

unfoldable pub RefusedUnchanged : Arithmetic → Type 0
RefusedUnchanged A = (r : Record) (s t : State) (n : ℕ) → Steps A r s (refused n) t → t ≡ s

-- a round keeps nothing but the plan of what was before: a run that begins with an accepted open is a run of a new service with the same plan
unfoldable pub AsNew : Arithmetic → Type 0
AsNew A =
    (r : ℕ) (rs : List Record) (s t : State) (l : List Answer) → Runs A (open_record r ∷ rs) s (opened r ∷ l) t →
    Runs A (open_record r ∷ rs) (planned_state s.plan) (opened r ∷ l) t

-- where the survivors report counts, complete replies that follow the rules give their whole-number total, whatever else was sent
unfoldable pub FinishRight : Arithmetic → Type 0
FinishRight A =
    (s t : State) (a : Answer) (xs : List ℕ) (x : Table) → Well A s → refusal A finish_record s ≡ 0 → list_good A s.plan xs ≡ true →
    admissible A s.plan (in_set s.survivors) (λ k. counts) x →
    Follows A s.plan xs x s.survivors (replied s) (values s.firsts) (values s.replies) → Steps A finish_record s a t →
    (a ≡ totalled s.round 0 (map (whole_total s.plan x s.survivors) (span (places s.plan) 0))) × TotalsFit A s.plan x s.survivors

unfoldable pub FinishResidues : Arithmetic → Type 0
FinishResidues A =
    (s t : State) (a : Answer) (xs : List ℕ) (x : Table) → Well A s → refusal A finish_record s ≡ 0 → list_good A s.plan xs ≡ true →
    Follows A s.plan xs x s.survivors (replied s) (values s.firsts) (values s.replies) →
    Steps A finish_record s a t → a ≡ totalled s.round 0 (map (total_at A s.plan x s.survivors) (span (places s.plan) 0))

-- the user to name: z if its reply is not the right one, and 0 if it is
abbrev pub named_in : Arithmetic → State → (list : List ℕ) → (z : ℕ) → ℕ
named_in A s xs z = named A s.plan xs s.survivors z (values s.replies z)

-- where all survivors' first messages and all complete replies but that of z follow the rules, and at least U + 2 are complete, the total is
-- the same, and z is set aside exactly if its reply is not the right one
unfoldable pub AsideRight : Arithmetic → Type 0
AsideRight A =
    (s t : State) (a : Answer) (xs : List ℕ) (x : Table) (z : ℕ) → Well A s → refusal A finish_record s ≡ 0 → list_good A s.plan xs ≡ true →
    admissible A s.plan (in_set s.survivors) (λ k. counts) x → s.plan.threshold + 2 ≤ ones s.plan.users (replied s) →
    OneFalse A s.plan xs x s.survivors (replied s) z (values s.firsts) (values s.replies) → Steps A finish_record s a t →
    (a ≡ totalled s.round (named_in A s xs z) (map (whole_total s.plan x s.survivors) (span (places s.plan) 0)))
    × TotalsFit A s.plan x s.survivors

unfoldable pub AsideResidues : Arithmetic → Type 0
AsideResidues A =
    (s t : State) (a : Answer) (xs : List ℕ) (x : Table) (z : ℕ) → Well A s → refusal A finish_record s ≡ 0 → list_good A s.plan xs ≡ true →
    s.plan.threshold + 2 ≤ ones s.plan.users (replied s) →
    OneFalse A s.plan xs x s.survivors (replied s) z (values s.firsts) (values s.replies) → Steps A finish_record s a t →
    a ≡ totalled s.round (named_in A s xs z) (map (total_at A s.plan x s.survivors) (span (places s.plan) 0))

-- 16 is the answer to a finish of enough complete replies that disagree, where there are U + 1 of them or no single user fits, and to
-- nothing else
pub record Unexplained (A : Arithmetic) (r : Record) (s t : State) : Type 0 where
  pub finish : r ≡ finish_record
  pub unchanged : t ≡ s
  pub enough : refusal A finish_record s ≡ 0
  pub apart : apart_in A s

unfoldable pub SixteenExactly : Arithmetic → Type 0
SixteenExactly A = (r : Record) (s t : State) → Steps A r s (refused 16) t ↔ Unexplained A r s t

-- U complete replies and no more agree, whatever they are
unfoldable pub NeverSixteen : Arithmetic → Type 0
NeverSixteen A = (r : Record) (s t : State) → Well A s → ones s.plan.users (replied s) ≡ s.plan.threshold → Steps A r s (refused 16) t → ⊥

-- whatever records come to a new service, it is in a state of the kind
unfoldable pub StaysWell : Arithmetic → Type 0
StaysWell A = (rs : List Record) (l : List Answer) (s : State) → Runs A rs new_state l s → Well A s

-- THE SECOND DEMAND, modulo 65521
pub record Demand2 : Type 0 where
  pub stays_well : StaysWell sixteen
  pub one_answer : OneAnswer sixteen
  pub one_run : OneRun sixteen
  pub always_answers : AlwaysAnswers sixteen
  pub refused_unchanged : RefusedUnchanged sixteen
  pub as_new : AsNew sixteen
  pub finish_right : FinishRight sixteen
  pub finish_residues : FinishResidues sixteen
  pub at_most_one : (p : Plan) → plan_good p ≡ true → AtMostOne sixteen p
  pub aside_right : AsideRight sixteen
  pub aside_residues : AsideResidues sixteen
  pub signed_read : (p : Plan) → SignedRead sixteen p
  pub sixteen_exactly : SixteenExactly sixteen
  pub never_sixteen : NeverSixteen sixteen
  pub thirteen_exactly : ThirteenExactly sixteen
  pub repeat_silent : RepeatSilent sixteen
  pub repeats_quiet : RepeatsQuiet sixteen
  pub twice_repeats : TwiceRepeats sixteen
