-- Document 03's specs/Service.antt, word for word.
-- Airfield ends and the pooling service, record by record. Assumes nothing: these are definitions.
use Rattle.std.specs.Prelude.{◌≡◌, Bool, true, false, ◌&&◌, ◌||◌, not, cond, List, [], ◌∷◌, ℕ, zero, suc, ◌+◌, ◌-◌, ◌/◌, ◌%◌, ◌^◌, ltb, leb, eqb, length, get_or}
use Rattle.document03.specs.Scheme.{q, Plan, plan, plan_good, items, places, in_set, ones, sum_set, dotted}

unfoldable pub elements_good : List ℕ → Bool
elements_good [] = true
elements_good (x ∷ xs) = ltb x q && elements_good xs

-- what was held: airfield, place or block, element
pub record Held : Type 0 where
  pub k : ℕ
  pub at : ℕ
  pub value : ℕ

unfoldable pub held : (k at : ℕ) → List Held → Bool
held k i [] = false
held k i (h ∷ hs) = (eqb h.k k && eqb h.at i) || held k i hs

unfoldable pub held_value : (k at : ℕ) → List Held → ℕ
held_value k i [] = 0
held_value k i (h ∷ hs) = cond (eqb h.k k && eqb h.at i) h.value (held_value k i hs)

unfoldable pub all_held : (left i : ℕ) → (k : ℕ) → List Held → Bool
all_held zero i k hs = true
all_held (suc n) i k hs = held k i hs && all_held n (suc i) k hs

-- phases: 0 no plan, 1 idle, 2 gathering, 3 replying
pub record State : Type 0 where
  pub phase : ℕ
  pub plan_of : Plan
  pub round : ℕ
  pub survivors : ℕ
  pub firsts : List Held
  pub replies : List Held

unfoldable pub new_state : State
new_state = record { phase = 0; plan_of = plan 0 0 0 0; round = 0; survivors = 0; firsts = []; replies = [] }

unfoldable pub complete_from : (left k : ℕ) → (each : ℕ) → List Held → ℕ
complete_from zero k e hs = 0
complete_from (suc n) k e hs = cond (all_held e 0 k hs) (2 ^ (k - 1)) 0 + complete_from n (suc k) e hs

-- SOLVING: sums and noise of a block, U unknowns; replies of so many airfields explain or don't
unfoldable pub row_value : Plan → (k : ℕ) → (unknowns : List ℕ) → ℕ
row_value p k xs = dotted p.u 1 k (λ j. get_or xs (j - 1) 0)

unfoldable pub explains_from : (left k : ℕ) → Plan → (set block : ℕ) → List Held → (unknowns : List ℕ) → Bool
explains_from zero k p v b hs xs = true
explains_from (suc n) k p v b hs xs =
    (not (in_set v k) || eqb (row_value p k xs) (held_value k b hs)) && explains_from n (suc k) p v b hs xs

unfoldable pub explains : Plan → (set block : ℕ) → List Held → (unknowns : List ℕ) → Bool
explains p v b hs xs = (eqb (length xs) p.u && elements_good xs) && explains_from p.k 1 p v b hs xs

-- the answer: what is printed and left; finish is given by what explains
pub data Line : Type 0 where
  silent : Line
  told_plan : Plan → Line
  told_open : (round : ℕ) → Line
  told_close : (round set : ℕ) → Line
  told_total : (round : ℕ) → List ℕ → Line
  refused : (number : ℕ) → Line

pub data Record : Type 0 where
  a_plan : Plan → Record
  open_round : (round : ℕ) → Record
  first_element : (k place value : ℕ) → Record
  close_round : Record
  reply_element : (k block value : ℕ) → Record
  finish_round : Record

unfoldable pub plan_refusal : Plan → State → ℕ
plan_refusal p s = cond (not (eqb s.phase 0)) 11 (cond (plan_good p) 0 1)

unfoldable pub open_refusal : (round : ℕ) → State → ℕ
open_refusal r s = cond (eqb s.phase 0) 11 (cond (leb r s.round) 17 0)

unfoldable pub first_refusal : (k i x : ℕ) → State → ℕ
first_refusal k i x s =
    cond (eqb s.phase 0) 11
    (cond (not (eqb s.phase 2)) 12
    (cond (eqb k 0 || ltb s.plan_of.k k) 4
    (cond (leb (places s.plan_of) i) 8 (cond (leb q x) 3 (cond (held k i s.firsts) 13 0)))))

unfoldable pub close_refusal : State → ℕ
close_refusal s =
    cond (eqb s.phase 0) 11
    (cond (not (eqb s.phase 2)) 12
    (cond (ltb (ones s.plan_of.k (complete_from s.plan_of.k 1 (places s.plan_of) s.firsts)) s.plan_of.u) 15 0))

unfoldable pub reply_refusal : (k b x : ℕ) → State → ℕ
reply_refusal k b x s =
    cond (eqb s.phase 0) 11
    (cond (not (eqb s.phase 3)) 12
    (cond (eqb k 0 || ltb s.plan_of.k k) 4
    (cond (leb s.plan_of.m b) 8
    (cond (leb q x) 3 (cond (not (in_set s.survivors k)) 14 (cond (held k b s.replies) 13 0))))))

-- survivors whose replies are complete
unfoldable pub replied : State → ℕ
replied s = complete_from s.plan_of.k 1 s.plan_of.m s.replies

unfoldable pub finish_refusal : State → ℕ
finish_refusal s =
    cond (eqb s.phase 0) 11
    (cond (not (eqb s.phase 3)) 12 (cond (ltb (ones s.plan_of.k (replied s)) s.plan_of.u) 15 0))

unfoldable pub with_held : Held → List Held → List Held
with_held h hs = h ∷ hs

unfoldable pub gathered : (round : ℕ) → State → State
gathered r s = record { phase = 2; plan_of = s.plan_of; round = r; survivors = 0; firsts = []; replies = [] }

unfoldable pub with_first : Held → State → State
with_first h s =
    record { phase = s.phase; plan_of = s.plan_of; round = s.round; survivors = s.survivors; firsts = h ∷ s.firsts; replies = s.replies }

unfoldable pub with_reply : Held → State → State
with_reply h s =
    record { phase = s.phase; plan_of = s.plan_of; round = s.round; survivors = s.survivors; firsts = s.firsts; replies = h ∷ s.replies }

unfoldable pub closed : State → State
closed s =
    record {
      phase = 3;
      plan_of = s.plan_of;
      round = s.round;
      survivors = complete_from s.plan_of.k 1 (places s.plan_of) s.firsts;
      firsts = s.firsts;
      replies = [];
    }

unfoldable pub idle_again : State → State
idle_again s = record { phase = 1; plan_of = s.plan_of; round = s.round; survivors = 0; firsts = []; replies = [] }

unfoldable pub planned : Plan → State
planned p = record { phase = 1; plan_of = p; round = 0; survivors = 0; firsts = []; replies = [] }

-- totals from sums that explain all blocks: held first messages less the sums of S
unfoldable pub totals_from : (left i : ℕ) → State → (sums : ℕ → List ℕ) → List ℕ
totals_from zero i s f = []
totals_from (suc n) i s f =
    let w = items s.plan_of in
    ((sum_set s.plan_of.k 1 s.survivors (λ k. held_value k i s.firsts) + (q - get_or (f (i / w)) (i % w) 0)) % q) ∷ totals_from n (suc i) s f

unfoldable pub totals : State → (sums : ℕ → List ℕ) → List ℕ
totals s f = totals_from (places s.plan_of) 0 s f

unfoldable pub all_explain : (left b : ℕ) → State → (sums : ℕ → List ℕ) → Bool
all_explain zero b s f = true
all_explain (suc n) b s f = explains s.plan_of (replied s) b s.replies (f b) && all_explain n (suc b) s f

-- one record: all but finish by a function; finish by a relation, since sums are those that explain
unfoldable pub quick : Record → Bool
quick (a_plan p) = true
quick (open_round r) = true
quick (first_element k i x) = true
quick close_round = true
quick (reply_element k b x) = true
quick finish_round = false

unfoldable pub record_refusal : Record → State → ℕ
record_refusal (a_plan p) s = plan_refusal p s
record_refusal (open_round r) s = open_refusal r s
record_refusal (first_element k i x) s = first_refusal k i x s
record_refusal close_round s = close_refusal s
record_refusal (reply_element k b x) s = reply_refusal k b x s
record_refusal finish_round s = finish_refusal s

unfoldable pub changed : Record → State → State
changed (a_plan p) s = planned p
changed (open_round r) s = gathered r s
changed (first_element k i x) s = with_first (record { k = k; at = i; value = x }) s
changed close_round s = closed s
changed (reply_element k b x) s = with_reply (record { k = k; at = b; value = x }) s
changed finish_round s = idle_again s

unfoldable pub line_of : Record → State → Line
line_of (a_plan p) s = told_plan p
line_of (open_round r) s = told_open r
line_of (first_element k i x) s = silent
line_of close_round s = told_close s.round (closed s).survivors
line_of (reply_element k b x) s = silent
line_of finish_round s = silent

pub data Steps : Record → State → Line → State → Type 0 where
  turned_away : (r : Record) (s : State) (n : ℕ) → record_refusal r s ≡ suc n → Steps r s (refused (suc n)) s
  taken : (r : Record) (s : State) → quick r ≡ true → record_refusal r s ≡ 0 → Steps r s (line_of r s) (changed r s)
  summed : (s : State) (f : ℕ → List ℕ) → finish_refusal s ≡ 0 → all_explain s.plan_of.m 0 s f ≡ true →
      Steps finish_round s (told_total s.round (totals s f)) (idle_again s)
  unexplained : (s : State) → finish_refusal s ≡ 0 → ((f : ℕ → List ℕ) → all_explain s.plan_of.m 0 s f ≡ true → ⊥) →
      Steps finish_round s (refused 16) s
