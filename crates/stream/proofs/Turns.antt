-- One record: its answer and its lines.
--   told_taken, told_refused                  what a number answers
--   turn_told, turn_taken, turn_refused       the call's answer decides the line
--   plan_says .. finish_says                  what each call says
--   record_plan .. record_finish              which record stands at a place
--   turn_at                                   one record that stands at a place
--   finish_good                               an accepted finish has a good plan
--   line_short                                the text of every answer fits into the room for any
-- Assumes nothing.
use Rattle.std.proofs.Common.{◌≡◌, refl, sym, ap, true, false, cond, List, [], ◌∷◌, ◌++◌, map, ℕ, zero, suc, ◌+◌, ◌*◌, ◌^◌, ◌≤◌, ◌<◌, mod-lt, lt_trans, mul-suc, arith, lit<, eqb, length, get_or, take, length-append}
use Rattle.scheme.specs.Limits.{most_places}
use Rattle.scheme.specs.Lists.{span}
use Rattle.scheme.specs.Scheme.{sixteen, places, after}
use Rattle.scheme.specs.Good.{Good}
use Rattle.scheme.specs.Totals.{total_of, totals}
use Rattle.scheme.specs.Service.{Record, plan_record, open_record, first_record, close_record, reply_record, finish_record, Answer, silent, planned, opened, closed, totalled, refused, totals_by}
use Rattle.scheme.proofs.Good.{good}
use Rattle.scheme.proofs.Lists.{span_length}
use Rattle.scheme.proofs.Refusals.{then_zero, unless_zero, after_taken, after_refused}
use Rattle.solve.specs.Solve.{laws16}
use Rattle.plan.specs.Plan.{plan_of}
use Rattle.plan.specs.Numbers.{number_of}
use Rattle.plan.specs.declared.refusal.Refusal.{Refusal}
use Rattle.plan.proofs.Numbers.{refused_ne0}
use Rattle.plan.specs.declared.Plan as declared
use Rattle.scheme.proofs.PlanBounds.{places_le}
use Rattle.service.specs.declared.Service.{Service}
use Rattle.service.specs.Calls.{Stepped, Closed, plan_step, open_step, first_step, close_step, reply_step}
use Rattle.service.specs.View.{view}
use Rattle.service.specs.Promise.{told}
use Rattle.finish.specs.Finish.{Finished, finish_refusal, finish_answer, finish_step}
use Rattle.finish.proofs.Steps.{totals_first}
use Rattle.lines.specs.Text.{decimal, numbers, aside_word, line_end, aside_line, line}
use Rattle.lines.specs.Put.{number_room, aside_room, room, Put}
use Rattle.lines.proofs.Decimals.{decimal_twenty, decimal_most}
use Rattle.lines.proofs.Lines.{put_as}
use Rattle.stream.specs.Stream.{two_bytes, four_bytes, plan_at, record_at, Outcome, outcome, step, Turns}

-- ---- what a number answers
pub told_taken : {n : ℕ} → n ≡ 0 → (a : Answer) → told n a ≡ a
unfolding told
told_taken e a = after_taken e a _

pub told_refused : {n : ℕ} → (n ≡ 0 → ⊥) → (a : Answer) → told n a ≡ refused n
unfolding told
told_refused h a = after_refused h a _

-- one record that the service's call answers
module _ {s t : Service} {r : Record} {o : ℕ} {out out' : List ℕ} {wrote next : ℕ} (a : Answer) where
  turn_told : (n : ℕ) → outcome n a t ≡ step s r → Put out out' wrote next (line o (told n a)) → Turns r o s t out out' wrote next
  turn_told n said p = record { state = ap (λ (x : Outcome). x.service) said; put = put_as p (ap (λ (x : Outcome). line o x.answer) said) }

  pub turn_refused : (e : Refusal) → outcome (number_of e) a t ≡ step s r → Put out out' wrote next (line o (refused (number_of e)))
      → Turns r o s t out out' wrote next
  turn_refused e said p = turn_told _ said (put_as p (ap (line o) (sym (told_refused (refused_ne0 e) a))))

  pub turn_taken : outcome 0 a t ≡ step s r → Put out out' wrote next (line o a) → Turns r o s t out out' wrote next
  turn_taken said p = turn_told 0 said (put_as p (ap (line o) (sym (told_taken refl a))))

-- what each call says
pub plan_says : (s : Service) (p : declared.Plan) {r : Stepped} → r ≡ plan_step s p
    → outcome r.number (planned (plan_of p)) r.service ≡ step s (plan_record (plan_of p))
unfolding step
plan_says s p e = rw e

pub open_says : (s : Service) (i : ℕ) {r : Stepped} → r ≡ open_step s i → outcome r.number (opened i) r.service ≡ step s (open_record i)
unfolding step
open_says s i e = rw e

pub first_says : (s : Service) (k i x : ℕ) {r : Stepped} → r ≡ first_step sixteen s k i x → outcome r.number silent r.service ≡ step s (first_record k i x)
unfolding step
first_says s k i x e = rw e

pub reply_says : (s : Service) (k i x : ℕ) {r : Stepped} → r ≡ reply_step sixteen s k i x → outcome r.number silent r.service ≡ step s (reply_record k i x)
unfolding step
reply_says s k i x e = rw e

pub close_says : (s : Service) {r : Closed} → r ≡ close_step s
    → outcome r.number (closed s.head.round r.set) r.service ≡ step s close_record
unfolding step
close_says s e = rw e

pub finish_says : (s : Service) {n : ℕ} {r : Finished} → n ≡ places (plan_of s.head.plan) → r ≡ finish_step sixteen laws16 s
    → outcome r.number (totalled s.head.round r.aside (take n r.totals)) r.service ≡ step s finish_record
unfolding step
finish_says s d e = rw (d, e)

-- ---- which record stands at a place
module _ (b : List ℕ) (at : ℕ) where
  pub record_plan : get_or b at 0 ≡ 1 → record_at b at ≡ plan_record (plan_at b at)
  unfolding record_at
  record_plan e = rw e

  pub record_open : get_or b at 0 ≡ 2 → record_at b at ≡ open_record (four_bytes b (at + 1))
  unfolding record_at
  record_open e = rw e

  pub record_first : get_or b at 0 ≡ 3 → record_at b at ≡ first_record (get_or b (at + 1) 0) (two_bytes b (at + 2)) (two_bytes b (at + 4))
  unfolding record_at
  record_first e = rw e

  pub record_close : get_or b at 0 ≡ 4 → record_at b at ≡ close_record
  unfolding record_at
  record_close e = rw e

  pub record_reply : get_or b at 0 ≡ 5 → record_at b at ≡ reply_record (get_or b (at + 1) 0) (get_or b (at + 2) 0) (two_bytes b (at + 3))
  unfolding record_at
  record_reply e = rw e

  pub record_finish : get_or b at 0 ≡ 6 → record_at b at ≡ finish_record
  unfolding record_at
  record_finish e = rw e

pub turn_at : {r q : Record} {o : ℕ} {s t : Service} {out out' : List ℕ} {wrote next : ℕ} → q ≡ r → Turns r o s t out out' wrote next
    → Turns q o s t out out' wrote next
turn_at e p = rw e p

-- ---- a finish
pub finish_good : (s : Service) → (finish_step sixteen laws16 s).number ≡ 0 → Good (plan_of s.head.plan)
unfolding finish_step finish_answer finish_refusal
finish_good s e = good _ (unless_zero _ _ (then_zero _ _ (then_zero _ _ e).1).0)

-- ---- the text of every answer fits into the room for any
numbers_short : (l : List ℕ) → length (numbers l) ≤ number_room * length l
unfolding numbers
numbers_short [] = omega arith
numbers_short (n ∷ l) = omega (arith, length-append (decimal n) (numbers l), decimal_twenty n, numbers_short l)

-- numbers of d digits
module _ (d : ℕ) (some : 1 ≤ d) (f : ℕ → ℕ) (small : (i : ℕ) → f i < 10 ^ d) where
  numbers_most : (l : List ℕ) → length (numbers (map f l)) ≤ (d + 1) * length l
  unfolding numbers
  numbers_most [] = omega arith
  numbers_most (i ∷ l) =
      omega (arith, length-append (decimal (f i)) (numbers (map f l)), decimal_most d (f i) some (small i), numbers_most l, mul-suc (d + 1) (length l))

module _ (o : ℕ) where
  told_short : (n : ℕ) (a : Answer) → (n ≡ 0 → length (line o a) ≤ room) → length (line o (told n a)) ≤ room
  unfolding told after line
  told_short zero a h = h refl
  told_short (suc n) a h = simp length-append (omega (arith, numbers_short (suc n ∷ []), numbers_short (o ∷ [])))

  aside_short : (r k : ℕ) → length (aside_line r k) ≤ aside_room
  unfolding aside_line
  aside_short r k = elim (eqb k 0) as (λ b. length (cond b [] (aside_word ++ numbers (r ∷ k ∷ []) ++ line_end)) ≤ aside_room)
      [ true ↦ omega arith | false ↦ simp length-append (omega (arith, numbers_short (r ∷ k ∷ []))) ]

  -- an element of 16 bits has 5 digits at most
  total_short : (r k : ℕ) (f : ℕ → ℕ) (n : ℕ) → ((i : ℕ) → f i < 10 ^ 5) → n ≤ most_places → length (line o (totalled r k (map f (span n 0)))) ≤ room
  unfolding line numbers
  total_short r k f n h l =
      simp length-append (omega (arith, aside_short r k, decimal_twenty r, numbers_most 5 (lit< tt) f h (span n 0), span_length n 0))

  finish_short : (s : Service) → let t = finish_step sixteen laws16 s in t.number ≡ 0
      → length (line o (totalled s.head.round t.aside (take (places (plan_of s.head.plan)) t.totals))) ≤ room
  unfolding finish_step finish_answer totals_by totals total_of view
  finish_short s e =
      let p = plan_of s.head.plan in
      rw (totals_first sixteen laws16 s _ e)
      (total_short s.head.round _ _ (places p) (λ i. lt_trans (mod-lt _ (lit< tt)) (lit< tt)) (places_le p (finish_good s e)))

  pub line_short : (s : Service) (r : Record) → length (line o (step s r).answer) ≤ room
  unfolding step line
  line_short s (plan_record p) =
      told_short _ _ (λ e. simp length-append (omega (arith, numbers_short (p.users ∷ p.threshold ∷ p.collusion ∷ p.blocks ∷ []))))
  line_short s (open_record r) = told_short _ _ (λ e. simp length-append (omega (arith, numbers_short (r ∷ []))))
  line_short s (first_record k i x) = told_short _ _ (λ e. omega arith)
  line_short s close_record = told_short _ _ (λ e. simp length-append (omega (arith, numbers_short (s.head.round ∷ (close_step s).set ∷ []))))
  line_short s (reply_record k b x) = told_short _ _ (λ e. omega arith)
  line_short s finish_record = told_short _ _ (finish_short s)
