-- Repeats of elements that are held are taken quietly, and 13 is for other elements alone.
--   with_same, with_kept, with_own     an element put where it stands, and what is held behind it
--   place_repeat, place_thirteen       a refusal other than 13, and then 13 where another element is held
--   Element, tested                    so are the refusals of an element
--   thirteen_exactly, repeat_silent    one record
--   keeps                              an accepted element stays held until the phase ends
--   repeats_quiet, twice_repeats       many records
-- Assumes nothing.
use mathlib.Core.Path.{◌≡◌, refl, sym, ap, ap₂, ◌∙◌, subst}
use mathlib.Core.Logic.{◌≢◌, ◌↔◌, inl, inr}
use mathlib.Core.Bool.{Bool, true, false, ◌&&◌}
use mathlib.Core.List.{List, [], ◌∷◌}
use mathlib.Core.Option.{Option, none, some}
use Prim.Native.Nat.{ℕ, zero, suc}
use native.Mathlib.Omega.{arith}
use lib.Dec.{eqb}
use borrow.Author.Tests.{eqb-true, eqb-false, eq-eqb, ne_eqb}
use Rattle.algebra.specs.Sums.{In}
use Rattle.scheme.specs.Scheme.{Arithmetic, ◌then◌, unless}
use Rattle.scheme.specs.Service.{plan_missing, second_plan, not_gathering, not_replying, State, is_held, with_element, takes, Record, plan_record, open_record, first_record, close_record, reply_record, finish_record, Answer, silent, planned, opened, closed, totalled, refused, element_refusal, refusal, next_state, answer_of, is_finish, Steps, refuses, accepts, totals_up, disagrees, Runs, done, more}
use Rattle.scheme.specs.Repeats.{emptied, element_in, held_for, HoldsOther, OtherHeld, ThirteenExactly, Repeat, RepeatSilent, accepted_after, Repeats, over, own, again, RepeatsQuiet, twice, all_twice, TwiceRepeats}
use Rattle.scheme.proofs.Tests.{holds, and_both}
use Rattle.scheme.proofs.Refusals.{then_taken, then_zero, then_last, then_not, unless_held, unless_failed, unless_zero, test_not, passed_not}
use Rattle.scheme.proofs.Pooling.Held.{state_same}
use Rattle.scheme.proofs.Pooling.Well.{refuses_as, answer_not_refused}

-- ---- one place
module _ (k i x : ℕ) (f : (k at : ℕ) → Option ℕ) where
  here : (l j : ℕ) → (eqb l k && eqb j i) ≡ true → f l j ≡ f k i
  here l j h = let s = and_both (eqb l k) (eqb j i) h in ap₂ f (eqb-true l k s.0) (eqb-true j i s.1)

  pub with_same : f k i ≡ some x → (l j : ℕ) → with_element k i x f l j ≡ f l j
  unfolding with_element
  with_same e l j = pick (eqb l k && eqb j i) refl
    where
      pick : (b : Bool) → (eqb l k && eqb j i) ≡ b → with_element k i x f l j ≡ f l j
      pick true h = rw h (sym e ∙ sym (here l j h))
      pick false h = rw h

  with_kept : takes (f k i) x ≡ true → (l j y : ℕ) → f l j ≡ some y → with_element k i x f l j ≡ some y
  unfolding with_element takes
  with_kept t l j y e = pick (eqb l k && eqb j i) refl
    where
      pick : (b : Bool) → (eqb l k && eqb j i) ≡ b → with_element k i x f l j ≡ some y
      pick true h = let p : f k i ≡ some y = sym (here l j h) ∙ e in rw h (ap some (sym (eqb-true y x (rw p at t))))
      pick false h = rw h e

  with_own : with_element k i x f k i ≡ some x
  unfolding with_element
  with_own = rw (eq-eqb k k refl, eq-eqb i i refl)

-- a place that does not take an element holds another
not_taken : (o : Option ℕ) (x : ℕ) → takes o x ≡ false → HoldsOther o x
unfolding takes
not_taken none x e = absurd (holds (sym e))
not_taken (some y) x e = record { other = y; held = refl; differs = eqb-false y x e }

taken : {o : Option ℕ} {y : ℕ} (x : ℕ) → o ≡ some y → takes o x ≡ eqb y x
unfolding takes
taken x e = ap (λ (o : Option ℕ). takes o x) e

-- a refusal other than 13, and then the place's
stopped : (f : ℕ) (b : Bool) → f ≢ 13 → (f then unless b 13) ≡ 13 → (f ≡ 0) × (b ≡ false)
unfolding ◌then◌ unless
stopped zero true h e = absurd (omega arith)
stopped zero false h e = (refl, refl)
stopped (suc f) b h e = absurd (h e)

module _ (f : ℕ) (o : Option ℕ) (x : ℕ) where
  pub place_repeat : f ≡ 0 → o ≡ some x → (f then unless (takes o x) 13) ≡ 0
  place_repeat e d = then_taken e _ ∙ unless_held (taken x d ∙ eq-eqb x x refl) 13

  pub place_thirteen : f ≢ 13 → ((f then unless (takes o x) 13) ≡ 13) ↔ ((f ≡ 0) × HoldsOther o x)
  place_thirteen h = (
    λ e. let c = stopped f (takes o x) h e in (c.0, not_taken o x c.1),
    λ c. then_taken c.0 _ ∙ unless_failed (taken x c.1.held ∙ ne_eqb _ _ c.1.differs) 13,
  )

data Element : Record → Type 0 where
  first : (k i x : ℕ) → Element (first_record k i x)
  reply : (k b x : ℕ) → Element (reply_record k b x)

is_element : (r : Record) (s : State) {y : ℕ} → held_for r s ≡ some y → Element r
unfolding held_for is_held
is_element (first_record k i x) s e = first k i x
is_element (reply_record k b x) s e = reply k b x
is_element (plan_record p) s e = absurd (holds (ap is_held e))
is_element (open_record r) s e = absurd (holds (ap is_held e))
is_element close_record s e = absurd (holds (ap is_held e))
is_element finish_record s e = absurd (holds (ap is_held e))

next_same : (r : Record) (s : State) → held_for r s ≡ some (element_in r) → Element r → next_state r s ≡ s
unfolding held_for element_in next_state
next_same _ s e (first k i x) = state_same (with_same k i x s.firsts e) (λ l j. refl)
next_same _ s e (reply k b x) = state_same (λ l j. refl) (with_same k b x s.replies e)

module _ (A : Arithmetic) where
  -- ---- one record
  abbrev before : Record → State → ℕ
  before r s = refusal A r (emptied s)

  tested : (r : Record) (s : State) → Element r → refusal A r s ≡ (before r s then unless (takes (held_for r s) (element_in r)) 13)
  unfolding refusal emptied takes held_for element_in unless
  tested _ s (first k i x) = then_last _ _ _ (then_last _ _ _ (sym (then_taken refl _)))
  tested _ s (reply k b x) = then_last _ _ _ (then_last _ _ _ (then_last _ _ _ (sym (then_taken refl _))))

  not_before : (r : Record) (s : State) → Element r → before r s ≢ 13
  unfolding refusal emptied takes plan_missing not_gathering not_replying element_refusal
  not_before _ s (first k i x) =
      then_not (then_not (test_not _ 11 refl) (test_not _ 12 refl))
      (then_not (then_not (test_not _ 4 refl) (then_not (test_not _ 8 refl) (test_not _ 3 refl))) (passed_not refl 13))
  not_before _ s (reply k b x) =
      then_not (then_not (test_not _ 11 refl) (test_not _ 12 refl))
      (then_not (then_not (test_not _ 4 refl) (then_not (test_not _ 8 refl) (test_not _ 3 refl))) (then_not (test_not _ 14 refl) (passed_not refl 13)))

  -- no other kind is refused 13
  thirteen_element : (r : Record) (s : State) → refusal A r s ≡ 13 → Element r
  unfolding refusal plan_missing second_plan not_gathering not_replying
  thirteen_element (first_record k i x) s e = first k i x
  thirteen_element (reply_record k b x) s e = reply k b x
  thirteen_element (plan_record p) s e = absurd (then_not (test_not _ 11 refl) (test_not _ 1 refl) e)
  thirteen_element (open_record r) s e = absurd (then_not (test_not _ 11 refl) (test_not _ 17 refl) e)
  thirteen_element close_record s e = absurd (then_not (then_not (test_not _ 11 refl) (test_not _ 12 refl)) (test_not _ 15 refl) e)
  thirteen_element finish_record s e = absurd (then_not (then_not (test_not _ 11 refl) (test_not _ 12 refl)) (test_not _ 15 refl) e)

  abbrev thirteen_here : (r : Record) (s : State) → Element r → ((before r s then unless (takes (held_for r s) (element_in r)) 13) ≡ 13)
      ↔ ((before r s ≡ 0) × HoldsOther (held_for r s) (element_in r))
  thirteen_here r s k = place_thirteen (before r s) (held_for r s) (element_in r) (not_before r s k)

  other_held : (r : Record) (s : State) → refusal A r s ≡ 13 → OtherHeld A r s s
  other_held r s e =
      let k = thirteen_element r s e in
      let c = (thirteen_here r s k).0 (sym (tested r s k) ∙ e) in
      record { fits = c.0; held = c.1; unchanged = refl }

  thirteen_step : (r : Record) (s t : State) (a : Answer) → a ≡ refused 13 → Steps A r s a t → OtherHeld A r s t
  thirteen_step _ _ _ _ d (refuses r s e) = other_held r s cc
  thirteen_step _ _ _ _ d (accepts r s f e) = absurd (answer_not_refused r s 13 d)
  thirteen_step _ _ _ _ d (totals_up s k f e h) = let z : ◌≡◌ {A = ℕ} 0 1 = cc in absurd (omega arith)
  thirteen_step _ _ _ _ d (disagrees s e h) = let z : ◌≡◌ {A = ℕ} 16 13 = cc in absurd (omega arith)

  pub thirteen_exactly : ThirteenExactly A
  unfolding ThirteenExactly
  thirteen_exactly r s t = (thirteen_step r s t (refused 13) refl, back)
    where
      back : OtherHeld A r s t → Steps A r s (refused 13) t
      back o =
          let k = is_element r s o.held.held in
          rw o.unchanged (refuses_as A r s (λ z. omega arith) (tested r s k ∙ (thirteen_here r s k).1 (o.fits, o.held)))

  repeat_taken : (r : Record) (s : State) → Repeat A r s → refusal A r s ≡ 0
  repeat_taken r s h = tested r s (is_element r s h.held) ∙ place_repeat (before r s) (held_for r s) (element_in r) h.fits h.held

  repeat_only : (r : Record) (s t : State) (a : Answer) → Repeat A r s → Element r → Steps A r s a t → (a ≡ silent) × (t ≡ s)
  unfolding answer_of
  repeat_only _ s _ _ h (first k i x) (refuses _ _ e) = absurd (e (repeat_taken _ s h))
  repeat_only _ s _ _ h (first k i x) (accepts _ _ f e) = (refl, next_same _ s h.held (first k i x))
  repeat_only _ s _ _ h (reply k b x) (refuses _ _ e) = absurd (e (repeat_taken _ s h))
  repeat_only _ s _ _ h (reply k b x) (accepts _ _ f e) = (refl, next_same _ s h.held (reply k b x))

  repeat_step : (r : Record) (s : State) → Repeat A r s → Element r → Steps A r s silent s
  unfolding answer_of is_finish
  repeat_step _ s h (first k i x) = subst (Steps A _ s silent) (next_same _ s h.held (first k i x)) (accepts _ s refl (repeat_taken _ s h))
  repeat_step _ s h (reply k b x) = subst (Steps A _ s silent) (next_same _ s h.held (reply k b x)) (accepts _ s refl (repeat_taken _ s h))

  pub repeat_silent : RepeatSilent A
  unfolding RepeatSilent
  repeat_silent r s t a h = (repeat_only r s t a h (is_element r s h.held), λ e. rw (e.0, e.1) (repeat_step r s h (is_element r s h.held)))

  -- ---- what is accepted stays held
  abbrev AllHeld : State → List Record → Type 0
  AllHeld s h = (q : Record) → In q h → Repeat A q s

  -- of an element that is taken: the tests before 13 are passed, and the place takes it
  fits_there : (r : Record) (s : State) → Element r → refusal A r s ≡ 0 → (before r s ≡ 0) × (takes (held_for r s) (element_in r) ≡ true)
  fits_there r s k e = let z = then_zero _ _ (sym (tested r s k) ∙ e) in (z.0, unless_zero _ _ z.1)

  own_held : (r : Record) (s : State) → Element r → before r s ≡ 0 → Repeat A r (next_state r s)
  unfolding emptied next_state held_for element_in
  own_held _ s (first k i x) e = record { fits = e; held = with_own k i x s.firsts }
  own_held _ s (reply k b x) e = record { fits = e; held = with_own k b x s.replies }

  kept : (r : Record) (s : State) → Element r → takes (held_for r s) (element_in r) ≡ true
      → (q : Record) → Element q → Repeat A q s → Repeat A q (next_state r s)
  unfolding emptied next_state held_for element_in
  kept _ s (first k i x) t _ (first l j y) h = record { fits = h.fits; held = with_kept k i x s.firsts t l j y h.held }
  kept _ s (first k i x) t _ (reply l c y) h = record { fits = h.fits; held = h.held }
  kept _ s (reply k b x) t _ (first l j y) h = record { fits = h.fits; held = h.held }
  kept _ s (reply k b x) t _ (reply l c y) h = record { fits = h.fits; held = with_kept k b x s.replies t l c y h.held }

  one_more : (r : Record) (s : State) (h : List Record) → Element r → refusal A r s ≡ 0 → AllHeld s h → AllHeld (next_state r s) (r ∷ h)
  one_more r s h k e g q (inl d) = subst (λ (p : Record). Repeat A p (next_state r s)) (sym d) (own_held r s k (fits_there r s k e).0)
  one_more r s h k e g q (inr i) = let o = g q i in kept r s k (fits_there r s k e).1 q (is_element q s o.held) o

  none_held : (s : State) → AllHeld s []
  none_held s q i = absurd i

  keeps : (r : Record) (s t : State) (a : Answer) (h : List Record) → Steps A r s a t → AllHeld s h → AllHeld t (accepted_after h r a)
  unfolding accepted_after answer_of is_finish
  keeps _ _ _ _ h (refuses r s e) g = g
  keeps _ _ _ _ h (accepts (plan_record p) s f e) g = none_held _
  keeps _ _ _ _ h (accepts (open_record n) s f e) g = none_held _
  keeps _ _ _ _ h (accepts (first_record k i x) s f e) g = one_more _ s h (first k i x) e g
  keeps _ _ _ _ h (accepts close_record s f e) g = none_held _
  keeps _ _ _ _ h (accepts (reply_record k b x) s f e) g = one_more _ s h (reply k b x) e g
  keeps _ _ _ _ h (accepts finish_record s f e) g = absurd (holds (sym f))
  keeps _ _ _ _ h (totals_up s k f e c) g = none_held _
  keeps _ _ _ _ h (disagrees s e c) g = g

  -- ---- many records
  quiet : (h rs ms : List Record) (l m : List Answer) (s t : State) → Repeats h rs l ms m → AllHeld s h → Runs A rs s l t → Runs A ms s m t
  quiet _ _ _ _ _ s t (over h) g (done _) = done s
  quiet _ _ _ _ _ s t (own h r a rs l ms m p) g (more _ _ _ u _ _ _ x y) =
      more r ms s u t a m x (quiet _ rs ms l m u t p (keeps r s u a h x g) y)
  quiet _ _ _ _ _ s t (again h r rs l ms m i p) g y =
      let o = g r i in more r ms s s t silent m (repeat_step r s o (is_element r s o.held)) (quiet h rs ms l m s t p g y)

  pub repeats_quiet : RepeatsQuiet A
  unfolding RepeatsQuiet
  repeats_quiet rs ms l m s t p y = quiet [] rs ms l m s t p (none_held s) y

  again_twice : (h : List Record) (r : Record) (a : Answer) (rs : List Record) (l : List Answer) (ms : List Record) (m : List Answer)
      → Repeats (accepted_after h r a) rs l ms m → Repeats h (r ∷ rs) (a ∷ l) (twice a r ms) (twice a a m)
  unfolding accepted_after twice
  again_twice h r silent rs l ms m p = own h r silent rs l _ _ (again (r ∷ h) r rs l ms m (inl refl) p)
  again_twice h r (planned q) rs l ms m p = own h r (planned q) rs l ms m p
  again_twice h r (opened n) rs l ms m p = own h r (opened n) rs l ms m p
  again_twice h r (closed n v) rs l ms m p = own h r (closed n v) rs l ms m p
  again_twice h r (totalled n k x) rs l ms m p = own h r (totalled n k x) rs l ms m p
  again_twice h r (refused n) rs l ms m p = own h r (refused n) rs l ms m p

  twice_from : (h rs : List Record) (l : List Answer) (s t : State) → Runs A rs s l t → Repeats h rs l (all_twice l rs) (all_twice l l)
  unfolding all_twice
  twice_from h _ _ s t (done _) = over h
  twice_from h _ _ s t (more r rs _ u _ a l x y) = again_twice h r a rs l _ _ (twice_from (accepted_after h r a) rs l u t y)

  pub twice_repeats : TwiceRepeats A
  unfolding TwiceRepeats
  twice_repeats rs l s t y = twice_from [] rs l s t y
