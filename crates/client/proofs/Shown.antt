-- Demand 3 over whole histories of the airfield ends.
--   InputsRight     one user's key and figures, as demand 3 has them
--   calls_made, calls_told   its key is made and its end begun; what its calls hand out, told by its first message and its shares
--   message_is_sent, part_is_sent    of the plain history: one first message, and one request
--   calls_show, shown_is_sent        the statement of specs/Shown.antt, over an arithmetic with its laws, and modulo 65521
--   seen_matched     a matching of the messages is one of the histories
--   demand_3, demand_3_of_bytes      THE THIRD DEMAND over what the calls give, modulo 65521; from raw bytes
-- Assumes nothing.
use Rattle.std.proofs.Common.{◌≡◌, refl, sym, ap, ap₂, ◌∙◌, Bool, true, false, cond, List, [], ◌∷◌, ℕ, zero, suc, ◌≤◌, arith, eqb, length, eqb-true, eq-eqb, ne_eqb}
use mathlib.Core.Option.{Option, some}
use native.Mathlib.Decide.{ℕ_discrete}
use Rattle.scheme.specs.Scheme as scheme
use Rattle.scheme.specs.Lists.{span}
use Rattle.scheme.specs.Scheme.{Arithmetic, sixteen, elements, plan_good, places, figures_good, in_set, usable, users_in, key, key_length, first_message, reply, is_fresh, open_to, start_refusal, key_refusal, message_refusal, reply_refusal, unless, ◌then◌, after}
use Rattle.scheme.specs.Laws.{Laws}
use Rattle.scheme.specs.Promise.{Table, everyone, rows_good, admissible, list_good, Shown, shown, Alike, Matching, MatchingUnder, NothingTold}
use Rattle.scheme.proofs.Good.{good}
use Rattle.scheme.proofs.Lists.{map_same, map_back, span_in, in_span}
use Rattle.scheme.proofs.Sets.{user_in, in_users}
use Rattle.scheme.proofs.Keys.{key_is_long, key_elements, list_long, list_elements}
use Rattle.scheme.proofs.Sums.{zero_small}
use Rattle.scheme.proofs.Elements.{figures_elements}
use Rattle.scheme.proofs.Modular.{sixteen_sums}
use Rattle.scheme.proofs.Refusals.{after_taken, then_zero, unless_zero, start_passes}
use Rattle.scheme.proofs.Privacy.Demand.{nothing_told_sixteen}
use Rattle.scheme.proofs.Drawing.Told.{bytes_matched}
use Rattle.plan.specs.declared.Plan.{Plan}
use Rattle.plan.specs.declared.Use.{Use}
use Rattle.plan.specs.Plan.{plan_of, use_of}
use Rattle.client.specs.declared.Stage.{Stage}
use Rattle.client.specs.declared.Stage.TheVariants.{Fresh, Sent, Answered}
use Rattle.client.specs.declared.Client.{Client}
use Rattle.client.specs.Client.{stage_of, fresh_end, part_of}
use Rattle.client.specs.History.{Call, send, ask, Given, given, left, history, Handed, calls_of, calls, plainly, out_at, message_in, part_in}
use Rattle.client.specs.Shown.{OneSet, KeyRoom, KeyRooms, told, now_sent, all_told, told_by, ShownIsSent, seen, SameSeen, Demand3, Demand3OfBytes}

-- ---- what one end's calls give
pub record InputsRight (A : Arithmetic) (p : Plan) (u : Use) (xs : List ℕ) (k : ℕ) (fs ko : List ℕ) : Type 0 where
  pub good_plan : plan_good (plan_of p) ≡ true
  pub good_list : list_good A (plan_of p) xs ≡ true
  pub user : (1 ≤ k) × (k ≤ p.users)
  pub figures : (length fs ≡ places (plan_of p)) × (figures_good A (use_of u) (plan_of p) fs ≡ true)
  pub room : KeyRoom p k ko

module _ (A : Arithmetic) {n m : ℕ} (L : Laws A n m) (p : Plan) (u : Use) (own v : ℕ) (xs : List ℕ) (k : ℕ) (fs ko : List ℕ)
    (i : InputsRight A p u xs k fs ko) where
  abbrev P : scheme.Plan
  P = plan_of p

  abbrev ks : List ℕ
  ks = key A P xs k

  begun : start_refusal P k ≡ 0
  begun = start_passes P k (good P i.good_plan, i.user.0, i.user.1)

  long : length ks ≡ key_length P k
  long = key_is_long A P xs k

  pure : elements A xs ≡ true
  pure = list_elements A P xs i.good_list

  clean : elements A ks ≡ true
  clean = key_elements A n m L P xs k pure

  small : elements A fs ≡ true
  small = figures_elements A (zero_small A n m L) (use_of u) P fs i.figures.1

  makes : key_refusal A P k xs (length ko) ≡ 0
  unfolding key_refusal unless ◌then◌
  makes = simp (begun, eq-eqb _ _ (list_long A P xs i.good_list), eq-eqb _ _ i.room, pure)

  -- the numbers of the calls, at each stage
  fresh_sends : (o : ℕ) → message_refusal A P k (use_of u) scheme.fresh ks fs o ≡ unless (eqb o (places P)) 2
  unfolding message_refusal is_fresh unless ◌then◌
  fresh_sends o = elim (ℕ_discrete o (places P)) [
    | yes e ↦ simp (begun, eq-eqb _ _ long, eq-eqb _ _ i.figures.0, eq-eqb _ _ e, clean, small, i.figures.1)
    | no h ↦ simp (begun, eq-eqb _ _ long, eq-eqb _ _ i.figures.0, ne_eqb _ _ h)
  ]

  sent_sends : (g : scheme.Stage) → is_fresh g ≡ false → (o : ℕ) → message_refusal A P k (use_of u) g ks fs o ≡ 18
  unfolding message_refusal unless ◌then◌
  sent_sends g f o = simp (begun, f)

  fresh_answers : (w r : ℕ) → reply_refusal A P k scheme.fresh own ks w r ≡ 18
  unfolding reply_refusal is_fresh unless ◌then◌
  fresh_answers w r = simp begun

  abbrev answer : (w r : ℕ) → ℕ
  answer w r = unless (usable P w) 5 then unless (in_set w k) 6 then unless (eqb r own) 33

  sent_answers : (g : scheme.Stage) → is_fresh g ≡ false → (w r : ℕ) → (r ≡ own → open_to w g ≡ true) → reply_refusal A P k g own ks w r ≡ answer w r
  unfolding reply_refusal unless ◌then◌
  sent_answers g f w r o = elim (ℕ_discrete r own) [
    | yes e ↦ simp (begun, f, eq-eqb _ _ long, clean, eq-eqb _ _ e, o e)
    | no h ↦ simp (begun, f, eq-eqb _ _ long, clean, ne_eqb _ _ h)
  ]

  answer_taken : (w r : ℕ) → answer w r ≡ 0 → (r ≡ own) × (in_set w k ≡ true)
  answer_taken w r z =
      let s = then_zero _ _ (then_zero _ _ z).1 in (eqb-true _ _ (unless_zero _ _ s.1), unless_zero _ _ s.0)

  -- the end at a stage; its first message, and its shares
  abbrev at : Stage → Client
  at g = record { plan = p; user = k; usage = u; round = own; stage = g }

  abbrev message : List ℕ
  message = first_message A P ks fs

  abbrev shares : List ℕ
  shares = cond (in_set v k) (reply P ks k v) []

  abbrev tells : (sent : Bool) → List Call → List Given
  tells b es = all_told P k own message shares b es

  -- the stages that an end may have
  Stands : (sent : Bool) → Stage → Type 0
  Stands false Fresh = Unit {0}
  Stands false Sent = ⊥
  Stands false (Answered w) = ⊥
  Stands true Fresh = ⊥
  Stands true Sent = Unit {0}
  Stands true (Answered w) = w ≡ v

  module _ (es : List Call) where
    send_step : (b : Bool) → history A ks fs es (at Sent) ≡ tells true es → history A ks fs es (at Fresh) ≡ tells false es
        → history A ks fs es (after (unless b 2) (at Sent) (at Fresh)) ≡ tells b es
    unfolding unless after
    send_step true h g = h
    send_step false h g = g

    ask_step : (g : Stage) (n w : ℕ) → (n ≡ 0 → w ≡ v) → history A ks fs es (at (Answered v)) ≡ tells true es
        → history A ks fs es (at g) ≡ tells true es → history A ks fs es (after n (at (Answered w)) (at g)) ≡ tells true es
    unfolding after
    ask_step g zero w h a s = ap (λ (w : ℕ). history A ks fs es (at (Answered w))) (h refl) ∙ a
    ask_step g (suc n) w h a s = s

  handed_out : (n w : ℕ) → (n ≡ 0 → (w ≡ v) × (in_set w k ≡ true)) → after n (reply P ks k w) [] ≡ after n shares []
  unfolding after
  handed_out zero w h = let e = h refl in rw (sym e.0, e.1)
  handed_out (suc n) w h = refl

  told_ask : (es : List Call) (g : Stage) (w r : ℕ) → is_fresh (stage_of g) ≡ false → (r ≡ own → open_to w (stage_of g) ≡ true) → (r ≡ own → w ≡ v)
      → history A ks fs es (at (Answered v)) ≡ tells true es → history A ks fs es (at g) ≡ tells true es
      → history A ks fs (ask w r ∷ es) (at g) ≡ tells true (ask w r ∷ es)
  unfolding history given left told now_sent all_told part_of
  told_ask es g w r f o one a s =
      let n = sent_answers (stage_of g) f w r o in
      let z : answer w r ≡ 0 → (w ≡ v) × (in_set w k ≡ true) = λ z. let t = answer_taken w r z in (one t.0, t.1) in
      rw n (ap₂ (λ (l : List ℕ) (gs : List Given). record { number = answer w r; out = l } ∷ gs) (handed_out (answer w r) w z)
      (ask_step es g (answer w r) w (λ e. (z e).0) a s))

  told_send : (es : List Call) (g : Stage) (o : List ℕ) → is_fresh (stage_of g) ≡ false → history A ks fs es (at g) ≡ tells true es
      → history A ks fs (send o ∷ es) (at g) ≡ tells true (send o ∷ es)
  unfolding history given left told now_sent all_told after
  told_send es g o f s = rw (sent_sends (stage_of g) f (length o)) (ap (λ (gs : List Given). record { number = 18; out = o } ∷ gs) s)

  history_told : (es : List Call) (b : Bool) (g : Stage) → Stands b g → OneSet own v es → history A ks fs es (at g) ≡ tells b es
  unfolding history given left told now_sent all_told OneSet Stands stage_of is_fresh open_to after part_of
  history_told [] b g s h = refl
  history_told (send o ∷ es) false Fresh s h =
      let n = unless (eqb (length o) (places P)) 2 in
      rw (fresh_sends (length o)) (ap (λ (gs : List Given). record { number = n; out = after n message o } ∷ gs)
      (send_step es (eqb (length o) (places P)) (history_told es true Sent tt h) (history_told es false Fresh tt h)))
  history_told (ask w r ∷ es) false Fresh s h =
      rw (fresh_answers w r) (ap (λ (gs : List Given). record { number = 18; out = [] } ∷ gs) (history_told es false Fresh tt h.1))
  history_told (send o ∷ es) true Sent s h = told_send es Sent o refl (history_told es true Sent tt h)
  history_told (send o ∷ es) true (Answered w) s h = told_send es (Answered w) o refl (history_told es true (Answered w) s h)
  history_told (ask w r ∷ es) true Sent s h =
      told_ask es Sent w r refl (λ e. refl) h.0 (history_told es true (Answered v) refl h.1) (history_told es true Sent tt h.1)
  history_told (ask w r ∷ es) true (Answered x) s h =
      told_ask es (Answered x) w r refl (λ e. eq-eqb _ _ (s ∙ sym (h.0 e))) h.0 (history_told es true (Answered v) refl h.1)
      (history_told es true (Answered x) s h.1)
  history_told (e ∷ es) false Sent s h = absurd s
  history_told (e ∷ es) false (Answered w) s h = absurd s
  history_told (e ∷ es) true Fresh s h = absurd s

  pub calls_made : (es : List Call) → calls A p u own xs fs k ko es ≡ calls_of A (some (at Fresh)) ks fs es
  unfolding calls
  calls_made es = ap₂ (λ (c : Option Client) (l : List ℕ). calls_of A c l fs es) (after_taken begun _ _) (after_taken makes ks ko)

  pub calls_told : (es : List Call) → OneSet own v es → calls A p u own xs fs k ko es ≡ told_by A p own v k xs fs es
  unfolding calls_of Stands
  calls_told es h = calls_made es ∙ ap (λ (gs : List Given). record { key = ks; given = gs }) (history_told es false Fresh tt h)

  -- of the plain history
  pub message_is_sent : (o : List ℕ) → length o ≡ places P → message_in (calls A p u own xs fs k ko (plainly v own o)) ≡ message
  unfolding out_at all_told told now_sent OneSet unless after
  message_is_sent o e = ap message_in (calls_told (plainly v own o) (λ z. refl, tt)) ∙ rw (eq-eqb _ _ e)

  pub part_is_sent : (o : List ℕ) → length o ≡ places P → usable P v ≡ true → in_set v k ≡ true
      → part_in (calls A p u own xs fs k ko (plainly v own o)) ≡ reply P ks k v
  unfolding out_at all_told told now_sent OneSet unless ◌then◌ after
  part_is_sent o e w h = ap part_in (calls_told (plainly v own o) (λ z. refl, tt)) ∙ simp (eq-eqb _ _ e, w, h, eq-eqb own own refl)

pub calls_show : (A : Arithmetic) {n m : ℕ} → Laws A n m → ShownIsSent A
unfolding ShownIsSent
calls_show A L p u own v k xs fs ko es good ok lo hi figures room one =
    calls_told A L p u own v xs k fs ko (record { good_plan = good; good_list = ok; user = (lo, hi); figures = figures; room = room }) es one

pub shown_is_sent : ShownIsSent sixteen
shown_is_sent = calls_show sixteen sixteen_sums

-- ---- what all ends show
module _ (A : Arithmetic) {n m : ℕ} (L : Laws A n m) (p : Plan) (u : (k : ℕ) → Use) (own v c : ℕ) (good : plan_good (plan_of p) ≡ true) where
  abbrev first_of : List ℕ → Table → (k : ℕ) → List ℕ
  first_of xs x k = first_message A (plan_of p) (key A (plan_of p) xs k) (x k)

  abbrev reply_of : List ℕ → (k : ℕ) → List ℕ
  reply_of xs k = reply (plan_of p) (key A (plan_of p) xs k) k v

  abbrev GoodRows : Table → Type 0
  GoodRows x = admissible A (plan_of p) everyone (λ k. use_of (u k)) x

  inputs : (xs : List ℕ) (x : Table) (ko : (k : ℕ) → List ℕ) → list_good A (plan_of p) xs ≡ true → GoodRows x → KeyRooms p ko
      → (k : ℕ) → 1 ≤ k → k ≤ p.users → InputsRight A p (u k) xs k (x k) (ko k)
  unfolding rows_good
  inputs xs x ko ok rows room k lo hi =
      record { good_plan = good; good_list = ok; user = (lo, hi); figures = rows k lo hi refl; room = room k lo hi }

  module _ (xs ys : List ℕ) (x y : Table) (same : shown A (plan_of p) v c xs x ≡ shown A (plan_of p) v c ys y) (k : ℕ) (lo : 1 ≤ k) (hi : k ≤ p.users) where
    first_same : first_of xs x k ≡ first_of ys y k
    unfolding shown
    first_same = map_back (first_of xs x) (first_of ys y) (span p.users 1) (ap (λ (s : Shown). s.firsts) same) k (in_span p.users 1 k lo (omega arith))

    share_same : (b : Bool) → in_set v k ≡ b → cond b (reply_of xs k) [] ≡ cond b (reply_of ys k) []
    unfolding shown
    share_same false e = refl
    share_same true e =
        map_back (reply_of xs) (reply_of ys) (users_in (plan_of p) v) (ap (λ (s : Shown). s.replies) same) k
        (in_users (plan_of p) v k lo hi e)

    key_same : in_set c k ≡ true → key A (plan_of p) xs k ≡ key A (plan_of p) ys k
    unfolding shown
    key_same e =
        map_back (key A (plan_of p) xs) (key A (plan_of p) ys) (users_in (plan_of p) c) (ap (λ (s : Shown). s.keys) same) k
        (in_users (plan_of p) c k lo hi e)

    -- a colluder's end has the same key and the same figures, so it hands out the same whatever comes
    handed_same : (ko : List ℕ) (es : List Call) → InputsRight A p (u k) xs k (x k) ko → InputsRight A p (u k) ys k (y k) ko
        → (in_set c k ≡ true → x k ≡ y k) → (in_set c k ≡ false → OneSet own v es) → (b : Bool) → in_set c k ≡ b
        → (calls A p (u k) own xs (x k) k ko es).given ≡ (calls A p (u k) own ys (y k) k ko es).given
    handed_same ko es i j figures one true e =
        ap (λ (h : Handed). h.given) (calls_made A L p (u k) own v xs k (x k) ko i es)
        ∙ ap₂ (λ (ks fs : List ℕ). (calls_of A (some (fresh_end p k (u k) own)) ks fs es).given) (key_same e) (figures e)
        ∙ ap (λ (h : Handed). h.given) (sym (calls_made A L p (u k) own v ys k (y k) ko j es))
    handed_same ko es i j figures one false e =
        ap (λ (h : Handed). h.given) (calls_told A L p (u k) own v xs k (x k) ko i es (one e))
        ∙ ap₂ (λ (f r : List ℕ). all_told (plan_of p) k own f r false es) first_same (share_same (in_set v k) refl)
        ∙ ap (λ (h : Handed). h.given) (sym (calls_told A L p (u k) own v ys k (y k) ko j es (one e)))

  key_given : (xs fs ko : List ℕ) (k : ℕ) (es : List Call) → InputsRight A p (u k) xs k fs ko
      → (calls A p (u k) own xs fs k ko es).key ≡ key A (plan_of p) xs k
  unfolding calls_of
  key_given xs fs ko k es i = ap (λ (h : Handed). h.key) (calls_made A L p (u k) own v xs k fs ko i es)

  seen_same : (xs ys : List ℕ) (x y : Table) → list_good A (plan_of p) xs ≡ true → list_good A (plan_of p) ys ≡ true → GoodRows x → GoodRows y
      → Alike A (plan_of p) v c x y → shown A (plan_of p) v c xs x ≡ shown A (plan_of p) v c ys y → SameSeen A p u own v c x y xs ys
  unfolding SameSeen seen shown
  seen_same xs ys x y ok-x ok-y rows-x rows-y alike same ko es room one =
      let of-x = inputs xs x ko ok-x rows-x room in
      let of-y = inputs ys y ko ok-y rows-y room in
      λ i. record {
        handed = map_same _ _ (span p.users 1) (λ k m.
            let l = span_in p.users 1 k m in
            let hi : k ≤ p.users = omega arith in
            handed_same xs ys x y same k l.0 hi (ko k) (es k) (of-x k l.0 hi) (of-y k l.0 hi) (alike.own k l.0 hi) (one k l.0 hi)
            (in_set c k) refl) i;
        keys = (map_same _ (key A (plan_of p) xs) (users_in (plan_of p) c) (λ k m.
            let l = user_in (plan_of p) c k m in key_given xs (x k) (ko k) k (es k) (of-x k l.0 l.1))
            ∙ ap (λ (s : Shown). s.keys) same
            ∙ map_same (key A (plan_of p) ys) _ (users_in (plan_of p) c) (λ k m.
            let l = user_in (plan_of p) c k m in sym (key_given ys (y k) (ko k) k (es k) (of-y k l.0 l.1)))) i;
      }

  pub seen_matched : (x y : Table) → GoodRows x → GoodRows y → Alike A (plan_of p) v c x y
      → Matching A (plan_of p) v c x y → MatchingUnder A (plan_of p) (SameSeen A p u own v c x y)
  seen_matched x y rows-x rows-y alike m = record {
    partner = m.partner;
    back = m.back;
    stays = m.stays;
    one_to_one = m.one_to_one;
    same = λ xs ok. seen_same xs (m.partner xs) x y ok (m.stays xs ok).0 rows-x rows-y alike (m.same xs ok);
  }

-- THE THIRD DEMAND
pub demand_3 : Demand3 sixteen
unfolding Demand3 NothingTold
demand_3 p u own good v c x y ok lt few rows-x rows-y alike =
    seen_matched sixteen sixteen_sums p u own v c good x y rows-x rows-y alike
    (nothing_told_sixteen (plan_of p) good (admissible sixteen (plan_of p) everyone (λ k. use_of (u k))) v c x y ok lt few rows-x rows-y alike)

-- THE THIRD DEMAND FROM RAW BYTES
pub demand_3_of_bytes : Demand3OfBytes sixteen
unfolding Demand3OfBytes Demand3
demand_3_of_bytes p u own n good v c x y ok lt few rows-x rows-y alike =
    bytes_matched sixteen (omega arith) (plan_of p) n _ (demand_3 p u own good v c x y ok lt few rows-x rows-y alike)
