-- What the calls say: answers in our words are those of document 03's contracts, of replies asked for the round of the key.
--   by_numbers                          what is said of an end, by document 03's numbers and a round
--   key_says, first_says, reply_says    KeySays, FirstSays and ReplySays
-- Assumes nothing.
use Rattle.std.proofs.Common.{◌≡◌, sym, ap, ◌∙◌, ◌≢◌, List, ℕ, zero, suc, ◌+◌, arith, eqb-true, length}
use Rattle.scheme.specs.Scheme.{Plan, Use, counts, Stage, sixteen, key_length, first_message, reply_start, key_refusal, message_refusal, reply_refusal, after, key_left}
use Rattle.scheme.proofs.Tests.{and_both}
use Rattle.scheme.proofs.Refusals.{then_zero, start_taken, unless_zero, after_taken, after_refused}
use Rattle.plan.specs.declared.Plan as code
use Rattle.plan.specs.declared.Use as code_use
use Rattle.plan.specs.Plan.{plan_of, use_of}
use Rattle.client.specs.declared.Client.{Client}
use Rattle.client.specs.Client.{stage_of, stage_of_number, first_refusal, message_left, answer_refusal}
use Rattle.document03.specs.Ours.{our_plan, plan_of_numbers, ClientOf}
use Rattle.document03.specs.Scheme as D
use Rattle.document03.specs.Entry as E
use Rattle.document03.specs.declared.Part.{Part}
use Rattle.document03.specs.declared.Sent.{Sent}
use Rattle.document03.proofs.Sets.{reply_start_same}
use Rattle.document03.proofs.Keys.{key_same, first_message_same}
use Rattle.document03.proofs.Refusals.{key_refusal_same, message_refusal_same, part_refusal_same}

-- ---- an end
by_numbers : {k u t m a own g : ℕ} {x : Client} → ClientOf k u t m a own g x → {A : Type 0} (f : Plan → ℕ → Use → ℕ → Stage → A)
    → f (plan_of x.plan) x.user (use_of x.usage) x.round (stage_of x.stage) ≡ f (plan_of_numbers k u t m) a counts own (stage_of_number g)
by_numbers {k} {u} {t} {m} {a} {own} {g} {x} h f =
    let p = plan_of_numbers k u t m in
    ap (λ (c : code.Plan). f (plan_of c) x.user (use_of x.usage) x.round (stage_of x.stage)) h.plan
    ∙ ap (λ (n : ℕ). f p n (use_of x.usage) x.round (stage_of x.stage)) h.user
    ∙ ap (λ (w : code_use.Use). f p a (use_of w) x.round (stage_of x.stage)) h.usage
    ∙ ap (λ (n : ℕ). f p a counts n (stage_of x.stage)) h.round ∙ ap (f p a counts own) h.stage

-- ---- the key maker
put_says : (n : ℕ) {m : ℕ} (ws : List ℕ) {us : List ℕ} (r : ℕ) (o z : List ℕ) → n ≡ m → (m ≡ 0 → ws ≡ us) → r ≡ m → z ≡ after m us o → E.PutSays n ws r o z
unfolding E.PutSays
put_says zero ws {us} r o z e h f d = (f ∙ sym e, d ∙ after_taken (sym e) us o ∙ sym (h (sym e)))
put_says (suc n) ws {us} r o z e h f d = (f ∙ sym e, d ∙ after_refused (λ t. omega arith) us o)

pub key_says : (k u t m a : ℕ) (xs : List ℕ) (r : ℕ) (o z : List ℕ) → r ≡ key_refusal sixteen (plan_of_numbers k u t m) a xs (length o)
    → z ≡ key_left sixteen (plan_of_numbers k u t m) a xs o
    → E.KeySays k u t m a xs r o z
unfolding E.KeySays D.plan key_refusal
key_says k u t m a xs r o z f d =
    put_says _ _ r o z (key_refusal_same (D.plan k u t m) a xs (length o)) (λ e.
    let s = then_zero _ _ e in
    let w = start_taken (our_plan (D.plan k u t m)) a s.0 in
    let l = and_both _ _ (unless_zero _ _ (then_zero _ _ s.1).0) in
    key_same (D.plan k u t m) w.0 xs a w.1 w.2 (eqb-true _ _ l.0)) f d

-- ---- the first message
sent_says : (n : ℕ) {m : ℕ} (ws : List ℕ) {us : List ℕ} (g : ℕ) (r : Sent) (o z : List ℕ) → n ≡ m → (m ≡ 0 → ws ≡ us) → r.number ≡ m
    → (m ≡ 0 → r.stage ≡ 1) → (m ≢ 0 → r.stage ≡ g) → z ≡ after m us o → E.SentSays n ws g r o z
unfolding E.SentSays
sent_says zero ws {us} g r o z e h f taken refused d = (f ∙ sym e, taken (sym e), d ∙ after_taken (sym e) us o ∙ sym (h (sym e)))
sent_says (suc n) {m} ws {us} g r o z e h f taken refused d =
    let no : m ≢ 0 = λ t. omega arith in
    (f ∙ sym e, refused no, d ∙ after_refused no us o)

pub first_says : {k u t m a own g : ℕ} {x : Client} → ClientOf k u t m a own g x → (ks fs : List ℕ) (r : Sent) (o z : List ℕ)
    → let n = first_refusal sixteen x ks fs (length o) in
    r.number ≡ n → (n ≡ 0 → r.stage ≡ 1) → (n ≢ 0 → r.stage ≡ g) → z ≡ message_left sixteen x ks fs o → E.FirstSays k u t m a g ks fs r o z
unfolding E.FirstSays D.plan message_refusal key_length
first_says {k} {u} {t} {m} {a} {g = g} w ks fs r o z f taken refused d =
    let p = plan_of_numbers k u t m in
    let same = by_numbers w (λ (p : Plan) (k : ℕ) (u : Use) (n : ℕ) (g : Stage). message_refusal sixteen p k u g ks fs (length o)) in
    sent_says _ _ g r o z (message_refusal_same (D.plan k u t m) a g ks fs (length o) ∙ sym same) (λ e.
    let c = then_zero _ _ (then_zero _ _ (then_zero _ _ (sym same ∙ e)).1).1 in
    let l = and_both _ _ (unless_zero _ _ c.0) in
    let long : length ks ≡ key_length p a = eqb-true _ _ l.0 in
    first_message_same (D.plan k u t m) ks fs (eqb-true _ _ (and_both _ _ l.1).0) (omega arith)
    ∙ sym (by_numbers w (λ (p : Plan) (k : ℕ) (u : Use) (n : ℕ) (g : Stage). first_message sixteen p ks fs))) f taken refused d

-- ---- the reply
part_says : (n : ℕ) {m : ℕ} (s : ℕ) {a : ℕ} (c v g : ℕ) (r : Part) → n ≡ m → (m ≡ 0 → s ≡ a) → r.number ≡ m
    → (m ≡ 0 → (r.start ≡ a) × (r.count ≡ c) × (r.stage ≡ 2 + v)) → (m ≢ 0 → (r.start ≡ 0) × (r.count ≡ 0) × (r.stage ≡ g))
    → E.PartSays n s c (2 + v) g r
unfolding E.PartSays
part_says zero s c v g r e h f taken refused =
    let t = taken (sym e) in
    (f ∙ sym e, t.0 ∙ sym (h (sym e)), t.1, t.2)
part_says (suc n) {m} s c v g r e h f taken refused =
    let t = refused (λ z. omega arith) in
    (f ∙ sym e, t.0, t.1, t.2)

-- asked for the round of the key, `own`
pub reply_says : {k u t m a own g : ℕ} {x : Client} → ClientOf k u t m a own g x → (ks : List ℕ) (v : ℕ) (r : Part)
    → let n = answer_refusal sixteen x ks v own in
    r.number ≡ n → (n ≡ 0 → (r.start ≡ reply_start (plan_of x.plan) x.user v) × (r.count ≡ m) × (r.stage ≡ 2 + v))
    → (n ≢ 0 → (r.start ≡ 0) × (r.count ≡ 0) × (r.stage ≡ g)) → E.ReplySays k u t m a g ks v r
unfolding E.ReplySays D.plan reply_refusal
reply_says {k} {u} {t} {m} {a} {own} {g} w ks v r f taken refused =
    let same = by_numbers w (λ (p : Plan) (k : ℕ) (u : Use) (n : ℕ) (g : Stage). reply_refusal sixteen p k g n ks v own) in
    part_says _ _ m v g r (part_refusal_same (D.plan k u t m) a g ks v own ∙ sym same) (λ e.
    let c = then_zero _ _ (then_zero _ _ (then_zero _ _ (then_zero _ _ (then_zero _ _ (sym same ∙ e)).1).1).1).1 in
    let i = then_zero _ _ c.1 in
    reply_start_same (D.plan k u t m) v (unless_zero _ _ c.0) a (unless_zero _ _ i.0)
    ∙ sym (by_numbers w (λ (p : Plan) (k : ℕ) (u : Use) (n : ℕ) (g : Stage). reply_start p k v))) f taken refused
