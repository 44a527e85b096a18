-- Document 03's specs/Entry.antt, word for word but for message_refusal, where document 02's item 2 puts 32 after 3.
-- It knows no round: what it says of replies is said of those asked for the round of the key, which are never refused by 33.
-- What the key maker, the first message and the reply answer and leave behind. Assumes nothing: these are definitions.
use Rattle.std.specs.Prelude.{◌≡◌, ◌&&◌, ◌||◌, not, cond, List, ℕ, zero, suc, ◌+◌, ltb, eqb, length}
use Rattle.document03.specs.Scheme.{Plan, plan, plan_good, places, in_set, usable, list_long, key, key_long, first_message, reply_start}
use Rattle.document03.specs.Service.{elements_good}
use Rattle.document03.specs.Counts.{figures_good}
use Rattle.document03.specs.declared.Part.{Part}
use Rattle.document03.specs.declared.Sent.{Sent}

-- key maker: 1, 4, 2, 3
unfoldable pub key_refusal : Plan → (k : ℕ) → (list : List ℕ) → (out : ℕ) → ℕ
key_refusal p k xs o =
    cond (not (plan_good p)) 1
    (cond (eqb k 0 || ltb p.k k) 4
    (cond (not (eqb (length xs) (list_long p) && eqb o (key_long p k))) 2 (cond (elements_good xs) 0 3)))

unfoldable pub PutSays : (refusal : ℕ) → (words : List ℕ) → (r : ℕ) → (out out-now : List ℕ) → Type 0
PutSays zero ws r o z = (r ≡ 0) × (z ≡ ws)
PutSays (suc n) ws r o z = (r ≡ suc n) × (z ≡ o)

unfoldable pub KeySays : (k u t m airfield : ℕ) → (list : List ℕ) → (r : ℕ) → (out out-now : List ℕ) → Type 0
KeySays k u t m a xs r o z = PutSays (key_refusal (plan k u t m) a xs (length o)) (key (plan k u t m) xs a) r o z

-- an end's stage: 0 fresh, 1 sent, else 2 and the set answered
unfoldable pub start_refusal : Plan → (k : ℕ) → ℕ
start_refusal p k = cond (not (plan_good p)) 1 (cond (eqb k 0 || ltb p.k k) 4 0)

-- first message, of an end of a plan: 18, 2, 3, 32
unfoldable pub message_refusal : Plan → (k stage : ℕ) → (key figures : List ℕ) → (out : ℕ) → ℕ
message_refusal p k g ks fs o =
    cond (not (eqb (start_refusal p k) 0)) (start_refusal p k)
    (cond (not (eqb g 0)) 18
    (cond (not (eqb (length ks) (key_long p k) && (eqb (length fs) (places p) && eqb o (places p)))) 2
    (cond (not (elements_good ks && elements_good fs)) 3 (cond (figures_good p fs) 0 32))))

-- a sent message leaves the end at stage 1, a refused one where it was
unfoldable pub SentSays : (refusal : ℕ) → (words : List ℕ) → (stage : ℕ) → Sent → (out out-now : List ℕ) → Type 0
SentSays zero ws g r o z = (r.number ≡ 0) × (r.stage ≡ 1) × (z ≡ ws)
SentSays (suc n) ws g r o z = (r.number ≡ suc n) × (r.stage ≡ g) × (z ≡ o)

unfoldable pub FirstSays : (k u t m airfield stage : ℕ) → (key figures : List ℕ) → Sent → (out out-now : List ℕ) → Type 0
FirstSays k u t m a g ks fs r o z =
    SentSays (message_refusal (plan k u t m) a g ks fs (length o)) (first_message (plan k u t m) ks fs) g r o z

-- reply: 18, 2, 3, 5, 6, 19; the part of the key, and the next stage
unfoldable pub part_refusal : Plan → (k stage : ℕ) → (key : List ℕ) → (set : ℕ) → ℕ
part_refusal p k g ks v =
    cond (not (eqb (start_refusal p k) 0)) (start_refusal p k)
    (cond (eqb g 0) 18
    (cond (not (eqb (length ks) (key_long p k))) 2
    (cond (not (elements_good ks)) 3
    (cond (not (usable p v)) 5 (cond (not (in_set v k)) 6 (cond (eqb g 1 || eqb g (2 + v)) 0 19))))))

unfoldable pub PartSays : (refusal : ℕ) → (start count stage : ℕ) → (stage-before : ℕ) → Part → Type 0
PartSays zero s c g b r = (r.number ≡ 0) × (r.start ≡ s) × (r.count ≡ c) × (r.stage ≡ g)
PartSays (suc n) s c g b r = (r.number ≡ suc n) × (r.start ≡ 0) × (r.count ≡ 0) × (r.stage ≡ b)

unfoldable pub ReplySays : (k u t m airfield stage : ℕ) → (key : List ℕ) → (set : ℕ) → Part → Type 0
ReplySays k u t m a g ks v r =
    PartSays (part_refusal (plan k u t m) a g ks v) (reply_start (plan k u t m) a v) m (2 + v) g r
