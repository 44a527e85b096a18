-- Demand 2 from end to end on lent memory: what the exported calls of the airfields give, put in by the exported calls of the service,
-- finishes as the survivors' total.
--   EachTaken         a fact of each call of a list that is taken where it comes, refused ones left out
--   FirstOf, ReplyOf the records that carry an element of a user carry those of its first message, of its part
--   opened_by, arrays_behind    the arrays behind any calls and an open, and behind the round's calls too
--   replied_in         the users whose replies arrays hold whole
--   SentIn            what is taken of the survivors' first messages, and of the replies of a set of users, is what their calls gave
--   Room               a user's lent buffers have the plan's lengths
--   Pooled             such a round: arrays from zeros, any calls and rounds before; between, any other calls, and refused ones of survivors
--                      too: another element (13), late (12), out of place (8), no elements (3)
--   ButOne            such a round but for the reply of one user, among at least U + 2 whole ones
--   named_in           the user to name: that one if its reply is not the right one, and 0 if it is
--   signed_totals      what cutawheno_read_total reads of the totals that finish leaves in the lent buffer, as those of signed figures
--   RoundResidues     the total modulo 65521, the survivors' uses in any mix
--   RoundRight        where the survivors report counts: the whole-number total
--   SignedTotal       where they report signed figures: what is read is the whole-number total
--   AsideResidues, AsideRight, AsideSigned    the same where one reply may be false: its user is set aside exactly if it is
-- Assumes nothing: these are definitions.
use Rattle.std.specs.Prelude.{◌≡◌, ◌≢◌, true, List, [], ◌∷◌, map, ℕ, suc, ◌+◌, ◌≤◌, length, get_or, take}
use Rattle.scheme.specs.Limits.{most_places}
use Rattle.scheme.specs.Lists.{span, filled}
use Rattle.scheme.specs.Scheme.{sixteen, places, counts, in_set, ones, total_at, whole_total}
use Rattle.scheme.specs.Promise.{Table, admissible, list_good}
use Rattle.scheme.specs.Signed.{Changes, changes_good, residues, change_total}
use Rattle.scheme.specs.Totals.{TotalsFit}
use Rattle.scheme.specs.Aside.{without, named}
use Rattle.scheme.specs.Service.{Record, plan_record, open_record, first_record, close_record, reply_record, finish_record, replied, values}
use Rattle.plan.specs.declared.Plan.{Plan}
use Rattle.plan.specs.Plan.{plan_of, use_of, code_use}
use Rattle.client.specs.History.{Handed, plainly, message_in, part_in}
use Rattle.client.specs.Shown.{KeyRoom}
use Rattle.service.specs.View.{view}
use Rattle.capi.specs.Lent.{Arrays, zeros, state, finish_totals}
use Rattle.capi.specs.declared.meaning.CutawhenoReading.{CutawhenoReading}
use Rattle.capi.specs.Meaning.{total_read}
use Rattle.exported.specs.Runs.{Call, open_call, finish_call, record_of, plan_in, finish_hands, number_of, leaves, run}
use Rattle.exported.specs.Shown.{Lent, calls}

unfoldable pub EachTaken : (Record → Type 0) → List Call → Arrays → Type 0
EachTaken P [] a = Unit {0}
EachTaken P (c ∷ cs) a = (number_of c a ≡ 0 → P (record_of c)) × EachTaken P cs (leaves c a)

unfoldable pub FirstOf : (k : ℕ) → (message : List ℕ) → Record → Type 0
FirstOf k m (first_record l i x) = l ≡ k → x ≡ get_or m i 0
FirstOf k m (plan_record p) = Unit {0}
FirstOf k m (open_record r) = Unit {0}
FirstOf k m close_record = Unit {0}
FirstOf k m (reply_record l b x) = Unit {0}
FirstOf k m finish_record = Unit {0}

unfoldable pub ReplyOf : (k : ℕ) → (part : List ℕ) → Record → Type 0
ReplyOf k s (reply_record l b x) = l ≡ k → x ≡ get_or s b 0
ReplyOf k s (plan_record p) = Unit {0}
ReplyOf k s (open_record r) = Unit {0}
ReplyOf k s (first_record l i x) = Unit {0}
ReplyOf k s close_record = Unit {0}
ReplyOf k s finish_record = Unit {0}

-- the arrays that the open leaves behind any calls on zeros, and that the round's calls leave
abbrev pub opened_by : (before : List Call) → (r : ℕ) → Arrays
opened_by before r = leaves (open_call r) (run before zeros)

abbrev pub arrays_behind : (before : List Call) → (r : ℕ) → (round : List Call) → Arrays
arrays_behind before r round = run round (opened_by before r)

abbrev pub replied_in : Arrays → ℕ
replied_in a = replied (view (state a))

-- of the calls since an open, and the arrays that the open left: all survivors' first messages, and the replies of the users heard
pub record SentIn (round : List Call) (opened : Arrays) (heard : ℕ) (given : (k : ℕ) → Handed) : Type 0 where
  pub first : let a = run round opened in (k : ℕ) → 1 ≤ k → k ≤ (plan_in a).users → in_set (state a).head.survivors k ≡ true →
      EachTaken (FirstOf k (message_in (given k))) round opened
  pub answer : (k : ℕ) → 1 ≤ k → k ≤ (plan_in (run round opened)).users → in_set heard k ≡ true →
      EachTaken (ReplyOf k (part_in (given k))) round opened

-- lent buffers of the plan's lengths
abbrev pub Room : Plan → (k : ℕ) → Lent → (buffer : List ℕ) → Type 0
Room p k l o = KeyRoom p k l.key_buffer × (length o ≡ places (plan_of p))

-- a round that any calls open on arrays from zeros: what the exported calls of the airfields give for one random list and one table, each
-- survivor by its own use, all ends started with one round and asked for that, is put in, first messages and the replies of the users
-- heard, and finish is not refused by 11, 12 or 15
pub record Pooled (before round : List Call) (r own heard : ℕ) (is_signed : (k : ℕ) → ℕ) (xs : List ℕ) (x : Table) (lent : (k : ℕ) → Lent)
    (buffer : (k : ℕ) → List ℕ) (o : List ℕ) : Type 0 where
  pub opens : number_of (open_call r) (run before zeros) ≡ 0
  pub planned : number_of (finish_call o) (arrays_behind before r round) ≢ 11
  pub replying : number_of (finish_call o) (arrays_behind before r round) ≢ 12
  pub enough : number_of (finish_call o) (arrays_behind before r round) ≢ 15
  pub list : list_good sixteen (plan_of (plan_in (arrays_behind before r round))) xs ≡ true
  pub room : let p = plan_in (arrays_behind before r round) in (k : ℕ) → 1 ≤ k → k ≤ p.users → Room p k (lent k) (buffer k)
  pub sent : let a = arrays_behind before r round in
      SentIn round (opened_by before r) heard (λ k.
      calls (plan_in a) (is_signed k) own xs (x k) k (lent k) (plainly (state a).head.survivors own (buffer k)))

-- the reply of z may be anything; its first message is what its calls gave, as those of all survivors are
pub record ButOne (before round : List Call) (r own z : ℕ) (is_signed : (k : ℕ) → ℕ) (xs : List ℕ) (x : Table) (lent : (k : ℕ) → Lent)
    (buffer : (k : ℕ) → List ℕ) (o : List ℕ) : Type 0 where
  pub low : 1 ≤ z
  pub high : z ≤ (plan_in (arrays_behind before r round)).users
  pub inside : in_set (replied_in (arrays_behind before r round)) z ≡ true
  pub many : let a = arrays_behind before r round in (plan_in a).threshold + 2 ≤ ones (plan_in a).users (replied_in a)
  pub pooled : Pooled before round r own (without (replied_in (arrays_behind before r round)) z) is_signed xs x lent buffer o

abbrev pub named_in : Arrays → (list : List ℕ) → (z : ℕ) → ℕ
named_in a xs z = named sixteen (plan_of (plan_in a)) xs (state a).head.survivors z (values (view (state a)).replies z)

-- whatever number above 0 stands for signed
abbrev pub signed_totals : (m : ℕ) → Arrays → (o : List ℕ) → List CutawhenoReading
signed_totals m a o = map (total_read (suc m)) (take (places (plan_of (plan_in a))) (finish_totals a o))

-- ---- all whole replies are what the calls gave
-- it answers 0, sets no user aside, and leaves in the lent buffer the sums of the survivors' figures modulo 65521, place by place, and 0
-- behind them
unfoldable pub RoundResidues : Type 0
RoundResidues =
    (before round : List Call) (r own : ℕ) (is_signed : (k : ℕ) → ℕ) (xs : List ℕ) (x : Table) (lent : (k : ℕ) → Lent)
    (buffer : (k : ℕ) → List ℕ) (o : List ℕ) →
    let a = arrays_behind before r round in
    let p = plan_of (plan_in a) in
    let v = (state a).head.survivors in
    Pooled before round r own (replied_in a) is_signed xs x lent buffer o → admissible sixteen p (in_set v) (λ k. use_of (code_use (is_signed k))) x →
    (finish_hands a ≡ record { number = 0; aside = 0 }) × (finish_totals a o ≡ filled most_places (places p) (total_at sixteen p x v))

-- the whole-number sums, each at most 65520
unfoldable pub RoundRight : Type 0
RoundRight =
    (before round : List Call) (r own : ℕ) (xs : List ℕ) (x : Table) (lent : (k : ℕ) → Lent)
    (buffer : (k : ℕ) → List ℕ) (o : List ℕ) →
    let a = arrays_behind before r round in
    let p = plan_of (plan_in a) in
    let v = (state a).head.survivors in
    Pooled before round r own (replied_in a) (λ k. 0) xs x lent buffer o → admissible sixteen p (in_set v) (λ k. counts) x →
    (finish_hands a ≡ record { number = 0; aside = 0 }) × (finish_totals a o ≡ filled most_places (places p) (whole_total p x v))
    × TotalsFit sixteen p x v

-- whatever numbers above 0 stand for signed: the whole-number sums of the survivors' signed figures, place by place
unfoldable pub SignedTotal : Type 0
SignedTotal =
    (before round : List Call) (r own : ℕ) (n : (k : ℕ) → ℕ) (m : ℕ) (xs : List ℕ) (c : Changes) (lent : (k : ℕ) → Lent)
    (buffer : (k : ℕ) → List ℕ) (o : List ℕ) →
    let a = arrays_behind before r round in
    let p = plan_of (plan_in a) in
    let v = (state a).head.survivors in
    Pooled before round r own (replied_in a) (λ k. suc (n k)) xs (residues sixteen c) lent buffer o → changes_good sixteen p (in_set v) c →
    (finish_hands a ≡ record { number = 0; aside = 0 })
    × (signed_totals m a o ≡ map (λ i. record { number = 0; value = change_total p c v i }) (span (places p) 0))

-- ---- all whole replies but that of z are what the calls gave: the same totals, and z is set aside exactly if its reply is not the right one
unfoldable pub AsideResidues : Type 0
AsideResidues =
    (before round : List Call) (r own z : ℕ) (is_signed : (k : ℕ) → ℕ) (xs : List ℕ) (x : Table) (lent : (k : ℕ) → Lent)
    (buffer : (k : ℕ) → List ℕ) (o : List ℕ) →
    let a = arrays_behind before r round in
    let p = plan_of (plan_in a) in
    let v = (state a).head.survivors in
    ButOne before round r own z is_signed xs x lent buffer o → admissible sixteen p (in_set v) (λ k. use_of (code_use (is_signed k))) x →
    (finish_hands a ≡ record { number = 0; aside = named_in a xs z })
    × (finish_totals a o ≡ filled most_places (places p) (total_at sixteen p x v))

unfoldable pub AsideRight : Type 0
AsideRight =
    (before round : List Call) (r own z : ℕ) (xs : List ℕ) (x : Table) (lent : (k : ℕ) → Lent)
    (buffer : (k : ℕ) → List ℕ) (o : List ℕ) →
    let a = arrays_behind before r round in
    let p = plan_of (plan_in a) in
    let v = (state a).head.survivors in
    ButOne before round r own z (λ k. 0) xs x lent buffer o → admissible sixteen p (in_set v) (λ k. counts) x →
    (finish_hands a ≡ record { number = 0; aside = named_in a xs z })
    × (finish_totals a o ≡ filled most_places (places p) (whole_total p x v)) × TotalsFit sixteen p x v

unfoldable pub AsideSigned : Type 0
AsideSigned =
    (before round : List Call) (r own z : ℕ) (n : (k : ℕ) → ℕ) (m : ℕ) (xs : List ℕ) (c : Changes) (lent : (k : ℕ) → Lent)
    (buffer : (k : ℕ) → List ℕ) (o : List ℕ) →
    let a = arrays_behind before r round in
    let p = plan_of (plan_in a) in
    let v = (state a).head.survivors in
    ButOne before round r own z (λ k. suc (n k)) xs (residues sixteen c) lent buffer o → changes_good sixteen p (in_set v) c →
    (finish_hands a ≡ record { number = 0; aside = named_in a xs z })
    × (signed_totals m a o ≡ map (λ i. record { number = 0; value = change_total p c v i }) (span (places p) 0))
