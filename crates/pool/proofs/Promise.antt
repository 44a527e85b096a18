-- That what the program writes are the lines of what it reads, however the input is cut into reads.
--   run_right              every run stands as specs/Promise.antt says
--   output_right           a run that no failure ended has written the lines of all that it read
--   repeats_quiet          of an input with repeats added, at its own offsets
--   Sure, cost, forward    no failure, and no read behind the end of the input; the turns that are left at most, and that each turn has fewer
--   over_said              a run that is over has said all
--   reads_right            what is printed over any reads are the lines of the whole input
-- Assumes nothing.
use Rattle.std.proofs.Common.{◌≡◌, refl, sym, ap, ap₂, ◌∙◌, subst, true, List, [], ◌∷◌, ◌++◌, append-nil, append_assoc, ℕ, zero, suc, ◌+◌, ◌-◌, ◌^◌, ◌≤◌, ◌<◌, arith, lit<, length, take, drop, length-append, length-drop}
use native.Mathlib.Decide.{dec_le}
use lib.ListN.{get_or-append}
use Rattle.scheme.specs.Scheme.{sixteen}
use Rattle.scheme.proofs.Tests.{holds}
use Rattle.service.specs.declared.Service.{Service}
use Rattle.service.specs.Calls.{new_service}
use Rattle.service.specs.Promise.{NewFormed}
use Rattle.service.proofs.Steps.{new_formed}
use Rattle.lines.specs.Put.{room}
use Rattle.stream.specs.declared.Stop.{Stop}
use Rattle.stream.specs.declared.Stop.TheVariants.{Used, Unknown, Partial, Full, Far}
use Rattle.stream.specs.Stream.{record_length, items_from, items, answers, text, lines, fed}
use Rattle.stream.specs.Promise.{all_taken, last_state, Stops, FedSays, FedRight}
use Rattle.stream.specs.Repeats as stream
use Rattle.stream.proofs.Promise.{fed_right}
use Rattle.stream.proofs.Repeats as quiet
use Rattle.pool.specs.declared.Why.{Why}
use Rattle.pool.specs.declared.Why.TheVariants.{EndOfInput, CutShort, UnknownKind, TooFar, ReadFailed, WriteFailed}
use Rattle.pool.specs.declared.Next.{Next}
use Rattle.pool.specs.declared.Next.TheVariants.{Await, Feed, Refuse, Over}
use Rattle.pool.specs.Turns.{Came, came_bytes, Turn, first_turn, comes, fed_turn, at_end, step_by, step, Due, none, more}
use Rattle.pool.specs.declared.Live.{Live}
use Rattle.pool.specs.Turns.{next_came, left_reads, printed_from, whole, printed}
use Rattle.pool.specs.Promise.{said, Unfinished, Broken, Ends, Stands, SoFar, RunRight, by_itself, OutputRight, RepeatsQuiet, ReadsRight}
use Rattle.pool.proofs.Standing.{seven_said, step_so_far, sent_so_far}

start : SoFar first_turn [] []
unfolding all_taken last_state lines items items_from answers text Stands Unfinished
start = record { used = []; same = refl; taken = refl; state = refl; place = refl; stands = (λ h. absurd (omega arith), refl) }

pub run_right : RunRight
unfolding RunRight
run_right n k read w t big none = start
run_right n k read w t big (more j c v u a i h d l) = sent_so_far (step n a u) (c ++ came_bytes a) v i (step_so_far n u c v (run_right n j c v u big h) a d) l

-- ---- what `run` ensures
ends_said : (y : Why) (u b w : List ℕ) → Ends y u b w → by_itself y ≡ true → w ≡ said (u ++ b)
unfolding Ends by_itself
ends_said EndOfInput u b w h e = h.1 ∙ sym (ap said (ap (λ (c : List ℕ). u ++ c) h.0 ∙ append-nil u))
ends_said CutShort u b w h e = h.1
ends_said UnknownKind u b w h e = h.1
ends_said TooFar u b w h e = absurd (holds e)
ends_said (ReadFailed q) u b w h e = absurd (holds e)
ends_said (WriteFailed q) u b w h e = absurd (holds e)

pub output_right : OutputRight
unfolding OutputRight RunRight Stands
output_right n r y big g e h =
    let f = run_right n g.count g.read g.written g.turn big g.turns in
    let x : g.turn.next ≡ Over y = sym (ap (λ (l : Live). l.next) g.result) ∙ e in
    ends_said y f.used g.turn.waiting g.written (subst (λ (z : Next). Stands z f.used g.turn.waiting g.written) x f.stands) h
    ∙ ap said f.same

pub repeats_quiet : RepeatsQuiet
unfolding RepeatsQuiet OutputRight stream.RepeatsQuiet NewFormed
repeats_quiet n r y b m big g e h p =
    output_right n r y big g e h ∙ (quiet.repeats_quiet new_service 0 b 0 g.read m (new_formed sixteen (lit< tt)).1 p).printed

-- ---- a list of reads
unfoldable SureWhy : Why → (reads : List (List ℕ)) → Type 0
SureWhy EndOfInput l = whole l ≡ []
SureWhy CutShort l = whole l ≡ []
SureWhy UnknownKind l = Unit {0}
SureWhy TooFar l = Unit {0}
SureWhy (ReadFailed q) l = ⊥
SureWhy (WriteFailed q) l = ⊥

unfoldable Sure : Next → (reads : List (List ℕ)) → Type 0
Sure Await l = Unit {0}
Sure Feed l = Unit {0}
Sure (Refuse y) l = SureWhy y l
Sure (Over y) l = SureWhy y l

-- the turns that are left at most, where there are k bytes and reads
unfoldable cost : Next → (k : ℕ) → ℕ
cost Await k = k + 2
cost Feed k = k + 3
cost (Refuse y) k = 1
cost (Over y) k = 0

abbrev size : (b : List ℕ) (reads : List (List ℕ)) → ℕ
size b l = length b + length (whole l) + length l

reads_due : (x : Next) (l : List (List ℕ)) → Due x (next_came x l)
unfolding Due next_came
reads_due Await l = tt
reads_due Feed l = refl
reads_due (Refuse y) l = refl
reads_due (Over y) l = refl

reads_whole : (x : Next) (l : List (List ℕ)) → came_bytes (next_came x l) ++ whole (left_reads x l) ≡ whole l
unfolding next_came left_reads came_bytes whole
reads_whole Await [] = refl
reads_whole Await (r ∷ l) = refl
reads_whole Feed l = refl
reads_whole (Refuse y) l = refl
reads_whole (Over y) l = refl

-- ---- each turn leaves fewer
module _ (n : ℕ) (big : room ≤ n) (s : Service) (b : List ℕ) (o : ℕ) where
  says : FedSays s b o n (fed s b o n)
  unfolding FedRight
  says = fed_right s b o n

  -- where no line fits any more some record was taken
  some : n - (fed s b o n).wrote < room → 0 < (fed s b o n).at
  unfolding lines items items_from answers text
  some h = pick (dec_le 1 (fed s b o n).at)
    where
      pick : Dec (1 ≤ (fed s b o n).at) → 0 < (fed s b o n).at
      pick (yes l) = omega arith
      pick (no l) =
          let z : (fed s b o n).at ≡ 0 = omega arith in
          let w : (fed s b o n).wrote ≡ 0 = says.written ∙ ap (λ (i : ℕ). length (lines s o (take i b))) z in
          absurd (omega arith)

  fed_forward : (l : List (List ℕ)) (m : ℕ) → size b l + 2 ≤ m
      → Sure (fed_turn n s b o).next l × (cost (fed_turn n s b o).next (size (fed_turn n s b o).waiting l) ≤ m)
  unfolding fed_turn Stops Sure SureWhy cost
  fed_forward l m h = go (fed s b o n).stop says.why
    where
      go : (x : Stop) → Stops x b o n (fed s b o n).at (fed s b o n).wrote → Sure (comes x) l × (cost (comes x) (size (drop (fed s b o n).at b) l) ≤ m)
      go Used y = (tt, omega (arith, length-drop (fed s b o n).at b))
      go Unknown y = (tt, omega arith)
      go Partial y = (tt, omega (arith, length-drop (fed s b o n).at b))
      go Full y = (tt, omega (arith, length-drop (fed s b o n).at b, some y.1, says.inside))
      go Far y = (tt, omega arith)

end_forward : (b : List ℕ) (m : ℕ) → 2 ≤ m + 1 → Sure (at_end b) [] × (cost (at_end b) (size b []) ≤ m)
unfolding at_end Sure SureWhy cost whole
end_forward [] m h = (refl, omega arith)
end_forward (k ∷ b) m h = (refl, omega arith)

forward : (n : ℕ) → room ≤ n → (x : Next) (s : Service) (b : List ℕ) (o : ℕ) (l : List (List ℕ)) (m : ℕ) → Sure x l → cost x (size b l) ≤ suc m
    → Sure (step_by n x (next_came x l) s b o).next (left_reads x l)
    × (cost (step_by n x (next_came x l) s b o).next (size (step_by n x (next_came x l) s b o).waiting (left_reads x l)) ≤ m)
unfolding step_by next_came left_reads Sure cost whole
forward n big Await s b o [] m h l = end_forward b m (omega arith)
forward n big Await s b o (r ∷ q) m h l = fed_forward n big s (b ++ r) o q m (omega (arith, length-append b r, length-append r (whole q)))
forward n big Feed s b o q m h l = fed_forward n big s b o q m (omega arith)
forward n big (Refuse y) s b o q m h l = (h, omega arith)
forward n big (Over y) s b o q m h l = (h, omega arith)

-- ---- all is said
module _ (u b w : List ℕ) (l : List (List ℕ)) (taken : all_taken (items 0 u) ≡ true) (near : length u + length b < 2 ^ 64) where
  unknown_more : Broken UnknownKind b → Broken UnknownKind (b ++ whole l)
  unfolding Broken
  unknown_more h = (omega (arith, length-append b (whole l)), ap record_length (get_or-append b (whole l) 0 0 h.0) ∙ h.1)

  over_said : (y : Why) → Ends y u b w → SureWhy y l → w ≡ said ((u ++ b) ++ whole l)
  unfolding Ends SureWhy
  over_said EndOfInput h e = h.1 ∙ sym (ap said (ap₂ (λ (c d : List ℕ). (u ++ c) ++ d) h.0 e ∙ append-nil (u ++ []) ∙ append-nil u))
  over_said CutShort h e = h.1 ∙ sym (ap said (ap (λ (d : List ℕ). (u ++ b) ++ d) e ∙ append-nil (u ++ b)))
  over_said UnknownKind h e =
      h.1 ∙ seven_said u taken UnknownKind b h.0
      ∙ sym (ap said (append_assoc u b (whole l)) ∙ seven_said u taken UnknownKind (b ++ whole l) (unknown_more h.0))
  over_said TooFar h e = absurd (omega arith)
  over_said (ReadFailed q) h e = absurd e
  over_said (WriteFailed q) h e = absurd e

  last_said : (x : Next) (k : ℕ) → Stands x u b w → Sure x l → cost x k ≤ 0 → w ≡ said ((u ++ b) ++ whole l)
  unfolding Stands Sure cost
  last_said Await k h e c = absurd (omega arith)
  last_said Feed k h e c = absurd (omega arith)
  last_said (Refuse y) k h e c = absurd (omega arith)
  last_said (Over y) k h e c = over_said y h e

module _ (n : ℕ) (big : room ≤ n) where
  reads_from : (m : ℕ) (t : Turn) (l : List (List ℕ)) (read w : List ℕ) → SoFar t read w → Sure t.next l → length read + length (whole l) < 2 ^ 64
      → cost t.next (size t.waiting l) ≤ m → w ++ printed_from n m t l ≡ said (read ++ whole l)
  unfolding printed_from
  reads_from zero t l read w g h near e =
      let a : length g.used + length t.waiting < 2 ^ 64 = omega (arith, near, ap length g.same, length-append g.used t.waiting) in
      append-nil w ∙ last_said g.used t.waiting w l g.taken a t.next (size t.waiting l) g.stands h e
      ∙ ap (λ (c : List ℕ). said (c ++ whole l)) g.same
  reads_from (suc m) t l read w g h near e =
      let c : Came = next_came t.next l in
      let q : List (List ℕ) = left_reads t.next l in
      let f = forward n big t.next t.service t.waiting t.offset l m h e in
      let a : length (read ++ came_bytes c) + length (whole q) < 2 ^ 64 =
      omega (arith, near, length-append read (came_bytes c), length-append (came_bytes c) (whole q), ap length (reads_whole t.next l)) in
      sym (append_assoc w (step n c t).text (printed_from n m (step n c t) q))
      ∙ reads_from m (step n c t) q (read ++ came_bytes c) (w ++ (step n c t).text) (step_so_far n t read w g c (reads_due t.next l)) f.0 a f.1
      ∙ ap said (append_assoc read (came_bytes c) (whole q) ∙ ap (λ (d : List ℕ). read ++ d) (reads_whole t.next l))

pub reads_right : ReadsRight
unfolding ReadsRight printed Sure cost
reads_right n l big near = reads_from n big (length (whole l) + length l + 2) first_turn l [] [] start tt (omega arith) (omega arith)
