-- Where a run stands behind each turn.
--   whole_more, said_more      whole records, and then more of them
--   seven_said, begins         the line of refusal 7 is that of the whole input; what is written begins the input's lines
--   fed_so_far                 the bytes that are there are fed
--   step_so_far, sent_so_far   one turn; how far its text is written
-- Assumes nothing.
use Rattle.std.proofs.Common.{◌≡◌, refl, sym, ap, ◌∙◌, subst, true, List, [], ◌∷◌, ◌++◌, append-nil, append_assoc, ℕ, ◌+◌, zero-add, add-zero, arith, length, get_or, take, drop, take-append-drop, length-append, length-drop, get_or-drop, length-take-le, take_all, Result, Ok, Err}
use Rattle.scheme.specs.Service.{refused}
use Rattle.service.specs.declared.Service.{Service}
use Rattle.service.specs.Calls.{new_service}
use Rattle.lines.specs.Text.{line}
use Rattle.stream.specs.declared.Stop.{Stop}
use Rattle.stream.specs.declared.Stop.TheVariants.{Used, Unknown, Partial, Full, Far}
use Rattle.stream.specs.Stream.{record_length, items, lines, fed}
use Rattle.stream.specs.Promise.{all_taken, last_state, CutFree, Stops, FedSays, FedRight}
use Rattle.stream.proofs.Promise.{cut_free, fed_right}
use Rattle.stream.proofs.Records.{items_append, taken_append, state_append, lines_broken}
use Rattle.pool.specs.declared.Why.{Why}
use Rattle.pool.specs.declared.Why.TheVariants.{EndOfInput, CutShort, UnknownKind, TooFar, ReadFailed, WriteFailed}
use Rattle.pool.specs.declared.Next.{Next}
use Rattle.pool.specs.declared.Next.TheVariants.{Await, Feed, Refuse, Over}
use Rattle.pool.specs.declared.GivenUp.{GivenUp}
use Rattle.pool.specs.Turns.{Came, bytes, ended, again, failed, came_bytes, Turn, comes, fed_turn, at_end, silent, step_by, step, written_of, sent, Due, GivesUp}
use Rattle.pool.specs.Promise.{said, Unfinished, Broken, Ends, Stands, SoFar}

-- ---- whole records u, the state behind them, and what follows
abbrev behind : (u : List ℕ) → Service
behind u = last_state new_service (items 0 u)

module _ (u : List ℕ) (whole : all_taken (items 0 u) ≡ true) where
  items_more : (c : List ℕ) → items 0 (u ++ c) ≡ items 0 u ++ items (length u) c
  items_more c = items_append 0 u c whole ∙ ap (λ (o : ℕ). items 0 u ++ items o c) (zero-add (length u))

  whole_more : (c : List ℕ) → all_taken (items (length u) c) ≡ true → all_taken (items 0 (u ++ c)) ≡ true
  whole_more c h = ap all_taken (items_more c) ∙ taken_append (items 0 u) (items (length u) c) whole ∙ h

  behind_more : (c : List ℕ) → behind (u ++ c) ≡ last_state (behind u) (items (length u) c)
  behind_more c = ap (last_state new_service) (items_more c) ∙ state_append new_service (items 0 u) (items (length u) c) whole

  said_more : (c : List ℕ) → said (u ++ c) ≡ said u ++ lines (behind u) (length u) c
  unfolding CutFree
  said_more c = cut_free new_service 0 u c whole ∙ ap (λ (o : ℕ). said u ++ lines (behind u) o c) (zero-add (length u))

  pub seven_said : (y : Why) (b : List ℕ) → Broken y b → said (u ++ b) ≡ said u ++ line (length u) (refused 7)
  unfolding Broken Unfinished
  seven_said CutShort b h = said_more b ∙ ap (λ (l : List ℕ). said u ++ l) (lines_broken (behind u) (length u) b h.0 (λ ne. h.1 h.0))
  seven_said UnknownKind b h = said_more b ∙ ap (λ (l : List ℕ). said u ++ l) (lines_broken (behind u) (length u) b h.0 (λ ne. absurd (ne h.1)))
  seven_said EndOfInput b h = absurd h
  seven_said TooFar b h = absurd h
  seven_said (ReadFailed e) b h = absurd h
  seven_said (WriteFailed e) b h = absurd h

  begins_used : (b w : List ℕ) → w ≡ said u → (rest : List ℕ) × (w ++ rest ≡ said (u ++ b))
  begins_used b w e = (lines (behind u) (length u) b, ap (λ (l : List ℕ). l ++ lines (behind u) (length u) b) e ∙ sym (said_more b))

  begins_over : (y : Why) (b w : List ℕ) → Ends y u b w → (rest : List ℕ) × (w ++ rest ≡ said (u ++ b))
  unfolding Ends
  begins_over EndOfInput b w h = begins_used b w h.1
  begins_over CutShort b w h = ([], append-nil w ∙ h.1)
  begins_over UnknownKind b w h = ([], append-nil w ∙ h.1)
  begins_over TooFar b w h = begins_used b w h.1
  begins_over (ReadFailed e) b w h = begins_used b w h
  begins_over (WriteFailed e) b w h = h

  begins : (x : Next) (b w : List ℕ) → Stands x u b w → (rest : List ℕ) × (w ++ rest ≡ said (u ++ b))
  unfolding Stands
  begins Await b w h = begins_used b w h.1
  begins Feed b w h = begins_used b w h
  begins (Refuse y) b w h = begins_used b w h.1
  begins (Over y) b w h = begins_over y b w h

  -- ---- the bytes b are fed
  module _ (n : ℕ) (b : List ℕ) where
    abbrev at : ℕ
    at = (fed (behind u) b (length u) n).at

    says : FedSays (behind u) b (length u) n (fed (behind u) b (length u) n)
    unfolding FedRight
    says = fed_right (behind u) b (length u) n

    left_first : get_or (drop at b) 0 0 ≡ get_or b at 0
    left_first = get_or-drop at b 0 0 ∙ ap (λ (i : ℕ). get_or b i 0) (add-zero at)

    used_long : length (u ++ take at b) ≡ length u + at
    used_long = length-append u (take at b) ∙ ap (λ (i : ℕ). length u + i) (length-take-le at b says.inside)

    stopped : (x : Stop) → Stops x b (length u) n at (fed (behind u) b (length u) n).wrote → (w : List ℕ) → w ≡ said (u ++ take at b)
        → Stands (comes x) (u ++ take at b) (drop at b) w
    unfolding Stops Stands Broken Unfinished Ends
    stopped Used y w e = (λ h. absurd (omega (arith, length-drop at b)), e)
    stopped Unknown y w e = ((omega (arith, length-drop at b), ap record_length left_first ∙ y.1), e)
    stopped Partial y w e = (λ h. rw left_first (omega (arith, length-drop at b)), e)
    stopped Full y w e = e
    stopped Far y w e = (omega (arith, length-drop at b, used_long, says.inside), e)

    fed_so_far : (w : List ℕ) → w ≡ said u → SoFar (fed_turn n (behind u) b (length u)) (u ++ b) (w ++ (fed_turn n (behind u) b (length u)).text)
    unfolding fed_turn
    fed_so_far w e =
        record {
          used = u ++ take at b;
          same = append_assoc u (take at b) (drop at b) ∙ ap (λ (l : List ℕ). u ++ l) (take-append-drop at b);
          taken = whole_more (take at b) says.whole;
          state = says.state ∙ sym (behind_more (take at b));
          place = sym used_long;
          stands = stopped (fed (behind u) b (length u) n).stop says.why (w ++ lines (behind u) (length u) (take at b))
              (ap (λ (l : List ℕ). l ++ lines (behind u) (length u) (take at b)) e ∙ sym (said_more (take at b)));
        }

  -- ---- one turn, where the bytes b wait
  module _ (n : ℕ) (b : List ℕ) where
    rests : (x : Next) {text w : List ℕ} → Stands x u b w
        → SoFar (record { service = behind u; waiting = b; offset = length u; next = x; text = text }) (u ++ b) w
    rests x h = record { used = u; same = refl; taken = whole; state = refl; place = refl; stands = h }

    silent_rests : (x : Next) (w : List ℕ) → Stands x u b w → SoFar (silent x (behind u) b (length u)) (u ++ b) (w ++ [])
    silent_rests x w h = rests x (subst (Stands x u b) (sym (append-nil w)) h)

    nothing_read : {t : Turn} {w : List ℕ} (c : Came) → came_bytes c ≡ [] → SoFar t (u ++ b) w → SoFar t ((u ++ b) ++ came_bytes c) w
    nothing_read {t} {w} c e = subst (λ (l : List ℕ). SoFar t l w) (sym (ap (λ (l : List ℕ). (u ++ b) ++ l) e ∙ append-nil (u ++ b)))

    ends : (w : List ℕ) → Unfinished b → w ≡ said u → Stands (at_end b) u b w
    unfolding at_end Stands Ends Broken
    ends w f e = pick b f
      where
        pick : (c : List ℕ) → Unfinished c → Stands (at_end c) u c w
        pick [] g = (refl, e)
        pick (k ∷ c) g = ((omega arith, g), e)

    ends_seven : (y : Why) (w : List ℕ) → Broken y b → w ≡ said u → Ends y u b (w ++ line (length u) (refused 7))
    unfolding Ends Broken
    ends_seven CutShort w h e = (h, ap (λ (l : List ℕ). l ++ line (length u) (refused 7)) e ∙ sym (seven_said CutShort b h))
    ends_seven UnknownKind w h e = (h, ap (λ (l : List ℕ). l ++ line (length u) (refused 7)) e ∙ sym (seven_said UnknownKind b h))
    ends_seven EndOfInput w h e = absurd h
    ends_seven TooFar w h e = absurd h
    ends_seven (ReadFailed q) w h e = absurd h
    ends_seven (WriteFailed q) w h e = absurd h

    step_stands : (x : Next) (c : Came) (w : List ℕ) → Stands x u b w → Due x c
        → SoFar (step_by n x c (behind u) b (length u)) ((u ++ b) ++ came_bytes c) (w ++ (step_by n x c (behind u) b (length u)).text)
    unfolding step_by Due Stands came_bytes Ends
    step_stands Await (bytes r) w h d = rw (append_assoc u b r) (fed_so_far n (b ++ r) w h.1)
    step_stands Await ended w h d = nothing_read ended refl (silent_rests (at_end b) w (ends w h.0 h.1))
    step_stands Await again w h d = nothing_read again refl (silent_rests Await w h)
    step_stands Await (failed e) w h d = nothing_read (failed e) refl (silent_rests (Over (ReadFailed e)) w h.1)
    step_stands Feed c w h d = nothing_read c (ap came_bytes d) (fed_so_far n b w h)
    step_stands (Refuse y) c w h d = nothing_read c (ap came_bytes d) (rests (Over y) (ends_seven y w h.0 h.1))
    step_stands (Over y) c w h d = nothing_read c (ap came_bytes d) (silent_rests (Over y) w h)

module _ (n : ℕ) (t : Turn) (read w : List ℕ) (g : SoFar t read w) where
  pub step_so_far : (c : Came) → Due t.next c → SoFar (step n c t) (read ++ came_bytes c) (w ++ (step n c t).text)
  step_so_far c d =
      subst (λ (l : List ℕ). SoFar (step n c t) (l ++ came_bytes c) (w ++ (step n c t).text)) g.same
      (subst (λ (o : ℕ). SoFar (step_by n t.next c t.service t.waiting o) ((g.used ++ t.waiting) ++ came_bytes c)
      (w ++ (step_by n t.next c t.service t.waiting o).text)) (sym g.place)
      (subst (λ (s : Service). SoFar (step_by n t.next c s t.waiting (length g.used)) ((g.used ++ t.waiting) ++ came_bytes c)
      (w ++ (step_by n t.next c s t.waiting (length g.used)).text)) (sym g.state)
      (step_stands g.used g.taken n t.waiting t.next c w g.stands d)))

pub sent_so_far : (t : Turn) (read w : List ℕ) (p : Result Unit GivenUp) → SoFar t read (w ++ t.text) → GivesUp (length t.text) p
    → SoFar (sent p t) read (w ++ take (written_of (length t.text) p) t.text)
unfolding sent Stands Ends
sent_so_far t read w (Ok u) g h = subst (λ (l : List ℕ). SoFar t read (w ++ l)) (sym (take_all (length t.text) t.text (omega arith))) g
sent_so_far t read w (Err q) g h =
    let a = begins g.used g.taken t.next t.waiting (w ++ t.text) g.stands in
    record {
      used = g.used;
      same = g.same;
      taken = g.taken;
      state = g.state;
      place = g.place;
      stands = (
        drop q.at t.text ++ a.0,
        sym (append_assoc (w ++ take q.at t.text) (drop q.at t.text) a.0) ∙ ap (λ (l : List ℕ). l ++ a.0)
            (append_assoc w (take q.at t.text) (drop q.at t.text) ∙ ap (λ (l : List ℕ). w ++ l) (take-append-drop q.at t.text)) ∙ a.1,
      );
    }
