-- The turns of a run.
--   writes_from_inside, written_more           one write, and one more of many
--   failed_write                               a text that is given up behind one that failed
--   sent_same, turned, turn_moved              one turn, and the bytes that went through it
--   Made, made_start, made_next, made_end      so many turns from the start on
--   MadeMoved, moved_start, moved_more, moved_end     and the bytes that went through them
--   made_sound                                 there is room for the next
-- Assumes nothing.
use Rattle.std.proofs.Common.{◌≡◌, refl, sym, ap, ap₂, ◌∙◌, subst, Bool, true, false, cond, List, [], ◌++◌, ℕ, zero, suc, ◌+◌, ◌-◌, ◌≤◌, ◌<◌, arith, eqb, length, get_or, take, length-take, length-take-le, Result, Ok, Err, inl}
use native.Mathlib.Decide.{dec_le}
use lib.Seq.{sets}
use Rattle.std.specs.declared.option.Option.{Option}
use Rattle.std.proofs.KnownBytes.{Consumes-nil, Consumes-trans, Appends-nil, Appends-trans}
use Rattle.std.specs.Io.KnownBytes.{Consumes, Appends}
use Rattle.std.specs.declared.io.Error.{Error}
use Rattle.service.specs.declared.Service.{Service}
use Rattle.service.specs.Calls.{new_service}
use Rattle.lines.specs.Put.{room}
use Rattle.stream.specs.Stream.{record_length}
use Rattle.pool.specs.declared.Read.{Read}
use Rattle.pool.specs.declared.Why.TheVariants.{WriteFailed}
use Rattle.pool.specs.declared.Next.{Next}
use Rattle.pool.specs.declared.Next.TheVariants.{Await, Feed, Refuse, Over}
use Rattle.pool.specs.declared.Live.{Live}
use Rattle.pool.specs.declared.GivenUp.{GivenUp}
use Rattle.pool.specs.Turns.{Came, Turn, first_turn, step_by, step, written_of, sent, came_bytes, Due, GivesUp, Turns, none, more}
use Rattle.pool.specs.Pool.{live_of, Leaves, brought, Untouched, Fills, stepped, Moves, interrupted, WriteAs, WritesFrom, most_turns, Written, goes_on, Writes, sent_live, longest, Sound, Turned, TurnMoved, is_over, Ran, RunMoved}
use Rattle.pool.specs.Promise.{Unfinished, Stands, SoFar, RunRight}
use Rattle.pool.proofs.Promise.{run_right}
use Rattle.pool.proofs.Leaving.{front_sets, wrote_inside}

-- ---- one write, and many
pub writes_from_inside : {at n j : ℕ} → WritesFrom at n (Ok j) → (at ≤ j) × (j ≤ n)
writes_from_inside {at} {n} {j} g = pick g.put g.moved g.result
  where
    pick : (q : Result ℕ Error) → Moves (n - at) q → WriteAs at q (Ok j) → (at ≤ j) × (j ≤ n)
    pick (Ok zero) m e = absurd e
    pick (Ok (suc k)) m e = let z : j ≡ at + suc k = cc in (omega arith, omega (arith, g.inside))
    pick (Err q) m e = other (interrupted q) e
      where
        other : (y : Bool) → ◌≡◌ {A = Result ℕ GivenUp} (Ok j) (cond y (Ok at) (Err (record { at = at; error = q }))) → (at ≤ j) × (j ≤ n)
        other true x = let z : j ≡ at = cc in (omega arith, omega (arith, g.inside))
        other false x = let z : ◌≡◌ {A = ℕ} 0 1 = cc in absurd (omega arith)

pub written_more : {n k m i j : ℕ} → Written n k i → WritesFrom i n (Ok j) → k + 1 ≡ m → Written n m j
written_more {n} {j = j} h g e = subst (λ (m : ℕ). Written n m j) e (goes_on _ _ j h g)

-- one that failed left the text where it was
stays : {at n : ℕ} {g : GivenUp} → WritesFrom at n (Err g) → g.at ≡ at
stays {at} {n} {g} w = pick w.put w.result
  where
    pick : (q : Result ℕ Error) → WriteAs at q (Err g) → g.at ≡ at
    pick (Ok zero) e = e.0
    pick (Ok (suc k)) e = let z : ◌≡◌ {A = ℕ} 0 1 = cc in absurd (omega arith)
    pick (Err q) e = other (interrupted q) e
      where
        other : (y : Bool) → ◌≡◌ {A = Result ℕ GivenUp} (Err g) (cond y (Ok at) (Err (record { at = at; error = q }))) → g.at ≡ at
        other true x = let z : ◌≡◌ {A = ℕ} 0 1 = cc in absurd (omega arith)
        other false x = let z : ◌≡◌ {A = GivenUp} g (record { at = at; error = q }) = cc in ap (λ (h : GivenUp). h.at) z

pub failed_write : {n k i : ℕ} {g : GivenUp} → Written n k i → WritesFrom i n (Err g) → i < n → Writes n (Err g)
failed_write {n} {k} {i} {g} h w l =
    let e : g.at ≡ i = stays w in
    record { count = k; written = subst (λ (j : ℕ). Written n k j) (sym e) h; fewer = omega arith; last = inl (subst (λ (j : ℕ). WritesFrom j n (Err g)) (sym e) w) }

-- ---- one turn
sent_same : (t : Turn) (p : Result Unit GivenUp) → GivesUp (length t.text) p → sent_live (live_of t) p ≡ live_of (sent p t)
unfolding sent_live sent
sent_same t (Ok u) h = refl
sent_same t (Err g) h =
    ap (λ (i : ℕ). record { service = t.service; have = length t.waiting; offset = t.offset; next = Over (WriteFailed g.error); wrote = i })
    (sym (length-take-le g.at t.text (omega arith)))

pub turned : {l : Live} {b got b' out out' : List ℕ} {read : Result Read Error} {a r : Live} {p : Result Unit GivenUp}
    → Fills b got l.have read × Untouched l.next read b got → Leaves (stepped (length out) l read got) got b' out out' a
    → Writes (length (take a.wrote out')) p → r ≡ sent_live a p → Turned l b b' out out' r
turned {l} {b} {got} {b'} {out} {out'} {read} {a} {r} {p} f g s e =
    let t : Turn = stepped (length out) l read got in
    let m : length (take a.wrote out') ≡ length t.text =
    length-take-le a.wrote out' (wrote_inside g) ∙ ap (λ (x : Live). x.wrote) g.result in
    let y : Writes (length t.text) p = subst (λ (i : ℕ). Writes i p) m s in
    record {
      read = read;
      got = got;
      put = p;
      fills = f.0;
      due = f.1;
      writes = y;
      result = e ∙ ap (λ (x : Live). sent_live x p) g.result ∙ sent_same t p y.fewer;
      input = g.input;
      output = g.output;
      kept = g.inside;
    }

pub turn_moved : {l : Live} {b got b' out out' : List ℕ} {read : Result Read Error} {a r : Live} {p : Result Unit GivenUp} {x y u v : Option (List ℕ)}
    → Fills b got l.have read × Untouched l.next read b got → Leaves (stepped (length out) l read got) got b' out out' a
    → Writes (length (take a.wrote out')) p → r ≡ sent_live a p → Consumes x y (came_bytes (brought read l.have got))
    → Appends u v (take (written_of (length (take a.wrote out')) p) (take a.wrote out')) → TurnMoved l b b' out out' r x y u v
unfolding turned
turn_moved {l} {b} {got} {b'} {out} {out'} {read} {a} {r} {p} {x} {y} {u} {v} f g s e c h =
    let t : Turn = stepped (length out) l read got in
    let k : a.wrote ≡ length t.text = ap (λ (q : Live). q.wrote) g.result in
    let j : take a.wrote out' ≡ t.text = ap₂ (λ (i : ℕ) (d : List ℕ). take i d) k g.output ∙ front_sets out t.text g.fits in
    record { turned = turned f g s e; took = c; gave = subst (λ (d : List ℕ). Appends u v (take (written_of (length d) p) d)) j h }

-- ---- so many turns from the start on, and what the last left
pub record Made (n k : ℕ) (l : Live) (b : List ℕ) : Type 0 where
  pub read : List ℕ
  pub written : List ℕ
  pub turn : Turn
  pub turns : Turns n k read written turn
  pub result : l ≡ live_of turn
  pub front : take l.have b ≡ turn.waiting

pub made_start : (n : ℕ) (b : List ℕ) (s : Service) → s ≡ new_service
    → Made n 0 (record { service = s; have = 0; offset = 0; next = Await; wrote = 0 }) b
made_start n b s e =
    record {
      read = [];
      written = [];
      turn = first_turn;
      turns = none;
      result = ap (λ (x : Service). record { service = x; have = 0; offset = 0; next = Await; wrote = 0 }) e;
      front = refl;
    }

untouched_due : (x : Next) (r : Result Read Error) (h : ℕ) (b got : List ℕ) → Untouched x r b got → Due x (brought r h got)
unfolding Untouched Due brought
untouched_due Await r h b got e = tt
untouched_due Feed r h b got e = ap (λ (q : Result Read Error). brought q h got) e.0
untouched_due (Refuse y) r h b got e = ap (λ (q : Result Read Error). brought q h got) e.0
untouched_due (Over y) r h b got e = ap (λ (q : Result Read Error). brought q h got) e.0

sent_waiting : (p : Result Unit GivenUp) (t : Turn) → (sent p t).waiting ≡ t.waiting
unfolding sent
sent_waiting (Ok u) t = refl
sent_waiting (Err g) t = refl

module _ {n k : ℕ} {l r : Live} {b b' out out' : List ℕ} (m : Made n k l b) (g : Turned l b b' out out' r) (e : length out ≡ n) where
  abbrev came : Came
  came = brought g.read l.have g.got

  same_step : stepped (length out) l g.read g.got ≡ step n came m.turn
  same_step =
      ap (λ (i : ℕ). stepped i l g.read g.got) e
      ∙ ap (λ (w : List ℕ). step_by n l.next came l.service w l.offset) (g.fills.front ∙ m.front)
      ∙ ap (λ (q : Live). step_by n q.next came q.service m.turn.waiting q.offset) m.result

  made_next : Made n (k + 1) r b'
  made_next =
      let c : Came = came in
      let t : Turn = m.turn in
      let x : l.next ≡ t.next = ap (λ (q : Live). q.next) m.result in
      let long : r.have ≡ length (step n c t).waiting =
      ap (λ (q : Live). q.have) g.result ∙ ap (λ (u : Turn). length (sent g.put u).waiting) same_step
      ∙ ap length (sent_waiting g.put (step n c t)) in
      record {
        read = m.read ++ came_bytes c;
        written = m.written ++ take (written_of (length (step n c t).text) g.put) (step n c t).text;
        turn = sent g.put (step n c t);
        turns = more k m.read m.written t c g.put m.turns
            (subst (λ (y : Next). Due y c) x (untouched_due l.next g.read l.have b g.got g.due))
            (subst (λ (u : Turn). GivesUp (length u.text) g.put) same_step g.writes.fewer);
        result = g.result ∙ ap (λ (u : Turn). live_of (sent g.put u)) same_step;
        front = ap₂ (λ (i : ℕ) (w : List ℕ). take i w) long (g.input ∙ ap (λ (u : Turn). sets g.got 0 u.waiting) same_step)
            ∙ front_sets g.got (step n c t).waiting (subst (λ (u : Turn). length u.waiting ≤ length g.got) same_step g.kept)
            ∙ sym (sent_waiting g.put (step n c t));
      }

pub made_end : {n k : ℕ} {l : Live} {b : List ℕ} → Made n k l b → (is_over l.next ≡ false → k ≡ most_turns) → Ran n l
made_end {k = k} m h = record { count = k; read = m.read; written = m.written; turn = m.turn; turns = m.turns; result = m.result; ends = h }

-- and the bytes that went through them
pub record MadeMoved (n k : ℕ) (l : Live) (b : List ℕ) (rest rest-now held held-now : Option (List ℕ)) : Type 0 where
  pub made : Made n k l b
  pub took : Consumes rest rest-now made.read
  pub gave : Appends held held-now made.written

pub moved_start : (n : ℕ) (b : List ℕ) (s : Service) (rest held : Option (List ℕ)) → s ≡ new_service
    → MadeMoved n 0 (record { service = s; have = 0; offset = 0; next = Await; wrote = 0 }) b rest rest held held
unfolding made_start
moved_start n b s rest held e =
    record { made = made_start n b s e; took = Consumes-nil rest; gave = Appends-nil held }

pub moved_more : {n k j : ℕ} {l r : Live} {b b' out out' : List ℕ} {x y z u v w : Option (List ℕ)} → MadeMoved n k l b x y u v
    → TurnMoved l b b' out out' r y z v w → length out ≡ n → k + 1 ≡ j → MadeMoved n j r b' x z u w
unfolding made_next
moved_more {n} {k} {j} {l} {r} {b} {b'} {out} {out'} {x} {y} {z} {u} {v} {w} m g e d =
    let t : Turned l b b' out out' r = g.turned in
    let c : Came = brought t.read l.have t.got in
    subst (λ (i : ℕ). MadeMoved n i r b' x z u w) d (record {
      made = made_next m.made t e;
      took = Consumes-trans x y z m.made.read (came_bytes c) m.took g.took;
      gave = Appends-trans u v w m.made.written (take (written_of (length (step n c m.made.turn).text) t.put) (step n c m.made.turn).text) m.gave
          (subst (λ (q : Turn). Appends v w (take (written_of (length q.text) t.put) q.text)) (same_step m.made t e) g.gave);
    })

pub moved_end : {n k : ℕ} {l : Live} {b : List ℕ} {x y u v : Option (List ℕ)} → MadeMoved n k l b x y u v
    → (is_over l.next ≡ false → k ≡ most_turns) → RunMoved n l x y u v
unfolding made_end
moved_end m h = record { ran = made_end m.made h; took = m.took; gave = m.gave }

-- ---- there is room for a read where one is due
both_short : (c : Bool) {a b : ℕ} → a ≤ longest → b ≤ longest → cond c a b ≤ longest
both_short true h l = h
both_short false h l = l

record_short : (k : ℕ) → record_length k ≤ longest
unfolding record_length
record_short k =
    both_short (eqb k 1) (omega arith) (both_short (eqb k 2) (omega arith) (both_short (eqb k 3) (omega arith) (both_short (eqb k 4) (omega arith)
    (both_short (eqb k 5) (omega arith) (both_short (eqb k 6) (omega arith) (omega arith))))))

pub made_sound : {n k : ℕ} {l : Live} {b out : List ℕ} → Made n k l b → room ≤ n → length out ≡ n → longest ≤ length b → Sound l b out
unfolding RunRight Stands Unfinished
made_sound {n} {k} {l} {b} {out} m big e h =
    let inside : l.have ≤ length b = omega (arith, ap length m.front, counted, length-take l.have b) in
    record { have = inside; space = λ x. few (dec_le 1 (length w)) (unfinished x).0; line = omega arith }
  where
    w : List ℕ
    w = m.turn.waiting

    counted : l.have ≡ length w
    counted = ap (λ (q : Live). q.have) m.result

    right : SoFar m.turn m.read m.written
    right = run_right n k m.read m.written m.turn big m.turns

    unfinished : l.next ≡ Await → Stands Await right.used w m.written
    unfinished x = subst (λ (y : Next). Stands y right.used w m.written) (sym (ap (λ (q : Live). q.next) m.result) ∙ x) right.stands

    few : Dec (1 ≤ length w) → Unfinished w → l.have < length b
    few (yes y) f = omega (arith, counted, f (omega arith), record_short (get_or w 0 0))
    few (no y) f = omega (arith, counted)
