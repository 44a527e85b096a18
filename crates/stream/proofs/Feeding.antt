-- How far feed is, and what it hands back.
--   Ready, ready, ready_true, ready_false   what a record that is taken has
--   Kinded, kinded, tested                  a known kind; tests that tell that a record is taken
--   stop_used .. stop_full                  why none is taken
--   said, behind                            the line of the record at a place, and the state behind it
--   Along, along_start, along_more          the bytes used so far are whole records, and state and length written are theirs
--   fed_far, fed_within, fed_more, fed_end    what fed is: offsets that pass 64 bits or do not, one record more, no more
--   Going, going_start, going_more, going_end     what holds at each turn of feed
--   turn_silent, going_silent, going_run, going_takes     the same behind records that are taken in silence
--   run_onward, takes_onward                they lead onward
-- Assumes nothing.
use Rattle.std.proofs.Common.{◌≡◌, refl, sym, ap, ◌∙◌, ◌≢◌, true, false, List, [], ◌∷◌, ◌++◌, append-nil, ℕ, zero, suc, ◌+◌, ◌-◌, ◌^◌, ◌≤◌, ◌<◌, arith, length, get_or, take, length-append, ltb-true, leb-true, lt-ltb, le-leb, eq-eqb, ne_eqb}
use borrow.Author.Tests.{eqb-false, not-true, lt-leb}
use Rattle.scheme.proofs.Tests.{and_both, is_false}
use Rattle.service.specs.declared.Service.{Service}
use Rattle.lines.specs.Text.{line}
use Rattle.lines.specs.Put.{room, Put}
use Rattle.lines.proofs.Lines.{put_none, put_append, put_as, put_length}
use Rattle.stream.specs.declared.Stop.TheVariants.{Used, Unknown, Partial, Full, Far}
use Rattle.stream.specs.declared.Kind.{Kind}
use Rattle.stream.specs.Stream.{code_of, record_length, length_at, record_at, Whole, Item, taken, items_from, items, step, answers, text, lines, ready_at, stop_at, halt, fed_from, fed, Turns, SilentAt, SilentRun, stays, goes_on, Takes, alone, in_silence}
use Rattle.stream.specs.Promise.{all_taken, last_state}
use Rattle.stream.proofs.Records.{items_next, taken_append, state_append, text_append}
use Rattle.stream.proofs.Turns.{line_short}

-- ---- a record that is taken
pub record Ready (b : List ℕ) (at left : ℕ) : Type 0 where
  pub known : length_at b at ≢ 0
  pub whole : Whole b at
  pub fits : room ≤ left

pub ready : (b : List ℕ) (at left : ℕ) → ready_at b at left ≡ true → Ready b at left
unfolding ready_at
ready b at left e =
    let x = and_both _ _ e in
    let y = and_both _ _ x.0 in
    let z = and_both _ _ y.0 in
    let i = ltb-true at (length b) z.0 in
    let l = leb-true (length_at b at) (length b - at) y.1 in
    record { known = eqb-false _ _ (not-true _ z.1); whole = record { inside = i; whole = omega arith }; fits = leb-true room left x.1 }

pub ready_true : {b : List ℕ} {at left : ℕ} → Ready b at left → ready_at b at left ≡ true
unfolding ready_at
ready_true {b} {at} {left} r =
    let rest : length_at b at ≤ length b - at = omega (arith, r.whole.whole) in
    simp (lt-ltb _ _ r.whole.inside, ne_eqb _ _ r.known, le-leb _ _ rest, le-leb _ _ r.fits)

pub ready_false : (b : List ℕ) (at left : ℕ) → (Ready b at left → ⊥) → ready_at b at left ≡ false
ready_false b at left h = is_false _ (λ e. h (ready b at left e))

-- a kind, and how long its records are
pub record Kinded (b : List ℕ) (at n : ℕ) (k : Kind) : Type 0 where
  pub own : get_or b at 0 ≡ code_of k
  pub long : n ≡ length_at b at
  pub some : 1 ≤ n

pub kinded : {b : List ℕ} (at : ℕ) {n : ℕ} (k : Kind) → get_or b at 0 ≡ code_of k → (n ≡ record_length (code_of k)) × (1 ≤ n) → Kinded b at n k
kinded at k e d = record { own = e; long = d.0 ∙ ap record_length (sym e); some = d.1 }

module _ {b : List ℕ} {at n : ℕ} {k : Kind} (e : Kinded b at n k) (i : at < length b) where
  known : length_at b at ≢ 0
  known z = omega (arith, e.long, e.some)

  pub tested : {left : ℕ} → n ≤ length b - at → room ≤ left → Ready b at left
  tested l f = record { known = known; whole = record { inside = i; whole = omega (arith, e.long) }; fits = f }

  pub stop_partial : length b - at < n → Partial ≡ stop_at b at
  unfolding stop_at
  stop_partial h =
      let l : length b - at < length_at b at = omega (arith, e.long) in
      simp (lt-leb (length b) at i, ne_eqb (length_at b at) 0 known, lt-leb (length_at b at) (length b - at) l)

  pub stop_full : n ≤ length b - at → Full ≡ stop_at b at
  unfolding stop_at
  stop_full h =
      let l : length_at b at ≤ length b - at = omega (arith, e.long) in
      simp (lt-leb (length b) at i, ne_eqb (length_at b at) 0 known, le-leb (length_at b at) (length b - at) l)

module _ (b : List ℕ) (at : ℕ) where
  pub stop_used : length b ≤ at → Used ≡ stop_at b at
  unfolding stop_at
  stop_used h = rw (le-leb (length b) at h)

  pub stop_unknown : at < length b → length_at b at ≡ 0 → Unknown ≡ stop_at b at
  unfolding stop_at
  stop_unknown i z = simp (lt-leb (length b) at i, eq-eqb (length_at b at) 0 z)

-- ---- whole records
pub record Along (s : Service) (b : List ℕ) (o : ℕ) (t : Service) (at wrote : ℕ) : Type 0 where
  pub inside : at ≤ length b
  pub whole : all_taken (items o (take at b)) ≡ true
  pub state : t ≡ last_state s (items o (take at b))
  pub written : wrote ≡ length (lines s o (take at b))

pub along_start : (s : Service) (b : List ℕ) (o : ℕ) → Along s b o s 0 0
unfolding items items_from all_taken last_state lines answers text
along_start s b o = record { inside = omega arith; whole = refl; state = refl; written = refl }

-- the line of the record at a place, and the state behind it
abbrev pub said : Service → List ℕ → (o at : ℕ) → List ℕ
said t b o at = line (o + at) (step t (record_at b at)).answer

abbrev pub behind : Service → List ℕ → (at : ℕ) → Service
behind t b at = (step t (record_at b at)).service

module _ {s : Service} {b : List ℕ} {o : ℕ} {t : Service} {at wrote left : ℕ} (g : Along s b o t at wrote) (r : Ready b at left) where
  abbrev before : List Item
  before = items o (take at b)

  abbrev new : List Item
  new = taken (o + at) (record_at b at) ∷ []

  next : items o (take (at + length_at b at) b) ≡ before ++ new
  next = items_next o b at r.known r.whole.whole g.whole

  text_more : lines s o (take (at + length_at b at) b) ≡ lines s o (take at b) ++ said t b o at
  unfolding lines answers text
  text_more = rw (next, text_append s before new g.whole, append-nil, ← g.state)

  pub along_more : Along s b o (behind t b at) (at + length_at b at) (wrote + length (said t b o at))
  unfolding all_taken last_state
  along_more =
      record {
        inside = r.whole.whole;
        whole = ap all_taken next ∙ taken_append before new g.whole;
        state = ap (λ (u : Service). behind u b at) g.state ∙ sym (ap (last_state s) next ∙ state_append s before new g.whole);
        written = omega (arith, g.written, ap length text_more, length-append (lines s o (take at b)) (said t b o at));
      }

-- ---- fed
module _ (s : Service) (b : List ℕ) (o n : ℕ) where
  pub fed_far : 2 ^ 64 ≤ o + length b → halt s 0 0 Far ≡ fed s b o n
  unfolding fed
  fed_far h = rw (le-leb (2 ^ 64) (o + length b) h)

  pub fed_within : o + length b < 2 ^ 64 → fed_from (length b) s b o n 0 0 ≡ fed s b o n
  unfolding fed
  fed_within h = rw (lt-leb (2 ^ 64) (o + length b) h)

module _ (m : ℕ) (t : Service) (b : List ℕ) (o n at w : ℕ) where
  pub fed_more : ready_at b at (n - w) ≡ true
      → fed_from (suc m) t b o n at w ≡ fed_from m (behind t b at) b o n (at + length_at b at) (w + length (said t b o at))
  unfolding fed_from
  fed_more e = rw e

pub fed_end : (m : ℕ) (t : Service) (b : List ℕ) (o n at w : ℕ) → ready_at b at (n - w) ≡ false
    → fed_from m t b o n at w ≡ halt t at w (stop_at b at)
unfolding fed_from
fed_end zero t b o n at w e = refl
fed_end (suc m) t b o n at w e = rw e

-- ---- the turns of feed
pub record Going (s : Service) (b : List ℕ) (o : ℕ) (out₀ : List ℕ) (t : Service) (at wrote : ℕ) (out : List ℕ) : Type 0 where
  pub along : Along s b o t at wrote
  pub fits : wrote ≤ length out₀
  pub long : length out ≡ length out₀
  pub put : Put out₀ out 0 wrote (lines s o (take at b))
  pub most : ℕ
  pub enough : length b ≤ at + most
  pub rest : fed_from most t b o (length out₀) at wrote ≡ fed s b o (length out₀)

pub going_start : (s : Service) (b : List ℕ) (o : ℕ) (out : List ℕ) → o + length b < 2 ^ 64 → Going s b o out s 0 0 out
unfolding items items_from lines answers text
going_start s b o out h =
    record {
      along = along_start s b o;
      fits = omega arith;
      long = refl;
      put = put_none out 0;
      most = length b;
      enough = omega arith;
      rest = fed_within s b o (length out) h;
    }

module _ {s : Service} {b : List ℕ} {o : ℕ} {out₀ : List ℕ} {t : Service} {at wrote : ℕ} {out : List ℕ} (g : Going s b o out₀ t at wrote out) where
  same : ready_at b at (length out₀ - wrote) ≡ ready_at b at (length out - wrote)
  same = ap (λ (n : ℕ). ready_at b at (n - wrote)) (sym g.long)

  pub going_more : Ready b at (length out - wrote) → {n : ℕ} → n ≡ length_at b at → {u : Service} {out' : List ℕ} {next : ℕ}
      → Turns (record_at b at) (o + at) t u out out' wrote next → Going s b o out₀ u (at + n) next out'
  going_more r d p =
      let fuel : suc (g.most - 1) ≡ g.most = omega (arith, g.enough, r.whole.inside) in
      rw (d, p.put.place, p.state)
      (record {
        along = along_more g.along r;
        fits = omega (arith, line_short (o + at) t (record_at b at), r.fits, g.long, g.fits);
        long = put_length p.put ∙ g.long;
        put = put_as (rw p.put.place at (put_append g.put p.put)) (sym (text_more g.along r));
        most = g.most - 1;
        enough = omega (arith, g.enough, r.known);
        rest =
            sym (fed_more (g.most - 1) t b o (length out₀) at wrote (same ∙ ready_true r))
            ∙ ap (λ (m : ℕ). fed_from m t b o (length out₀) at wrote) fuel ∙ g.rest;
      })

  pub going_end : (Ready b at (length out - wrote) → ⊥) → halt t at wrote (stop_at b at) ≡ fed s b o (length out₀)
  going_end h = sym (fed_end g.most t b o (length out₀) at wrote (same ∙ ready_false b at _ h)) ∙ g.rest

-- ---- records that are taken in silence
turn_silent : {b : List ℕ} {at next : ℕ} {t u : Service} → SilentAt b at next t u → (o : ℕ) (out : List ℕ) (wrote : ℕ)
    → Turns (record_at b at) o t u out out wrote wrote
unfolding line
turn_silent r o out wrote = record { state = r.state; put = put_as (put_none out wrote) (ap (line o) (sym r.quiet)) }

going_silent : {s : Service} {b : List ℕ} {o : ℕ} {out₀ : List ℕ} {t : Service} {at wrote : ℕ} {out : List ℕ} → Going s b o out₀ t at wrote out
    → room ≤ length out - wrote → {next : ℕ} {u : Service} → SilentAt b at next t u → Going s b o out₀ u next wrote out
going_silent {s} {b} {o} {out₀} {out = out} g fits {next} {u} r =
    rw r.long (going_more g (record { known = r.known; whole = r.whole; fits = fits }) refl (turn_silent r _ out _))

going_run : {s : Service} {b : List ℕ} {o : ℕ} {out₀ : List ℕ} {wrote : ℕ} {out : List ℕ} → room ≤ length out - wrote
    → {at next : ℕ} {t u : Service} → SilentRun b at next t u → Going s b o out₀ t at wrote out → Going s b o out₀ u next wrote out
going_run fits (stays at s) g = g
going_run fits (goes_on start at end s t u run r) g = going_silent (going_run fits run g) fits r

-- one with its lines, or a run
pub going_takes : {s : Service} {b : List ℕ} {o : ℕ} {out₀ : List ℕ} {t : Service} {at wrote : ℕ} {out : List ℕ} → Going s b o out₀ t at wrote out
    → Ready b at (length out - wrote) → {end : ℕ} {u : Service} {out' : List ℕ} {next : ℕ} → Takes b (o + at) at end t u out out' wrote next
    → Going s b o out₀ u end next out'
going_takes g r (alone d turn) = rw d (going_more g r refl turn)
going_takes g r (in_silence at u one run same still) = rw (same, still) (going_run r.fits run (going_silent g r.fits one))

run_onward : {b : List ℕ} {at next : ℕ} {t u : Service} → SilentRun b at next t u → at ≤ next
run_onward (stays at s) = omega arith
run_onward (goes_on start at end s t u run r) = omega (arith, run_onward run, r.long)

pub takes_onward : {b : List ℕ} {o at end : ℕ} {t u : Service} {out out' : List ℕ} {wrote next : ℕ} → length_at b at ≢ 0
    → Takes b o at end t u out out' wrote next → at < end
takes_onward h (alone d turn) = omega (arith, d, h)
takes_onward h (in_silence at u one run same still) = omega (arith, one.long, h, run_onward run)
