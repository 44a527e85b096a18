-- What the code leaves in its values and buffers.
--   fills_inside, asked, asked_due                   one read, and none where none is due
--   front_sets, same_sets, copied_front              the front of a buffer
--   here_fits, used_inside, fed_leaves               one feed, and what it leaves
--   wrote_inside                                     the text that any step leaves lies in the buffer
--   silent_leaves, none_left, some_left, seven_leaves     what a silent step leaves, the end of the input, and the line of refusal 7
--   step_as, bytes_fed                               one step, by what comes next and what a read brought
-- Assumes nothing.
use Rattle.std.proofs.Common.{◌≡◌, refl, sym, ap, ap₂, ◌∙◌, subst, Bool, true, false, cond, List, [], ◌∷◌, ◌++◌, ℕ, zero, suc, ◌+◌, ◌-◌, ◌^◌, ◌≤◌, ◌<◌, zero-add, arith, ◌⊎◌, inl, inr, length, take, drop, take-append-drop, length-append, length-drop, take-take, length-take-le, ne_eqb, le-leb, Result, Ok, Err, pos}
use native.Mathlib.Decide.{dec_le}
use lib.Seq.{paste, sets, sets-eq, length-sets}
use Rattle.std.proofs.lemmas.List.{drop-take}
use Rattle.std.specs.declared.io.Error.{Error}
use Rattle.std.specs.IoError.{kind_at}
use Rattle.scheme.specs.Service.{refused}
use Rattle.service.specs.declared.Service.{Service}
use Rattle.lines.specs.Text.{numbers, line}
use Rattle.lines.specs.Put.{room}
use Rattle.lines.proofs.Decimals.{decimal_twenty}
use Rattle.lines.proofs.Lines.{take_sets}
use Rattle.stream.specs.Stream.{Fed, fed, lines, cut_length, cut_left}
use Rattle.stream.specs.Promise.{FedSays, FedRight}
use Rattle.stream.proofs.Promise.{fed_right}
use Rattle.stream.proofs.Feeding.{fed_far}
use Rattle.pool.specs.declared.Read.{Read}
use Rattle.pool.specs.declared.Read.TheVariants.{Bytes, End, Again}
use Rattle.pool.specs.declared.Why.{Why}
use Rattle.pool.specs.declared.Why.TheVariants.{EndOfInput, CutShort}
use Rattle.pool.specs.declared.Next.{Next}
use Rattle.pool.specs.declared.Next.TheVariants.{Await, Feed, Refuse, Over}
use Rattle.pool.specs.declared.Live.{Live}
use Rattle.pool.specs.Turns.{again, Turn, comes, fed_turn, at_end, silent, step_by}
use Rattle.pool.specs.Pool.{silent_live, Leaves, brought, Untouched, interrupted, Moves, read_as, Fills, step_of}

-- ---- one read
-- a read that brings bytes brings one at least, and no more than there is room for
module _ (b b' : List ℕ) (have : ℕ) (r : Result Read Error) (g : Fills b b' have r) (n : ℕ) (e : r ≡ Ok (Bytes n)) where
  pub fills_inside : (have < n) × (n ≤ length b)
  unfolding read_as
  fills_inside = pick g.got g.moved (sym g.result ∙ e)
    where
      pick : (q : Result ℕ Error) → Moves (length b - have) q → read_as have q ≡ Ok (Bytes n) → (have < n) × (n ≤ length b)
      pick (Ok zero) m x = let u : ◌≡◌ {A = Result Read Error} (Ok End) (Ok (Bytes n)) = x in let z : ◌≡◌ {A = ℕ} 0 1 = cc in absurd (omega arith)
      pick (Ok (suc k)) m x = let u : ◌≡◌ {A = Result Read Error} (Ok (Bytes (have + suc k))) (Ok (Bytes n)) = rw (ne_eqb (suc k) 0 (λ z. omega arith)) at x in
          let z : have + suc k ≡ n = cc in (omega arith, omega (arith, g.inside))
      pick (Err q) m x = other (interrupted q) x
        where
          other : (y : Bool) → cond y (Ok Again) (Err q) ≡ Ok (Bytes n) → (have < n) × (n ≤ length b)
          other true z = let u : ◌≡◌ {A = ℕ} 0 1 = cc in absurd (omega arith)
          other false z = let u : ◌≡◌ {A = ℕ} 0 1 = cc in absurd (omega arith)

-- where none is due
-- an error that tells an interruption
interruption : Error
interruption = record { repr = 1; kind = 35; len = 0; code = pos 0; message = record { 0 = 0; 1 = 0; 2 = 0; 3 = 0; 4 = 0; 5 = 0; 6 = 0; 7 = 0; 8 = 0; 9 = 0 } }

abbrev pub Undue : Next → Type 0
Undue x = (x ≡ Feed) ⊎ (((y : Why) × (x ≡ Refuse y)) ⊎ ((y : Why) × (x ≡ Over y)))

untouched : (x : Next) (b : List ℕ) → Undue x → Untouched x (Ok Again) b b
unfolding Untouched
untouched x b (inl e) = rw e (refl, refl)
untouched x b (inr (inl p)) = rw p.1 (refl, refl)
untouched x b (inr (inr p)) = rw p.1 (refl, refl)

pub asked : (x : Next) {b : List ℕ} {have : ℕ} → have ≤ length b → Undue x → Fills b b have (Ok Again) × Untouched x (Ok Again) b b
unfolding read_as interrupted kind_at interruption
asked x {b} h u = (record { got = Err interruption; front = refl; inside = h; moved = tt; result = refl }, untouched x b u)

pub asked_due : (x : Next) (r : Result Read Error) (b b' : List ℕ) → x ≡ Await → Untouched x r b b'
unfolding Untouched
asked_due x r b b' e = rw e tt

-- ---- the front of a buffer
pub front_sets : (o t : List ℕ) → length t ≤ length o → take (length t) (sets o 0 t) ≡ t
front_sets o t h = ap (λ (i : ℕ). take i (sets o 0 t)) (sym (zero-add (length t))) ∙ take_sets o 0 t (omega arith)

same_sets : (b : List ℕ) (h : ℕ) → h ≤ length b → b ≡ sets b 0 (take h b)
same_sets b h l =
    let e : 0 + length (take h b) ≡ h = omega (arith, length-take-le h b l) in
    sym (sets-eq (take h b) b 0 (omega (arith, length-take-le h b l)) ∙ ap (λ (i : ℕ). take h b ++ drop i b) e ∙ take-append-drop h b)

-- the bytes from i to j, copied to the front
pub copied_front : (b : List ℕ) (i j : ℕ) → i ≤ j → j ≤ length b → paste b 0 (drop i b) (j - i) ≡ sets b 0 (drop i (take j b))
copied_front b i j h l =
    let k : i + (j - i) ≡ j = omega arith in
    let d : drop i (take j b) ≡ take (j - i) (drop i b) = ap (λ (n : ℕ). drop i (take n b)) (sym k) ∙ drop-take i (j - i) b in
    let e : length (drop i (take j b)) ≡ j - i = omega (arith, length-drop i (take j b), length-take-le j b l) in
    sym (sets-eq (drop i (take j b)) b 0 (omega arith) ∙ ap₂ (λ (c : List ℕ) (n : ℕ). c ++ drop (0 + n) b) d e)

-- ---- one feed
pub here_fits : (s : Service) (b : List ℕ) (o n : ℕ) (f : Fed) → f ≡ fed s b o n → o < 2 ^ 64 → o + f.at < 2 ^ 64
unfolding FedRight
here_fits s b o n f e h = pick (dec_le (2 ^ 64) (o + length b))
  where
    at : f.at ≡ (fed s b o n).at
    at = ap (λ (g : Fed). g.at) e

    pick : Dec (2 ^ 64 ≤ o + length b) → o + f.at < 2 ^ 64
    pick (yes l) = let z : (fed s b o n).at ≡ 0 = ap (λ (g : Fed). g.at) (sym (fed_far s b o n l)) in omega (arith, at)
    pick (no l) = omega (arith, at, (fed_right s b o n).inside)

abbrev turn_of : Service → (b : List ℕ) → (o : ℕ) → Fed → Turn
turn_of s b o g = record { service = g.service; waiting = drop g.at b; offset = o + g.at; next = comes g.stop; text = lines s o (take g.at b) }

module _ (s : Service) (b : List ℕ) (n o m : ℕ) (f : Fed) (h : n ≤ length b) (e : f ≡ fed s (take n b) o m) where
  says : FedSays s (take n b) o m f
  unfolding FedRight
  says = subst (λ (g : Fed). FedSays s (take n b) o m g) (sym e) (fed_right s (take n b) o m)

  pub used_inside : f.at ≤ n
  used_inside = omega (arith, says.inside, length-take-le n b h)

  left_long : length (drop f.at (take n b)) ≡ n - f.at
  left_long = length-drop f.at (take n b) ∙ ap (λ (i : ℕ). i - f.at) (length-take-le n b h)

  pub fed_leaves : (b' out out' : List ℕ) (have : ℕ) (x : Next) → m ≡ length out → out' ≡ sets out 0 (lines s o (take f.at (take n b)))
      → have ≡ n - f.at → b' ≡ sets b 0 (drop f.at (take n b)) → x ≡ comes f.stop
      → Leaves (fed_turn m s (take n b) o) b b' out out' (record { service = f.service; have = have; offset = o + f.at; next = x; wrote = f.wrote })
  unfolding fed_turn
  fed_leaves b' out out' have x l w k d y =
      let r : Live = record { service = f.service; have = have; offset = o + f.at; next = x; wrote = f.wrote } in
      subst (λ (g : Fed). Leaves (turn_of s (take n b) o g) b b' out out' r) e (record {
        result = λ i. record { service = f.service; have = (k ∙ sym left_long) i; offset = o + f.at; next = y i; wrote = says.written i };
        input = d;
        output = w;
        inside = omega (arith, left_long);
        fits = omega (arith, says.written, says.fits);
      })

pub wrote_inside : {t : Turn} {b b' out out' : List ℕ} {r : Live} → Leaves t b b' out out' r → r.wrote ≤ length out'
wrote_inside {t} {out = out} h = omega (arith, ap (λ (l : Live). l.wrote) h.result, h.fits, ap length h.output, length-sets out 0 t.text)

-- ---- nothing to write; the line of refusal 7
abbrev silent_of : Next → Live → (b : List ℕ) → Turn
silent_of x l b = silent x l.service (take l.have b) l.offset

seven_short : (o : ℕ) → length (line o (refused 7)) ≤ room
unfolding line numbers
seven_short o = simp length-append (omega (arith, decimal_twenty 7, decimal_twenty o))

module _ (l : Live) (b : List ℕ) (h : l.have ≤ length b) where
  long : length (take l.have b) ≡ l.have
  long = length-take-le l.have b h

  text_leaves : {out out' : List ℕ} {r : Live} (x : Next) (t : List ℕ)
      → r ≡ record { service = l.service; have = l.have; offset = l.offset; next = x; wrote = length t } → out' ≡ sets out 0 t → length t ≤ length out
      → Leaves (record { service = l.service; waiting = take l.have b; offset = l.offset; next = x; text = t }) b b out out' r
  text_leaves x t e d f =
      record {
        result = e ∙ ap (λ (i : ℕ). record { service = l.service; have = i; offset = l.offset; next = x; wrote = length t }) (sym long);
        input = same_sets b l.have h;
        output = d;
        inside = omega (arith, long);
        fits = f;
      }

  pub silent_leaves : {out : List ℕ} {r : Live} (x : Next) → r ≡ silent_live l x → Leaves (silent_of x l b) b b out out r
  silent_leaves x e = text_leaves x [] e refl (omega arith)

  -- where the input ends
  pub none_left : {out : List ℕ} {r : Live} → l.have ≡ 0 → r ≡ silent_live l (Over EndOfInput)
      → Leaves (silent_of (at_end (take l.have b)) l b) b b out out r
  unfolding at_end
  none_left z e = silent_leaves _ (e ∙ ap (λ (i : ℕ). silent_live l (at_end (take i b))) (sym z))

  pub some_left : {out : List ℕ} {r : Live} → (l.have ≡ 0 → ⊥) → r ≡ silent_live l (Refuse CutShort)
      → Leaves (silent_of (at_end (take l.have b)) l b) b b out out r
  unfolding at_end
  some_left z e = silent_leaves _ (e ∙ ap (silent_live l) (pick (take l.have b) long))
    where
      pick : (c : List ℕ) → length c ≡ l.have → Refuse CutShort ≡ at_end c
      pick [] w = absurd (z (sym w))
      pick (k ∷ c) w = refl

  pub seven_leaves : {out out' : List ℕ} (y : Why) {wrote : ℕ} → room ≤ length out → wrote ≡ cut_length l.offset (length out)
      → out' ≡ cut_left l.offset out → Leaves (step_of (length out) (Refuse y) again l b) b b out out'
      (record { service = l.service; have = l.have; offset = l.offset; next = Over y; wrote = wrote })
  unfolding step_by cut_length cut_left
  seven_leaves {out} y fit e d =
      text_leaves (Over y) (line l.offset (refused 7))
      (ap (λ (i : ℕ). record { service = l.service; have = l.have; offset = l.offset; next = Over y; wrote = i })
      (rw (le-leb room (length out) fit) at e)) (rw (le-leb room (length out) fit) at d) (omega (arith, seven_short l.offset))

-- ---- one step, by what comes next and what a read brought
module _ (n : ℕ) (l : Live) (b : List ℕ) {b' out out' : List ℕ} {r : Live} where
  pub step_as : (x : Next) (c : Result Read Error) {y : Next} {read : Result Read Error} → y ≡ x → read ≡ c
      → Leaves (step_of n x (brought c l.have b) l b) b b' out out' r → Leaves (step_of n y (brought read l.have b) l b) b b' out out' r
  step_as x c e d g = rw (e, d) g

  pub bytes_fed : (k : ℕ) → l.have < k → Leaves (fed_turn n l.service (take k b) l.offset) b b' out out' r
      → Leaves (step_of n Await (brought (Ok (Bytes k)) l.have b) l b) b b' out out' r
  unfolding step_by brought
  bytes_fed k h g =
      let d : List ℕ = drop l.have (take k b) in
      let j : take l.have b ++ d ≡ take k b =
      ap (λ (y : List ℕ). y ++ d) (sym (take-take l.have k b (omega arith))) ∙ take-append-drop l.have (take k b) in
      subst (λ (y : List ℕ). Leaves (fed_turn n l.service y l.offset) b b' out out' r) (sym j) g
