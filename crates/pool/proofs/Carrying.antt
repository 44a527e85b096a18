-- The bytes that a reader loses and a writer gains, where those are known.
--   read_bytes, write_bytes              one read, and one write
--   written_bytes                        writes after one another
-- Assumes nothing.
use Rattle.std.proofs.Common.{◌≡◌, sym, ap, ◌∙◌, subst, Bool, true, false, cond, ℕ, zero, suc, ◌+◌, ◌-◌, ◌≤◌, List, [], ◌++◌, length, take, drop, arith, add-zero, ne_eqb, append-nil, take-take, take-append-drop, drop_at, length-take-le, length-drop, take_all, Result, Ok, Err, Some, None, MatchResult}
use Rattle.std.proofs.lemmas.List.{take-append-le, drop-take}
use Rattle.std.proofs.lemmas.Result.{err_from_is_err_and}
use Rattle.std.specs.declared.option.Option.{Option}
use Rattle.std.specs.declared.io.Error.{Error}
use Rattle.std.specs.Io.{ReadsAtMost}
use Rattle.std.proofs.KnownBytes.{Consumes-nil, Consumes-kept, Appends-nil, Appends-trans, Appends-kept}
use Rattle.std.specs.Io.KnownBytes.{Consumes, Appends, Keeps, ReadConsumes, WriteAppends}
use borrow.Rule.Slice.PartMut.{mid_of, put_mid, post_of}
use Rattle.pool.specs.declared.Read.{Read}
use Rattle.pool.specs.declared.Read.TheVariants.{Again}
use Rattle.pool.specs.declared.GivenUp.{GivenUp}
use Rattle.pool.specs.Turns.{came_bytes}
use Rattle.pool.specs.Pool.{brought, interrupted, read_as, WriteAs}

none_kept : (x y : Option (List ℕ)) → Appends x y [] → Keeps x y
none_kept None y g = tt
none_kept (Some a) None g = g
none_kept (Some a) (Some b) g = g ∙ append-nil a

-- ---- one read, of the bytes d into the part of a buffer behind its first h
part_bytes : (h k n : ℕ) (old d : List ℕ) → h ≤ length old → n ≤ length d → drop h (take (h + n) (put_mid h k old d)) ≡ take n d
part_bytes h k n old d l m =
    drop-take h n (put_mid h k old d)
    ∙ ap (take n) (drop_at (take h old) (d ++ post_of h k old) h (length-take-le h old l))
    ∙ take-append-le n d (post_of h k old) m

module _ (x y : Option (List ℕ)) (h k : ℕ) (old d : List ℕ) (r : Result Read Error) where
  pub read_bytes : (got : Result ℕ Error) → r ≡ read_as h got → ReadConsumes x y got d → ReadsAtMost got d → h ≤ length old
      → Consumes x y (came_bytes (brought r h (put_mid h k old d)))
  unfolding read_as brought came_bytes
  read_bytes (Ok zero) e c m l = rw e c.0
  read_bytes (Ok (suc n)) e c m l = rw (e, ne_eqb (suc n) 0 (λ z. omega arith)) (subst (Consumes x y) (sym (part_bytes h k (suc n) old d l m.0)) c.0)
  read_bytes (Err q) e c m l = pick (interrupted q) e
    where
      pick : (b : Bool) → r ≡ cond b (Ok Again) (Err q) → Consumes x y (came_bytes (brought r h (put_mid h k old d)))
      pick true z = rw z (Consumes-kept x x y [] (Consumes-nil x) c)
      pick false z = rw z (Consumes-kept x x y [] (Consumes-nil x) c)

-- ---- one write of the text behind its first i bytes, and many
none_there : (i : ℕ) (t : List ℕ) → drop i (take i t) ≡ []
none_there i t = ap (λ (n : ℕ). drop i (take n t)) (sym (add-zero i)) ∙ drop-take i 0 t

-- what a write from i on does, by how far it is then written
abbrev pub Given : (x y : Option (List ℕ)) (i : ℕ) (t : List ℕ) → Result ℕ GivenUp → Type 0
Given x y i t r = MatchResult r (λ j. Appends x y (drop i (take j t))) (λ _. Keeps x y)

module _ (x y : Option (List ℕ)) (i : ℕ) (t : List ℕ) (r : Result ℕ GivenUp) where
  lent_bytes : (put : Result ℕ Error) → WriteAs i put r → WriteAppends x y put (drop i t) → Given x y i t r
  lent_bytes (Ok zero) e c = let p = err_from_is_err_and r e in rw p.1 (none_kept x y c)
  lent_bytes (Ok (suc n)) e c = rw e (subst (Appends x y) (sym (drop-take i (suc n) t)) c)
  lent_bytes (Err q) e c = pick (interrupted q) e
    where
      pick : (b : Bool) → r ≡ cond b (Ok i) (Err (record { at = i; error = q })) → Given x y i t r
      pick true z = rw z (subst (Appends x y) (sym (none_there i t)) (Appends-kept x x y [] (Appends-nil x) c))
      pick false z = rw z c

  pub write_bytes : (put : Result ℕ Error) → WriteAs i put r → WriteAppends x y put (mid_of i (length t - i) t) → Given x y i t r
  write_bytes put e c = lent_bytes put e (subst (WriteAppends x y put) (take_all (length t - i) (drop i t) (omega (arith, length-drop i t))) c)

pub written_bytes : (x y z : Option (List ℕ)) (i j : ℕ) (t : List ℕ) → i ≤ j → Appends x y (take i t) → Appends y z (drop i (take j t)) → Appends x z (take j t)
written_bytes x y z i j t l g h =
    subst (Appends x z) (ap (λ (c : List ℕ). c ++ drop i (take j t)) (sym (take-take i j t l)) ∙ take-append-drop i (take j t))
    (Appends-trans x y z (take i t) (drop i (take j t)) g h)
