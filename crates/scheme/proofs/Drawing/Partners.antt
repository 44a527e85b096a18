-- A matching of random lists is one of the byte strings from which they are drawn: a byte string's partner is refilled with the list's.
--   DrawnFrom        the byte strings of a kind are those that the call takes and that draw lists of a kind
--   partners          two kinds of lists that are matched, so two kinds of byte strings
--   partners_drawn    what is drawn from the partner of a byte string
-- Assumes nothing.
use mathlib.Core.Path.{◌≡◌, ◌∙◌}
use mathlib.Core.Bool.{true}
use mathlib.Core.List.{List}
use Prim.Native.Nat.{ℕ, ◌*◌, ◌≤◌}
use native.Mathlib.Omega.{arith}
use Rattle.scheme.specs.Scheme.{Arithmetic, Plan, list_length}
use Rattle.scheme.specs.Promise.{list_good}
use Rattle.scheme.specs.Drawn.{byte, drawn}
use Rattle.scheme.specs.Evenly.{Matched, Draws}
use Rattle.scheme.proofs.Keys.{list_long, list_elements}
use Rattle.scheme.proofs.Drawing.Refusal.{list_taken}
use Rattle.scheme.proofs.Drawing.Refill.{refill, refill_length, refill_bytes, refill_found, refill_back}
use Rattle.scheme.proofs.Drawing.Draws.{draws_list, draws_enough}

-- the lists of the kind L, the byte strings of the kind S
pub record DrawnFrom (A : Arithmetic) (p : Plan) (n : ℕ) (L S : List ℕ → Type 0) : Type 0 where
  pub good : (xs : List ℕ) → L xs → list_good A p xs ≡ true
  pub draws : (s : List ℕ) → S s → Draws A p n s × L (drawn A (list_length p) s)
  pub drawing : (s : List ℕ) → Draws A p n s → L (drawn A (list_length p) s) → S s

abbrev swapped : {L M : List ℕ → Type 0} → Matched L M → Matched M L
swapped m = record {
  there = m.back;
  back = m.there;
  there_in = m.back_in;
  back_in = m.there_in;
  there_back = m.back_there;
  back_there = m.there_back;
}

module _ (A : Arithmetic) (two : A.size ≤ byte * byte) (p : Plan) (n : ℕ) where
  refilled : (s ws : List ℕ) → Draws A p n s → list_good A p ws ≡ true → Draws A p n (refill A s ws) × (drawn A (list_length p) (refill A s ws) ≡ ws)
  refilled s ws d ok =
      let l = list_elements A p ws ok in
      draws_list A p n (refill A s ws) ws _ (list_taken A p s (list_length p) d.taken).0 ok (refill_length A s ws ∙ d.long)
      (refill_bytes A two s ws d.small l) (refill_found A s ws (omega (arith, list_long A p ws ok, draws_enough A p n s d)) l)

  restored : (s ws : List ℕ) → Draws A p n s → list_good A p ws ≡ true → refill A (refill A s ws) (drawn A (list_length p) s) ≡ s
  unfolding drawn
  restored s ws d ok = rw (← list_long A p ws ok) (refill_back A s ws d.small (list_elements A p ws ok))

  abbrev partner : {L M : List ℕ → Type 0} → Matched L M → (bytes : List ℕ) → List ℕ
  partner m s = refill A s (m.there (drawn A (list_length p) s))

  -- one way
  module _ {L M S T : List ℕ → Type 0} (f : DrawnFrom A p n L S) (g : DrawnFrom A p n M T) (m : Matched L M) (s : List ℕ) (h : S s) where
    there_good : list_good A p (m.there (drawn A (list_length p) s)) ≡ true
    there_good = g.good _ (m.there_in _ (f.draws s h).1)

    partner_drawn : drawn A (list_length p) (partner m s) ≡ m.there (drawn A (list_length p) s)
    partner_drawn = (refilled s _ (f.draws s h).0 there_good).1

    partner_in : T (partner m s)
    partner_in = g.drawing _ (refilled s _ (f.draws s h).0 there_good).0 (rw partner_drawn (m.there_in _ (f.draws s h).1))

    partner_back : partner (swapped m) (partner m s) ≡ s
    partner_back = rw (partner_drawn, m.there_back _ (f.draws s h).1) (restored s _ (f.draws s h).0 there_good)

  -- both ways
  module _ {L M S T : List ℕ → Type 0} (f : DrawnFrom A p n L S) (g : DrawnFrom A p n M T) (m : Matched L M) where
    pub partners : Matched S T
    partners = record {
      there = partner m;
      back = partner (swapped m);
      there_in = partner_in f g m;
      back_in = partner_in g f (swapped m);
      there_back = partner_back f g m;
      back_there = partner_back g f (swapped m);
    }

    pub partners_drawn : (s : List ℕ) → S s → drawn A (list_length p) (partners.there s) ≡ m.there (drawn A (list_length p) s)
    unfolding partners
    partners_drawn = partner_drawn f g m
