-- One turn of each loop.
--   Listing, listing_start, listing_more_in, listing_more_out, listing_end     the users of a set
--   row_reply_inside, row_reply_behind                                                 the replies of a row: those of the blocks, and 0 behind them
-- Assumes nothing.
use Rattle.std.proofs.Common.{◌≡◌, refl, sym, ap, ◌∙◌, Bool, true, false, cond, List, [], ◌∷◌, ◌++◌, ℕ, ◌+◌, ◌≤◌, ◌<◌, arith, length, get_or, set, replicate, length-append, lt-ltb, le-ltb, ◌-◌}
use Rattle.scheme.specs.Limits.{most_users, most_blocks}
use Rattle.scheme.specs.Lists.{members, padded}
use Rattle.scheme.proofs.Making.Rows.{members_take, members_skip}
use Rattle.scheme.proofs.Padded.{padded_more}
use Rattle.service.specs.View.{held_in}
use Rattle.finish.specs.Parts.{row_reply}

-- ---- the users of a set: those below `user` are written, in order
pub record Listing (t : ℕ → Bool) (user : ℕ) (list : List ℕ) (count : ℕ) : Type 0 where
  pub few : count < user
  pub counted : count ≡ length (members t (user - 1) 1)
  pub written : list ≡ padded most_users (members t (user - 1) 1)

module _ (t : ℕ → Bool) where
  pub listing_start : Listing t 1 (replicate most_users 0) 0
  unfolding padded
  listing_start = record { few = omega arith; counted = refl; written = refl }

  module _ (user : ℕ) (list : List ℕ) (count : ℕ) (s : Listing t user list count) where
    one_more : members t (user + 1 - 1) 1 ≡ members t (user - 1 + 1) 1
    one_more = let e : user + 1 - 1 ≡ user - 1 + 1 = omega (arith, s.few) in ap (λ (n : ℕ). members t n 1) e

    pub listing_more_in : user ≤ most_users → t user ≡ true → Listing t (user + 1) (set list count user) (count + 1)
    listing_more_in h e =
        let m : members t (user + 1 - 1) 1 ≡ members t (user - 1) 1 ++ (user ∷ []) =
        one_more ∙ members_take t (user - 1) 1 user (omega (arith, s.few)) e in
        record {
          few = omega (arith, s.few);
          counted = omega (arith, s.counted, ap length m, length-append (members t (user - 1) 1) (user ∷ []));
          written = ap (λ (o : List ℕ). set o count user) s.written
              ∙ padded_more most_users (members t (user - 1) 1) user count (sym s.counted) (omega (arith, s.few)) ∙ ap (padded most_users) (sym m);
        }

    pub listing_more_out : t user ≡ false → Listing t (user + 1) list count
    listing_more_out e =
        let m : members t (user + 1 - 1) 1 ≡ members t (user - 1) 1 = one_more ∙ members_skip t (user - 1) 1 user (omega (arith, s.few)) e in
        record {
          few = omega (arith, s.few);
          counted = s.counted ∙ ap length (sym m);
          written = s.written ∙ ap (padded most_users) (sym m);
        }

    pub listing_end : (n : ℕ) → user ≡ n + 1 → (list ≡ padded most_users (members t n 1)) × (count ≡ length (members t n 1))
    listing_end n h =
        let e : user - 1 ≡ n = omega arith in
        (s.written ∙ ap (λ (k : ℕ). padded most_users (members t k 1)) e, s.counted ∙ ap (λ (k : ℕ). length (members t k 1)) e)

-- ---- the replies of a row
module _ (ys rs : List ℕ) (m a b : ℕ) where
  pub row_reply_inside : b < m → row_reply ys rs m a b ≡ held_in most_blocks ys (get_or rs a 0) b
  unfolding row_reply
  row_reply_inside h = ap (λ (t : Bool). cond t (held_in most_blocks ys (get_or rs a 0) b) 0) (lt-ltb b m h)

  pub row_reply_behind : m ≤ b → row_reply ys rs m a b ≡ 0
  unfolding row_reply
  row_reply_behind h = ap (λ (t : Bool). cond t (held_in most_blocks ys (get_or rs a 0) b) 0) (le-ltb b m h)
