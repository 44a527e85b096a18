-- Demand 3 over whole histories of the exported calls: the client crate's, since the array stands for its end.
--   given_same, left_same, history_same    one call on an array hands out and leaves what it does for the end; and a list of calls
--   same_given, shown_is_sent              the statements of specs/Shown.antt for one user
--   seen_same, both_same                   what all users' calls show; partners of the program's own calls are partners of the exported ones
--   demand_3, demand_3_of_bytes            THE THIRD DEMAND over what the exported calls give; from raw bytes
-- Assumes nothing.
use mathlib.Core.Path.{◌≡◌, refl, sym, ap, ◌∙◌}
use mathlib.Core.List.{List, [], ◌∷◌, map}
use Prim.Native.Nat.{ℕ, zero, suc}
use lib.ListN.{length}
use Rattle.scheme.specs.Lists.{span}
use Rattle.scheme.specs.Scheme.{sixteen, users_in, after}
use Rattle.scheme.specs.Promise.{Table}
use Rattle.plan.specs.declared.Plan.{Plan}
use Rattle.plan.specs.Plan.{plan_of, code_use}
use Rattle.client.specs.Client.{stage_of_number, fresh_end, begun_with}
use Rattle.client.specs.History as client
use Rattle.client.specs.History.{Call, send, ask, Given}
use Rattle.client.specs.Shown as client-shown
use Rattle.client.proofs.Shown as proved
use Rattle.capi.specs.Ends.{end_length, code_stage, end_at, fresh_numbers, start_left}
use Rattle.capi.specs.Promise.{EndsStand, PartIsReply}
use Rattle.capi.proofs.Promise.{ends_stand, part_is_reply}
use Rattle.exported.specs.Ends.{end_number, end_leaves}
use Rattle.exported.specs.Shown.{Lent, end_call, given, history, calls_of, calls, SameGiven, ShownIsSent, seen, SameSeen, Demand3, Demand3OfBytes}
use Rattle.exported.proofs.Ends.{leaves_of}

-- ---- one user
module _ (ks fs : List ℕ) where
  given_same : (c : Call) (e : List ℕ) → given ks fs c e ≡ client.given sixteen ks fs c (end_at e)
  unfolding given client.given end_number PartIsReply
  given_same (send o) e = refl
  given_same (ask v r) e =
      let part = part_is_reply (end_at e) ks v r in λ i. record { number = part.number i; out = part.shares i }

  left_same : (c : Call) (e : List ℕ) → length e ≡ end_length → end_at (end_leaves (end_call ks fs c) e) ≡ client.left sixteen ks fs c (end_at e)
  unfolding end_call end_leaves client.left EndsStand
  left_same (send o) e l = (ends_stand e l).first_stands ks fs (length o)
  left_same (ask v r) e l = (ends_stand e l).reply_stands ks v r

  history_same : (cs : List Call) (e : List ℕ) → length e ≡ end_length → history ks fs cs e ≡ client.history sixteen ks fs cs (end_at e)
  unfolding history client.history
  history_same [] e l = refl
  history_same (c ∷ cs) e l =
      let rest = history_same cs _ (leaves_of e l (end_call ks fs c)).long ∙ ap (client.history sixteen ks fs cs) (left_same c e l) in
      λ i. given_same c e i ∷ rest i

-- from the array that start leaves
end_given : (n : ℕ) (p : Plan) (k m r : ℕ) (e ks fs : List ℕ) (cs : List Call) → let b = begun_with n (fresh_end p k (code_use m) r) in
    calls_of b.number (after b.number (fresh_numbers p k m r) e) ks fs cs ≡ client.calls_of sixteen b.client ks fs cs
unfolding after calls_of client.calls_of end_at code_stage stage_of_number
end_given zero p k m r e ks fs cs = ap (λ (gs : List Given). record { key = ks; given = gs }) (history_same ks fs cs (fresh_numbers p k m r) refl)
end_given (suc n) p k m r e ks fs cs = refl

pub same_given : SameGiven
unfolding SameGiven calls client.calls start_left
same_given p n r xs fs k l cs = end_given _ p k n r l.end _ fs cs

pub shown_is_sent : ShownIsSent
unfolding ShownIsSent client-shown.ShownIsSent SameGiven
shown_is_sent p n own v k xs fs l cs good ok lo hi figures room one =
    same_given p n own xs fs k l cs ∙ proved.shown_is_sent p (code_use n) own v k xs fs l.key_buffer cs good ok lo hi figures room one

-- ---- all users
module _ (p : Plan) (n : (k : ℕ) → ℕ) (own v c : ℕ) where
  seen_same : (xs : List ℕ) (x : Table) (l : (k : ℕ) → Lent) (cs : (k : ℕ) → List Call)
      → seen p n own c xs x l cs ≡ client-shown.seen sixteen p (λ k. code_use (n k)) own c xs x (λ k. (l k).key_buffer) cs
  unfolding seen client-shown.seen SameGiven
  seen_same xs x l cs = λ i. record {
    handed = map (λ k. (same_given p (n k) own xs (x k) k (l k) (cs k) i).given) (span p.users 1);
    keys = map (λ k. (same_given p (n k) own xs (x k) k (l k) (cs k) i).key) (users_in (plan_of p) c);
  }

  both_same : (x y : Table) (xs ys : List ℕ) → client-shown.SameSeen sixteen p (λ k. code_use (n k)) own v c x y xs ys → SameSeen p n own v c x y xs ys
  unfolding SameSeen client-shown.SameSeen
  both_same x y xs ys same l cs room one = seen_same xs x l cs ∙ same (λ k. (l k).key_buffer) cs room one ∙ sym (seen_same ys y l cs)

-- THE THIRD DEMAND: the partners are those of the program's own calls
pub demand_3 : Demand3
unfolding Demand3 client-shown.Demand3
demand_3 p n own good v c x y ok lt few rows-x rows-y alike =
    let m = proved.demand_3 p (λ k. code_use (n k)) own good v c x y ok lt few rows-x rows-y alike in
    record {
      partner = m.partner;
      back = m.back;
      stays = m.stays;
      one_to_one = m.one_to_one;
      same = λ xs ok. both_same p n own v c x y xs (m.partner xs) (m.same xs ok);
    }

-- THE THIRD DEMAND FROM RAW BYTES
pub demand_3_of_bytes : Demand3OfBytes
unfolding Demand3OfBytes client-shown.Demand3OfBytes
demand_3_of_bytes p n own m good v c x y ok lt few rows-x rows-y alike =
    let b = proved.demand_3_of_bytes p (λ k. code_use (n k)) own m good v c x y ok lt few rows-x rows-y alike in
    record { matched = b.matched; same = λ s o o' d e e'. both_same p n own v c x y _ _ (b.same s o o' d e e') }
