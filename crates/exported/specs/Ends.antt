-- The exported calls of an airfield end one after the other, over the array that the caller lends, as their contracts have them.
--   EndCall                 a first message or a reply, with what it is given
--   end_number, end_leaves   the number that a call hands back, and the array that it leaves
--   messages                 how many first messages of a list of calls are taken
--   OnlyTo, OnlyFor        every reply of the list that is taken is to one set, and names one part; is for one round
--   OtherRound              a request for another round than the array's names no part, and leaves the array as it came
--   OneMessageOneSet, EndsRight    whatever the array holds, keys, figures, buffers, sets and rounds are, refused calls between: the array
--                            takes at most one first message, and answers one set, for the round that it held at first
-- Assumes nothing: these are definitions.
use Rattle.std.specs.Prelude.{◌≡◌, ◌≢◌, cond, List, [], ◌∷◌, ℕ, suc, ◌≤◌, eqb, length}
use Rattle.scheme.specs.Scheme.{sixteen}
use Rattle.client.specs.Client.{first_answer, reply_answer}
use Rattle.capi.specs.declared.ends.CutawhenoPart.{CutawhenoPart}
use Rattle.capi.specs.Ends.{end_length, end_at, kept, part_by, part_answer}

pub data EndCall : Type 0 where
  message_call : (key figures buffer : List ℕ) → EndCall
  answer_call : (key : List ℕ) → (set round : ℕ) → EndCall

unfoldable pub end_number : EndCall → (end : List ℕ) → ℕ
end_number (message_call ks fs o) e = (first_answer sixteen (end_at e) ks fs (length o)).number
end_number (answer_call ks v r) e = (part_answer (end_at e) ks v r).number

unfoldable pub end_leaves : EndCall → (end : List ℕ) → List ℕ
end_leaves (message_call ks fs o) e = kept (first_answer sixteen (end_at e) ks fs (length o)) e
end_leaves (answer_call ks v r) e = kept (reply_answer sixteen (end_at e) ks v r) e

unfoldable pub messages : List EndCall → (end : List ℕ) → ℕ
messages [] e = 0
messages (message_call ks fs o ∷ cs) e =
    let c = message_call ks fs o in
    let n = messages cs (end_leaves c e) in
    cond (eqb (end_number c e) 0) (suc n) n
messages (answer_call ks v r ∷ cs) e = messages cs (end_leaves (answer_call ks v r) e)

unfoldable pub OnlyTo : (set : ℕ) → CutawhenoPart → List EndCall → (end : List ℕ) → Type 0
OnlyTo v p [] e = Unit {0}
OnlyTo v p (message_call ks fs o ∷ cs) e = OnlyTo v p cs (end_leaves (message_call ks fs o) e)
OnlyTo v p (answer_call ks w r ∷ cs) e = let c = answer_call ks w r in
    (end_number c e ≡ 0 → (w ≡ v) × (part_answer (end_at e) ks w r ≡ p)) × OnlyTo v p cs (end_leaves c e)

unfoldable pub OnlyFor : (own : ℕ) → List EndCall → (end : List ℕ) → Type 0
OnlyFor own [] e = Unit {0}
OnlyFor own (message_call ks fs o ∷ cs) e = OnlyFor own cs (end_leaves (message_call ks fs o) e)
OnlyFor own (answer_call ks w r ∷ cs) e = let c = answer_call ks w r in (end_number c e ≡ 0 → r ≡ own) × OnlyFor own cs (end_leaves c e)

-- whatever array and key are lent, and whatever set is asked for
unfoldable pub OtherRound : Type 0
OtherRound =
    (e ks : List ℕ) (v r : ℕ) → r ≢ (end_at e).round →
    (end_number (answer_call ks v r) e ≢ 0) × (end_leaves (answer_call ks v r) e ≡ e) × ((part_answer (end_at e) ks v r).count ≡ 0)

-- the part is that of the plan and the user that the array held at first
pub record OneMessageOneSet (cs : List EndCall) (e : List ℕ) : Type 0 where
  pub one_message : messages cs e ≤ 1
  pub set : ℕ
  pub one_set : OnlyTo set (part_by 0 (end_at e) set) cs e
  pub one_round : OnlyFor (end_at e).round cs e

-- every array that can be lent has that length, also the one that start leaves
unfoldable pub EndsRight : Type 0
EndsRight = (cs : List EndCall) (e : List ℕ) → length e ≡ end_length → OneMessageOneSet cs e
