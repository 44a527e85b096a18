-- Calls one after the other, over any arithmetic.
--   same_part           the same set asked again gets the same part
--   refused_unchanged   a refused call leaves client and buffer as they were, and no part
-- Assumes nothing.
use Rattle.std.proofs.Common.{refl, sym, ◌∙◌, eq-eqb}
use Rattle.scheme.specs.Scheme as scheme
use Rattle.scheme.specs.Scheme.{Arithmetic, is_fresh, open_to}
use Rattle.scheme.proofs.Refusals.{after_taken, after_refused}
use Rattle.client.specs.declared.Stage.TheVariants.{Answered}
use Rattle.client.specs.Client.{stage_of, part_of, part_start, at_stage}
use Rattle.client.specs.Promise.{SamePart, FirstUnchanged, ReplyUnchanged, RefusedUnchanged}
use Rattle.client.proofs.Laws.{reply_answers, reply_own, reply_taken}

pub same_part : (A : Arithmetic) → SamePart A
unfolding SamePart stage_of is_fresh open_to part_of part_start
same_part A c ks v r e =
    let a = reply_taken (reply_answers _ _ _ e) (scheme.answered v) _ _ refl (reply_own _ _ _ _ _ _ _ _ e) (eq-eqb v v refl) in
    let d = at_stage c (Answered v) in
    rw (after_taken e d c) (
      after_taken e _ _,
      λ i. record { number = a i; client = after_taken a d d i },
      after_taken a _ _ ∙ sym (after_taken e _ _),
      after_taken a _ _ ∙ sym (after_taken e _ _),
    )

pub refused_unchanged : (A : Arithmetic) → RefusedUnchanged A
unfolding RefusedUnchanged FirstUnchanged ReplyUnchanged part_of
refused_unchanged A = (λ c ks fs o h. (after_refused h _ c, after_refused h _ o), λ c ks v r h. (after_refused h _ c, after_refused h _ _))
