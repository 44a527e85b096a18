-- Calls on lent arrays are runs of document 01's service.
--   step_right      one call, on arrays that stand for a well-formed state
--   run_formed, zeros_formed    a list of calls keeps them so, and zeros are such
--   runs_right, opens_as_new    the statements of specs/Runs.antt
-- Assumes nothing.
use mathlib.Core.Path.{◌≡◌, sym, ap, ◌∙◌, subst}
use mathlib.Core.Bool.{true}
use mathlib.Core.List.{List, [], ◌∷◌, map}
use Prim.Native.Nat.{ℕ}
use lib.Dec.{lit<}
use lib.ListN.{take}
use Rattle.scheme.specs.Scheme.{sixteen, plan_good, places, after, unless, ◌then◌}
use Rattle.scheme.specs.Service.{State, has_plan, second_plan, Answer, totalled, Record, finish_record, Runs, done, more}
use Rattle.scheme.proofs.Refusals.{then_zero, after_taken}
use Rattle.scheme.proofs.Pooling.Well.{plan_here}
use Rattle.solve.specs.Solve.{laws16}
use Rattle.plan.specs.declared.Plan.{Plan}
use Rattle.plan.specs.Plan.{plan_of}
use Rattle.service.specs.declared.Service.{Service}
use Rattle.service.specs.View.{phase_of, view, Formed}
use Rattle.service.specs.Calls.{Stepped}
use Rattle.service.specs.Calls.{new_service, plan_refusal, planned, plan_step, open_refusal, open_step, first_step, reply_step}
use Rattle.service.specs.Promise.{IsStep, NewFormed, PlanSteps, OpenSteps, FirstSteps, ReplySteps, CloseSteps}
use Rattle.service.specs.Promise as calls
use Rattle.service.proofs.Steps.{told_after, new_formed, plan_steps, open_steps, first_steps, reply_steps, close_steps}
use Rattle.service.proofs.Steps as proved
use Rattle.finish.specs.Promise.{FinishSteps}
use Rattle.finish.specs.Finish.{finish_step}
use Rattle.finish.proofs.Steps.{finish_steps}
use Rattle.capi.specs.Lent.{Arrays, arrays_of, zeros, state, plan_left, open_left, finish_totals}
use Rattle.capi.specs.Promise.{NewStands}
use Rattle.capi.proofs.Stands.{new_stands, calls_stand}
use Rattle.exported.specs.Runs.{Call, plan_call, open_call, first_call, close_call, reply_call, finish_call, record_of, plan_in, number_of, leaves, handed, answer_to, run, answers, RunsRight, OpensAsNew}

-- the state that the service's own call hands back is the one that the arrays stand for
module _ (a : Arrays) (w : Formed sixteen (state a)) where
  stands : {r : Record} {b : Answer} {s t : Service} → t ≡ s → IsStep sixteen r (state a) b s → IsStep sixteen r (state a) b t
  stands {r} {b} e h = subst (IsStep sixteen r (state a) b) (sym e) h

  pub step_right : (c : Call) → IsStep sixteen (record_of c) (state a) (answer_to c a) (state (leaves c a))
  unfolding record_of number_of leaves handed first_step reply_step finish_totals PlanSteps OpenSteps FirstSteps ReplySteps CloseSteps FinishSteps
  step_right (plan_call p) = stands ((calls_stand a).plan_stands p) (plan_steps sixteen (state a) p w)
  step_right (open_call r) = stands ((calls_stand a).open_stands r) (open_steps sixteen (state a) r w)
  step_right (first_call k i x) = stands ((calls_stand a).first_stands k i x) (first_steps sixteen (state a) k i x w)
  step_right close_call = stands (calls_stand a).close_stands (close_steps sixteen (state a) w)
  step_right (reply_call k b x) = stands ((calls_stand a).reply_stands k b x) (reply_steps sixteen (state a) k b x w)
  step_right (finish_call o) =
      let t = finish_step sixteen laws16 (state a) in
      let say : List ℕ → Answer = λ l. totalled (state a).head.round t.aside (take (places (plan_of (plan_in a))) l) in
      stands (calls_stand a).finish_stands
      (subst (λ (b : Answer). IsStep sixteen finish_record (state a) b t.service) (sym (told_after say t.number t.totals o))
      (finish_steps sixteen laws16 (state a) w))

pub run_formed : (cs : List Call) (a : Arrays) → Formed sixteen (state a) → Formed sixteen (state (run cs a))
unfolding run
run_formed [] a w = w
run_formed (c ∷ cs) a w = run_formed cs (leaves c a) (step_right a w c).formed

run_steps : (cs : List Call) (a : Arrays) → Formed sixteen (state a) → Runs sixteen (map record_of cs) (view (state a)) (answers cs a) (view (state (run cs a)))
unfolding run answers
run_steps [] a w = done _
run_steps (c ∷ cs) a w = let h = step_right a w c in more _ _ _ _ _ _ _ h.step (run_steps cs (leaves c a) h.formed)

-- ---- from zeros
pub zeros_formed : Formed sixteen (state zeros)
unfolding NewFormed NewStands
zeros_formed = subst (Formed sixteen) (sym new_stands.1) (new_formed sixteen (lit< tt)).1

pub runs_right : RunsRight
unfolding RunsRight NewFormed NewStands
runs_right cs =
    record {
      runs = subst (λ (s : State). Runs sixteen (map record_of cs) s (answers cs zeros) (view (state (run cs zeros))))
          (ap view new_stands.1 ∙ (new_formed sixteen (lit< tt)).0)
          (run_steps cs zeros zeros_formed);
      formed = run_formed cs zeros zeros_formed;
    }

-- zeros take every good plan
plan_taken : (p : Plan) → plan_good (plan_of p) ≡ true → state (plan_left zeros p) ≡ planned p
unfolding NewStands plan_step plan_refusal second_plan new_service phase_of has_plan after unless ◌then◌
plan_taken p g = (calls_stand zeros).plan_stands p ∙ ap (λ (s : Service). (plan_step s p).service) new_stands.1 ∙ rw g

pub opens_as_new : OpensAsNew
unfolding OpensAsNew run leaves number_of open_left calls.OpensAsNew open_step open_refusal view phase_of
opens_as_new cs r e =
    let a = run cs zeros in
    let p = plan_in a in
    let w = run_formed cs zeros zeros_formed in
    let same = proved.opens_as_new sixteen (state a) r w e in
    let new : open_step (state (plan_left zeros p)) r ≡ open_step (planned p) r =
    ap (λ (s : Service). open_step s r) (plan_taken p (w.well.good (plan_here _ (then_zero _ _ e).0))) in
    after_taken e _ a ∙ ap (λ (t : Stepped). arrays_of t.service) (same ∙ sym new)
    ∙ sym (after_taken (ap (λ (t : Stepped). t.number) (new ∙ sym same) ∙ e) _ _)
