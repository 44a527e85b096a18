-- Document 01's example round through the exported calls, by computation.
--   example_right   the statement of specs/Example.antt
-- Assumes nothing.
use mathlib.Core.Path.{refl}
use Rattle.algebra.specs.Residue.{inverse, inverse_from}
use Rattle.scheme.specs.Lists as Lists
use Rattle.scheme.specs.Scheme as Scheme
use Rattle.scheme.specs.Lists.{padded}
use Rattle.scheme.specs.Scheme.{unless}
use Rattle.scheme.specs.Totals as Totals
use Rattle.scheme.specs.Service as Service
use Rattle.scheme.specs.Modular.{modular_laws}
use Rattle.scheme.specs.Solve.{unknown_at}
use Rattle.client.specs.Client as Client
use Rattle.client.specs.History.{out_at}
use Rattle.service.specs.View as View
use Rattle.service.specs.Calls as Calls
use Rattle.service.specs.Promise.{told}
use Rattle.finish.specs.Finish as Finish
use Rattle.capi.specs.Ends as Ends
use Rattle.capi.specs.Lent as Lent
use Rattle.exported.specs.Runs.{number_of, leaves, handed, answers}
use Rattle.exported.specs.Ends.{end_number, end_leaves}
use Rattle.exported.specs.Shown.{end_call, given, history, calls_of, calls}
use Rattle.exported.specs.Example.{example_given, example_calls, ExampleRight}

pub example_right : ExampleRight
unfolding inverse inverse_from modular_laws padded unknown_at
    Scheme.reach Scheme.figure_bound Scheme.within
    Lists.rank Scheme.elements Scheme.sum Scheme.plan_good Scheme.items Scheme.places Scheme.is_user Scheme.in_set Scheme.ones Scheme.usable Scheme.usable_with
    Scheme.users_in Scheme.usable_sets Scheme.sets_with Scheme.list_length Scheme.mask Scheme.noise_start Scheme.noise Scheme.column Scheme.row_value
    Scheme.share Scheme.shares Scheme.key Scheme.key_length Scheme.first_message Scheme.reply_start Scheme.◌then◌ unless
    Scheme.is_fresh Scheme.open_to Scheme.start_refusal Scheme.key_refusal Scheme.figures_good Scheme.message_refusal Scheme.reply_refusal Scheme.after
    Lists.all_of Totals.explains Totals.explains_all Totals.total_of Totals.totals
    Service.has_plan Service.is_gathering Service.is_replying Service.plan_missing Service.second_plan Service.not_gathering Service.not_replying
    Service.element_refusal Service.is_held Service.element_of Service.takes Service.set_of Service.complete_set Service.gathered
    Service.replied Service.totals_by
    Client.stage_of Client.stage_of_number Client.stage_number
    View.phase_of View.stored View.look View.view
    Calls.nothing_first Calls.nothing_reply Calls.plan_refusal Calls.planned Calls.plan_step Calls.open_refusal Calls.opened
    Calls.open_step Calls.first_refusal Calls.first_left Calls.reply_refusal Calls.reply_left Calls.close_refusal
    Calls.closed Calls.close_step told
    Finish.rows_of Finish.values_of Finish.all_elements Finish.choice_of Finish.agree Finish.aside_of Finish.heard Finish.is_settled
    Finish.choice Finish.finish_refusal Finish.finish_answer Finish.finish_step Finish.finished
    Ends.code_stage Ends.end_at Ends.start_left Ends.kept Ends.part_by
    Lent.phase_at Lent.phase_number Lent.head_at Lent.numbers Lent.plan_left Lent.open_left Lent.close_left Lent.finish_left Lent.finish_totals
    number_of leaves handed answers out_at end_number end_leaves end_call given history calls_of calls example_given example_calls
example_right = record { user_1 = refl; user_2 = refl; user_3 = refl; answered = refl }
