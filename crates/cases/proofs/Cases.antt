-- The table of examples holds: every row by computation, but for the rounds that come after the last number.
--   cases   THE TABLE
-- Assumes nothing.
use mathlib.Core.Path.{refl, ap}
use mathlib.Core.Bool.{Bool}
use borrow.Author.Tests.{le-ltb}
use Rattle.algebra.specs.Field.{sub}
use Rattle.algebra.specs.Residue.{inverse, inverse_from}
use Rattle.scheme.specs.Lists as Lists
use Rattle.scheme.specs.Scheme as Scheme
use Rattle.scheme.specs.Lists.{padded}
use Rattle.scheme.specs.Scheme.{unless}
use Rattle.scheme.specs.Drawn as Drawn
use Rattle.scheme.specs.Promise.{shown}
use Rattle.scheme.specs.Signed as Signed
use Rattle.scheme.specs.Totals as Totals
use Rattle.scheme.specs.Aside as Aside
use Rattle.scheme.specs.Delta as Delta
use Rattle.scheme.specs.Service as Service
use Rattle.scheme.specs.Modular.{modular_laws}
use Rattle.scheme.specs.Solve.{unknown_at}
use Rattle.plan.specs.Lengths as Lengths
use Rattle.client.specs.Client as Client
use Rattle.reading.specs.Reading as Reading
use Rattle.service.specs.View as View
use Rattle.service.specs.Calls as Calls
use Rattle.finish.specs.Finish as Finish
use Rattle.cases.specs.Cases.{drawn, key_from, key_of, message, sent_by, changed, asked_for, answered_in, in_turn, looked_up, tried, planned, opened, firsts, replies, pooled, first_numbers, reply_numbers, closed_5, finished_5, finish_tells, finish_tells_5, finish_tells_7, four, finish_tells_four, Cases}

pub cases : Cases
unfolding drawn key_from key_of message sent_by changed asked_for answered_in in_turn looked_up tried planned opened firsts replies pooled
    first_numbers reply_numbers closed_5 finished_5 finish_tells finish_tells_5 finish_tells_7 four finish_tells_four
    sub inverse inverse_from modular_laws padded unknown_at shown
    Lengths.largest_figure Scheme.reach Scheme.figure_bound Scheme.within Scheme.is_near Scheme.near Scheme.figures_good
    Signed.residue Signed.meant Reading.reading Reading.residue_refusal Reading.residue_by
    Lists.rank Scheme.elements Scheme.sum Scheme.plan_good Scheme.items Scheme.places Scheme.is_user Scheme.in_set Scheme.ones Scheme.usable Scheme.usable_with
    Scheme.users_in Scheme.usable_sets Scheme.sets_with Scheme.list_length Scheme.mask Scheme.noise_start Scheme.noise Scheme.column Scheme.row_value
    Scheme.share Scheme.shares Scheme.key Scheme.key_length Scheme.first_message Scheme.reply_start Scheme.reply Scheme.◌then◌ unless
    Scheme.is_fresh Scheme.open_to Scheme.start_refusal Scheme.key_refusal Scheme.message_refusal Scheme.reply_refusal Scheme.lookup_refusal Scheme.after
    Drawn.numbers_in Drawn.elements_in Drawn.fills Drawn.drawn Drawn.list_refusal
    Lists.all_of Totals.explains Totals.explains_all Totals.total_of Totals.totals
    Delta.colluders_in Delta.kept Delta.unsolved Delta.shift Delta.delta Delta.translation Delta.difference Delta.table_delta Delta.partner
    Service.has_plan Service.is_gathering Service.is_replying Service.plan_missing Service.second_plan Service.not_gathering Service.not_replying
    Service.element_refusal Service.is_held Service.element_of Service.takes Service.set_of Service.complete_set Service.gathered
    Service.replied Service.totals_by Aside.without
    Client.stage_of Client.part_of
    View.phase_of View.stored View.look View.view
    Calls.nothing_first Calls.nothing_reply Calls.new_service Calls.plan_refusal Calls.planned Calls.plan_step Calls.open_refusal Calls.opened
    Calls.open_step Calls.first_refusal Calls.first_left Calls.first_step Calls.reply_refusal Calls.reply_left Calls.reply_step Calls.close_refusal
    Calls.closed Calls.close_step
    Finish.rows_of Finish.values_of Finish.all_elements Finish.choice_of Finish.agree Finish.fitting Finish.aside_of
    Finish.heard Finish.is_settled Finish.choice Finish.finish_refusal Finish.finish_answer Finish.finish_step Finish.finished
cases = record {
  inverses = refl;
  key_1 = refl;
  key_2 = refl;
  key_3 = refl;
  messages = refl;
  parts_5 = refl;
  parts_7 = refl;
  survivors_5 = refl;
  total_5 = refl;
  total_7_by_1_2 = refl;
  total_7_by_1_3 = refl;
  total_7_by_2_3 = refl;
  total_7_by_all = refl;
  wrong_7 = refl;
  wrong_5 = refl;
  good = refl;
  partner = refl;
  same_shown = refl;
  sum_wraps = refl;
  list_3 = refl;
  list_3_left = refl;
  figure_3 = refl;
  first_3 = refl;
  bounds = refl;
  figure_32 = refl;
  figure_32_left = refl;
  three = refl;
  eight = refl;
  last_figure = refl;
  three_first = refl;
  key_first = refl;
  signed_bounds = refl;
  signed_three = refl;
  signed_eight = refl;
  signed_three_first = refl;
  residues = refl;
  read_back = refl;
  half = refl;
  read_counts = refl;
  read_3 = refl;
  way_in = refl;
  way_in_1 = refl;
  changes_sent = refl;
  changes_total = refl;
  changes_read = refl;
  bytes_full = refl;
  bytes_skipped = refl;
  bytes_65520 = refl;
  bytes_31 = refl;
  bytes_2 = refl;
  bytes_1 = refl;
  sixteen_blocks = refl;
  seventeen_blocks = refl;
  threshold_is_users = refl;
  threshold_is_collusion = refl;
  list_4080 = refl;
  keys_2048 = refl;
  round_0 = refl;
  last_round = refl;
  none_after = λ r h. ap (λ (b : Bool). unless b 17) (le-ltb _ r h);
  set_1 = refl;
  set_5_of_2 = refl;
  set_5 = refl;
  then_set_7 = refl;
  started = refl;
  own_rounds = refl;
  high_bits = refl;
  low_bits = refl;
  of_round_0 = refl;
  of_last_round = refl;
  reply-order = refl;
  early_notices = refl;
  late_notices = refl;
  fresh_notices = refl;
  lookups_1 = refl;
  lookups_2 = refl;
  lookups_3 = refl;
  lookups_8 = refl;
  lookup_4 = refl;
  lookup_first = refl;
  first_repeats = refl;
  reply_repeats = refl;
  late_repeats = refl;
  not_survivor = refl;
  total-5-repeated = refl;
  all_four = refl;
  one_aside = refl;
  two_false = refl;
  two_agree = refl;
  three_of_four = refl;
  then-a-fourth = refl;
}
