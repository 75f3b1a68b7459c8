-- Cable trial: values by computing. Assumes nothing.
use Rattle.std.specs.Prelude.{replicate}
use mathlib.Core.Path.{◌≡◌, refl}
use mathlib.Core.Bool.{xor}
use mathlib.Core.List.{[], ◌∷◌}
use lib.Ieee.{lt, add, sub, mul, div, of_int, is_nan}
use Rattle.laws.specs.Floats.{nought, negative, magnitude}
use Rattle.laws.specs.Range.{every, some, sum, xor_sum, count, collect, first, folded}
use Rattle.laws.specs.Columns.{information_columns, parity_row}
use Rattle.laws.specs.Run.{next, run}
use Rattle.laws.specs.Written.{tabulate, rewritten}
use Rattle.refusals.specs.Outcome.{refused, if_length}
use Rattle.tables.specs.Flat.{row_list, shift_list}
use Rattle.tables.specs.Graph.{graph_number, base_columns, info_columns, base_rows, first_column, entry_at, row_at, shift_at, shape_of, graph_of}
use Rattle.matrix.specs.Edges.{edges, edge_row, edge_column, edge_shift, bit_at, row_edges, edges_by_row, slot_of}
use Rattle.matrix.specs.Checks.{row_sum, check_sum, unmet, is_sent, place_of, lifted}
use Rattle.matrix.specs.Encoding.{bit, info_sum, total_sum, first_parity, parity_bit, encoding}
use Rattle.rule.specs.Rule.{started, taken, answered}
use Rattle.messages.specs.Memory.{bits_of, slots_of, to_checks_at, to_bits_at}
use Rattle.messages.specs.Iteration.{gathered, answer, to_bit, check_pass, added, total, total_pass, to_check, send_pass, iteration, decision, settled}
use Rattle.shifts.specs.Generator.{next_state, state_after}
use Rattle.ldpc.specs.declared.choice.Code.{Code}
use Rattle.ldpc.specs.Choice.{lift_of, serves, code_of, family_code, tried_from, chosen}
use Rattle.ldpc.specs.Code.{code_graph, info_end, checks_of, work_of}
use Rattle.coder.specs.Calls.{encoding_of, unsatisfied_of}
use Rattle.channel.specs.Channel.{channel_of, start_memory}
use Rattle.word.specs.Word.{word_of}
use Rattle.decoder.specs.Calls.{if_work}
use Rattle.decoder.specs.Decoding.{result_of}
use Rattle.ahead.specs.Schedules.{factor_of, step}
use Rattle.ahead.specs.Decoder.{iterated, unbroken}
use Rattle.ahead.specs.CableTrial.{draw, info_drawn, is_reversed, heard_block, block_run, block_record, records_from, trial_outcome, heading, report}
use Rattle.ahead.proofs.FiveTen.{five_ten}

zero_four : Code
zero_four = record { rate = 0; n_tx = 4; family = 1; z = 1; k = 1; shortened = 16 }

-- ---- the draws of a block whose state is 1 at first; 43,254 is itself a draw, and no reversal at that setting
draws : (info_drawn (five_ten 5) 1 ≡ 0 ∷ 1 ∷ 0 ∷ [])
    × (tabulate (λ i. bit (is_reversed (five_ten 5) 43254 1 i)) 10 ≡ 0 ∷ 1 ∷ 0 ∷ 1 ∷ 0 ∷ 1 ∷ 1 ∷ 1 ∷ 0 ∷ 0 ∷ [])
unfolding five_ten draw info_drawn state_after next_state tabulate
draws = (refl, refl)

-- ---- two blocks of (5,10), setting 6554, seed 1; the report of five blocks of (0,4), setting 9000, seed 0
trials : (records_from (five_ten 5) 6554 1 (replicate 68 nought) 2 ≡ 0 ∷ 1 ∷ 1 ∷ 1 ∷ 1 ∷ 1 ∷ 1 ∷ 1 ∷ 1 ∷ 1 ∷ [])
    × (report (records_from zero_four 9000 0 (replicate 400 nought) 5) 5 ≡ 5 ∷ 2 ∷ 54 ∷ 4 ∷ 0 ∷ 0 ∷ 1 ∷ [])
unfolding xor lt add sub mul div of_int is_nan every some sum xor_sum count collect first folded
    information_columns parity_row tabulate rewritten negative magnitude next run row_list shift_list
    graph_number base_columns info_columns base_rows first_column entry_at row_at shift_at shape_of graph_of
    edges edge_row edge_column edge_shift bit_at row_edges edges_by_row slot_of row_sum check_sum unmet
    is_sent place_of lifted started taken answered bits_of slots_of to_checks_at to_bits_at gathered answer
    to_bit check_pass added total total_pass to_check send_pass iteration decision settled code_graph info_end
    checks_of unsatisfied_of channel_of start_memory word_of result_of factor_of step iterated unbroken
    five_ten zero_four draw info_drawn heard_block block_run block_record records_from state_after next_state
    encoding_of encoding info_sum total_sum first_parity parity_bit heading report
trials = (refl, refl)

report_is : report (0 ∷ 1 ∷ 1 ∷ 1 ∷ 1 ∷ 2 ∷ 50 ∷ 0 ∷ 0 ∷ 1 ∷ 0 ∷ 3 ∷ 0 ∷ 1 ∷ 0 ∷ []) 3
    ≡ 3 ∷ 2 ∷ 54 ∷ 1 ∷ 1 ∷ 0 ∷ 1 ∷ []
unfolding report heading sum count
report_is = refl

-- ---- the order of the refusals
refusals : (trial_outcome 9 19441 0 65536 0 0 ≡ refused 19 0 1)
    × (trial_outcome 9 19441 1001 65536 0 0 ≡ refused 19 1001 1000)
    × (trial_outcome 9 19441 1 65536 0 0 ≡ refused 19 65536 65535)
    × (trial_outcome 9 19441 1 65535 0 0 ≡ refused 2 19441 19440)
    × (trial_outcome 9 21 1 65535 0 0 ≡ refused 1 1 21)
    × (trial_outcome 9 10 2 0 9 67 ≡ refused 9 9 10)
    × (trial_outcome 9 10 2 0 10 67 ≡ refused 8 67 68)
unfolding chosen tried_from family_code serves lift_of code_of shape_of graph_number base_columns info_columns
    base_rows information_columns graph_of edges tabulate code_graph work_of if_length if_work trial_outcome
refusals = (refl, refl, refl, refl, refl, refl, refl)
