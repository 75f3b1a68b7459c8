-- The starred rows of the commissioning table hold of the definitions: one test, which the checker computes over the whole
-- table, and a law that gives it of each row. What a decode finds in its memory makes no difference. Assumes nothing.
use mathlib.Core.Path.{◌≡◌, refl}
use mathlib.Core.Bool.{xor}
use mathlib.Core.List.{List, [], ◌∷◌}
use Prim.Native.Nat.{ℕ, zero, suc, ◌<◌}
use native.Mathlib.Omega.{arith}
use mir.Facts.{and_yes}
use lib.Dec.{T}
use lib.ListN.{length, get_or}
use lib.Ieee.{Float, lt, add, mul}
use Rattle.laws.specs.Range.{sum, xor_sum, count, collect, folded}
use Rattle.laws.specs.Columns.{information_columns, parity_row}
use Rattle.laws.specs.Written.{tabulate, rewritten}
use Rattle.laws.specs.Floats.{negative, magnitude}
use Rattle.laws.specs.Run.{next, run}
use Rattle.tables.specs.Flat.{row_list, shift_list}
use Rattle.tables.specs.Graph.{graph_number, base_columns, info_columns, base_rows, first_column, entry_at, row_at, shift_at, shape_of, graph_of}
use Rattle.matrix.specs.Edges.{edges, edge_row, edge_column, edge_shift, bit_at, row_edges, edges_by_row, slot_of}
use Rattle.matrix.specs.Checks.{row_sum, check_sum, unmet, is_sent, place_of, lifted}
use Rattle.matrix.specs.Encoding.{info_sum, total_sum, first_parity, parity_bit, encoding}
use Rattle.rule.specs.Rule.{started, taken, answered}
use Rattle.messages.specs.Memory.{bits_of, slots_of, to_checks_at, to_bits_at}
use Rattle.messages.specs.Iteration.{gathered, answer, to_bit, check_pass, added, total, total_pass, send_pass, iteration, decision, settled}
use Rattle.ldpc.specs.Choice.{lift_of, serves, code_of, family_code, tried_from, chosen}
use Rattle.ldpc.specs.Code.{code_graph, info_end}
use Rattle.coder.specs.Calls.{encoding_of, unsatisfied_of}
use Rattle.channel.specs.Channel.{channel_of, start_memory}
use Rattle.word.specs.Word.{word_of}
use Rattle.runs.specs.Runs.{iterated, unbroken}
use Rattle.decoder.specs.Decoding.{result_of}
use Rattle.table.specs.Table.{Row, among, readings, table, same_word, is_refused, meets, has_sizes, same_result, reads_as, holds, all_hold}

-- it unfolds all that the rows compute with, from the lowest layer up
pub table_holds : (w : List Float) → T (all_hold w table)
unfolding xor lt add mul sum xor_sum count collect folded information_columns tabulate rewritten negative magnitude next run
    row_list shift_list graph_number base_columns info_columns base_rows first_column entry_at row_at shift_at shape_of graph_of
    edges parity_row edge_row edge_column edge_shift bit_at row_edges edges_by_row slot_of
    row_sum check_sum unmet is_sent place_of lifted info_sum total_sum first_parity parity_bit encoding
    started taken answered bits_of slots_of to_checks_at to_bits_at
    gathered answer to_bit check_pass added total total_pass send_pass iteration decision settled
    lift_of serves code_of family_code tried_from chosen code_graph info_end encoding_of unsatisfied_of
    channel_of start_memory iterated unbroken result_of word_of
    among readings table same_word is_refused meets has_sizes same_result reads_as holds all_hold
table_holds w = tt

-- there are thirteen
pub thirteen : length table ≡ 13
unfolding table
thirteen = refl

-- what holds of every row of a list holds of the row at each place (d stands for what lies past the end)
row_at_lem : (w : List Float) (rows : List Row) → T (all_hold w rows) → (d : Row) (i : ℕ) → i < length rows → T (holds w (get_or rows i d))
unfolding all_hold
row_at_lem w [] t d i h = absurd (omega arith)
row_at_lem w (row ∷ rows) t d zero h = (and_yes (holds w row) (all_hold w rows) t).0
row_at_lem w (row ∷ rows) t d (suc i) h = row_at_lem w rows (and_yes (holds w row) (all_hold w rows) t).1 d i (omega arith)

pub row_holds : (w : List Float) (d : Row) (i : ℕ) → i < 13 → T (holds w (get_or table i d))
row_holds w d i h = row_at_lem w table (table_holds w) d i (omega (arith, thirteen))
