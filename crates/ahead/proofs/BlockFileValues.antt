-- Block file: values by computing. Assumes nothing.
use Rattle.std.specs.Prelude.{Ok, replicate}
use mathlib.Core.Path.{◌≡◌, refl, ◌∙◌}
use mathlib.Core.Bool.{true, xor}
use mathlib.Core.List.{List, [], ◌∷◌}
use Prim.Native.Nat.{ℕ, ◌<◌}
use native.Mathlib.Omega.{arith}
use lib.ListN.{length}
use lib.Ieee.{Float, lt, add, sub, mul, div, of_int, is_nan}
use borrow.Author.Tests.{lt-leb, le-ltb}
use Rattle.laws.specs.Floats.{nought, negative, magnitude}
use Rattle.laws.specs.Range.{every, some, sum, xor_sum, count, collect, first, folded}
use Rattle.laws.specs.Columns.{information_columns, parity_row}
use Rattle.laws.specs.Run.{next, run}
use Rattle.laws.specs.Written.{tabulate, rewritten}
use Rattle.laws.proofs.First.{first_at}
use Rattle.laws.proofs.Range.{lt_at}
use Rattle.refusals.specs.Outcome.{refused, if_length}
use Rattle.tables.specs.Flat.{row_list, shift_list}
use Rattle.tables.specs.Graph.{graph_number, base_columns, info_columns, base_rows, first_column, entry_at, row_at, shift_at, shape_of, graph_of}
use Rattle.matrix.specs.Edges.{edges, edge_row, edge_column, edge_shift, bit_at, row_edges, edges_by_row, slot_of}
use Rattle.matrix.specs.Checks.{row_sum, check_sum, unmet, is_sent, place_of, lifted}
use Rattle.matrix.specs.Encoding.{info_sum, total_sum, first_parity, parity_bit, encoding}
use Rattle.rule.specs.Rule.{started, taken, answered}
use Rattle.messages.specs.Memory.{bits_of, slots_of, to_checks_at, to_bits_at}
use Rattle.messages.specs.Iteration.{gathered, answer, to_bit, check_pass, added, total, total_pass, to_check, send_pass, iteration, decision, settled}
use Rattle.ldpc.specs.declared.choice.Code.{Code}
use Rattle.ldpc.specs.Choice.{lift_of, serves, code_of, family_code, tried_from, chosen}
use Rattle.ldpc.specs.Code.{code_graph, info_end, checks_of, work_of}
use Rattle.coder.specs.Calls.{encoding_of, unsatisfied_of}
use Rattle.channel.specs.Channel.{channel_of, start_memory}
use Rattle.word.specs.Word.{word_of}
use Rattle.decoder.specs.Calls.{if_work}
use Rattle.decoder.specs.Decoding.{result_of}
use Rattle.ahead.specs.Schedules.{factor_of, step}
use Rattle.ahead.specs.Decoder.{iterated, unbroken}
use Rattle.ahead.specs.BlockFile.{is_long_enough, block_of, bit_in, bytes_of, head_of, info_of, file_of, if_block, write_outcome, if_known, if_length_and_spares, file_tests, heard_file, file_run, if_clean, read_file_outcome}
use Rattle.ahead.proofs.BlockLengths.{k_of, is_enough}

-- ---- the files of one byte, 161, in both classes
four_nineteen : Code
four_nineteen = record { rate = 4; n_tx = 19; family = 1; z = 1; k = 8; shortened = 1 }

one_thirteen : Code
one_thirteen = record { rate = 1; n_tx = 13; family = 1; z = 1; k = 8; shortened = 7 }

files : (file_of four_nineteen 0 (161 ∷ []) ≡ 71 ∷ 80 ∷ 66 ∷ 1 ∷ 0 ∷ 0 ∷ 1 ∷ 0 ∷ 161 ∷ 211 ∷ 32 ∷ [])
    × (file_of one_thirteen 1 (161 ∷ []) ≡ 71 ∷ 80 ∷ 66 ∷ 1 ∷ 0 ∷ 1 ∷ 1 ∷ 0 ∷ 161 ∷ 168 ∷ [])
unfolding file_of head_of bytes_of info_of bit_in encoding_of encoding info_sum total_sum first_parity
    parity_bit four_nineteen one_thirteen xor sum xor_sum first tabulate information_columns parity_row
    row_list shift_list graph_number base_columns info_columns base_rows first_column entry_at row_at shift_at
    shape_of graph_of edges edge_row edge_column edge_shift bit_at row_sum is_sent place_of lifted code_graph
files = (refl, refl)

-- ---- refused before the block is looked for
file_refusals : (file_tests [] 0 [] ≡ refused 17 0 8)
    × (file_tests (replicate 7 9) 0 [] ≡ refused 17 7 8)
    × (file_tests (replicate 8 9) 0 [] ≡ refused 16 0 9)
    × (file_tests (71 ∷ 80 ∷ 98 ∷ 1 ∷ 0 ∷ 0 ∷ 1 ∷ 0 ∷ []) 0 [] ≡ refused 16 2 98)
    × (file_tests (71 ∷ 80 ∷ 66 ∷ 2 ∷ 0 ∷ 0 ∷ 1 ∷ 0 ∷ []) 0 [] ≡ refused 16 3 2)
    × (file_tests (71 ∷ 80 ∷ 66 ∷ 1 ∷ 1 ∷ 0 ∷ 1 ∷ 0 ∷ []) 0 [] ≡ refused 16 4 1)
    × (file_tests (71 ∷ 80 ∷ 66 ∷ 1 ∷ 0 ∷ 2 ∷ 1 ∷ 0 ∷ []) 0 [] ≡ refused 16 5 2)
    × (file_tests (71 ∷ 80 ∷ 66 ∷ 1 ∷ 0 ∷ 1 ∷ 0 ∷ 0 ∷ 161 ∷ []) 0 [] ≡ refused 17 9 0)
    × (write_outcome 2 [] 0 ≡ refused 16 5 2)
    × (write_outcome 1 [] 0 ≡ refused 17 0 0)
unfolding first head_of if_known if_block file_tests write_outcome
file_refusals = (refl, refl, refl, refl, refl, refl, refl, refl, refl, refl)

-- ---- the block of one byte in class 1, and what is refused after it is found
chosen_is : chosen 1 13 ≡ Ok one_thirteen
unfolding one_thirteen chosen tried_from family_code serves lift_of code_of shape_of graph_number base_columns
    info_columns base_rows information_columns
chosen_is = refl

thirteen : (is_long_enough 1 1 13 ≡ true) × ((j : ℕ) → j < 13 → k_of 1 j < 8)
unfolding is_long_enough k_of every chosen tried_from family_code serves lift_of code_of shape_of graph_number
    base_columns info_columns base_rows information_columns
thirteen = (refl, lt_at (k_of 1) (λ j. 8) 13 tt)

block_is : block_of 1 1 ≡ 13
unfolding block_of
block_is =
    first_at (is_long_enough 1 1) 19441 13 (omega arith) thirteen.0
    (λ j h. is_enough 1 1 (omega arith) j ∙ lt-leb 8 (k_of 1 j) (thirteen.1 j h))

-- a file with that block's head, of any rest
file : List ℕ → List ℕ
file rest = 71 ∷ 80 ∷ 66 ∷ 1 ∷ 0 ∷ 1 ∷ 1 ∷ 0 ∷ rest

tests_are : (rest : List ℕ) (room : ℕ) (w : List Float) → let c = one_thirteen in
    file_tests (file rest) room w
    ≡ if_length_and_spares c (file rest) (if_length 9 room 1 (if_work c (length w) (Ok c)))
unfolding file file_tests if_known if_block first head_of
tests_are rest room w = rw (le-ltb (length (file rest)) 8 (omega arith), block_is, chosen_is) refl

numbers : ℕ → List Float
numbers n = replicate n nought

later_refusals : (file_tests (file (161 ∷ [])) 2 (numbers 151) ≡ refused 17 9 10)
    × (file_tests (file (161 ∷ 169 ∷ [])) 2 (numbers 151) ≡ refused 17 10 10)
    × (file_tests (file (161 ∷ 168 ∷ [])) 2 (numbers 151) ≡ refused 9 2 1)
    × (file_tests (file (161 ∷ 168 ∷ [])) 1 (numbers 151) ≡ refused 8 151 152)
    × (write_outcome 1 (161 ∷ []) 9 ≡ refused 9 9 10)
unfolding numbers file one_thirteen if_length_and_spares if_length if_work bit_in every work_of code_graph
    graph_of shape_of graph_number base_columns info_columns base_rows information_columns edges write_outcome
    if_block
later_refusals = (
  tests_are (161 ∷ []) 2 (numbers 151),
  tests_are (161 ∷ 169 ∷ []) 2 (numbers 151),
  tests_are (161 ∷ 168 ∷ []) 2 (numbers 151),
  tests_are (161 ∷ 168 ∷ []) 1 (numbers 151),
  rw (block_is, chosen_is) refl,
)

not_clean : read_file_outcome (file (225 ∷ 168 ∷ [])) 1 (numbers 152) ≡ refused 18 50 3
unfolding xor lt add sub mul div of_int is_nan every some sum xor_sum count collect first folded
    information_columns parity_row tabulate rewritten negative magnitude next run row_list shift_list
    graph_number base_columns info_columns base_rows first_column entry_at row_at shift_at shape_of graph_of
    edges edge_row edge_column edge_shift bit_at row_edges edges_by_row slot_of row_sum check_sum unmet
    is_sent place_of lifted started taken answered bits_of slots_of to_checks_at to_bits_at gathered answer
    to_bit check_pass added total total_pass to_check send_pass iteration decision settled code_graph info_end
    checks_of work_of unsatisfied_of channel_of start_memory word_of result_of factor_of step iterated
    unbroken numbers file one_thirteen if_length_and_spares if_length if_work bit_in heard_file file_run
    if_clean read_file_outcome
not_clean = rw (tests_are (225 ∷ 168 ∷ []) 1 (numbers 152)) refl
