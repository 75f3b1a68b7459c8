-- Eighths, mid-block factor, preview, lowest count and layered schedule, on known values by computing: one
-- iteration of each schedule, a lowest count, and the refusals of each call in their order. Assumes nothing.
use Rattle.std.specs.Prelude.{Ok, Some, replicate, Err, None}
use mathlib.Core.Path.{◌≡◌, refl}
use mathlib.Core.Bool.{Bool, true, false, xor}
use mathlib.Core.List.{List, [], ◌∷◌}
use lib.ListN.{take}
use Prim.Native.Nat.{ℕ}
use lib.Dec.{eqb}
use lib.IntN.{pos, negsuc}
use lib.Ieee.{Float, fin, lt, add, sub, mul, div, of_int, is_nan}
use Rattle.laws.specs.Range.{every, some, sum, xor_sum, count, collect, first, folded}
use Rattle.laws.specs.Columns.{information_columns, parity_row}
use Rattle.laws.specs.Written.{tabulate, rewritten}
use Rattle.laws.specs.Floats.{nought, negative, magnitude}
use Rattle.laws.specs.Run.{Progress, next, run}
use Rattle.refusals.specs.Outcome.{refused, Outcome, if_length}
use Rattle.tables.specs.Flat.{row_list, shift_list}
use Rattle.tables.specs.Graph.{graph_number, base_columns, info_columns, base_rows, first_column, entry_at, row_at, shift_at, shape_of, graph_of}
use Rattle.matrix.specs.Edges.{edges, edge_row, edge_column, edge_shift, bit_at, row_edges, edges_by_row, slot_of}
use Rattle.matrix.specs.Checks.{row_sum, check_sum, unmet, is_sent, place_of, lifted}
use Rattle.rule.specs.Rule.{started, taken, answered}
use Rattle.messages.specs.Memory.{bits_of, slots_of, to_checks_at, to_bits_at}
use Rattle.messages.specs.Iteration.{gathered, answer, to_bit, check_pass, added, total, total_pass, to_check, send_pass, iteration, decision, settled}
use Rattle.messages.specs.Regions.{memory_of, numbers_of}
use Rattle.ldpc.specs.declared.choice.Code.{Code}
use Rattle.ldpc.specs.Choice.{lift_of, code_of, serves, family_code, tried_from, chosen, same_code, made, if_made}
use Rattle.ldpc.specs.Code.{code_graph, info_end, checks_of, work_of}
use Rattle.coder.specs.Calls.{unsatisfied_of}
use Rattle.channel.specs.Channel.{channel_of, start_memory}
use Rattle.word.specs.Word.{word_of}
use Rattle.ahead.specs.Schedules.{flooding, layered, factor_of, layer_to_check, layer_to_bit, layer_total, layer, layers, layered_iteration, step}
use Rattle.ahead.specs.Decoder.{Decode, iterated, unbroken, record_of, progress_of, eighths_in_force, run_of_grant, lowest_of, lowest_with_word, weighing_step, weighing_run, Lowest, no_lowest, first_lowest, Choices, lowest_after_grant, start_outcome, grant_outcome, read_outcome, preview_outcome, decode_outcome, outcome_by}
use Rattle.decoder.specs.Decoding.{result_of}
use Rattle.ahead.specs.Claim.{Accepted, sum_of, eighths_at}
use Rattle.decoder.specs.Calls.{if_work, if_sum}
use Rattle.ahead.specs.Refused.{if_eighths, if_new_eighths, if_slice}
use Rattle.ahead.proofs.FiveTen.{five_ten, record_at}

two_five : Code
two_five = record { rate = 2; n_tx = 5; family = 2; z = 1; k = 1; shortened = 5 }

zeros : ℕ → List Float
zeros n = replicate n nought

word_of_zeros : ℕ → List ℕ
word_of_zeros n = replicate n 0

-- ±1, and ±m / 2 ^ (e + 1)
up : Float
up = fin false 1 (pos 0)

down : Float
down = fin true 1 (pos 0)

plus : ℕ → ℕ → Float
plus m e = fin false m (negsuc e)

minus : ℕ → ℕ → Float
minus m e = fin true m (negsuc e)

heard : List Float
heard =
    up ∷ down ∷ up ∷ down ∷ up ∷ down ∷ up ∷ up ∷ up ∷ plus 1 0 ∷ []

-- all numbers of the work memory after one iteration at 7 eighths by each schedule, as a second implementation
-- has them
after_flooding : List Float
after_flooding =
    up ∷ down ∷ up ∷ down ∷ up ∷ down ∷ up ∷ up ∷ up ∷ plus 1 0 ∷ plus 1 2 ∷ minus 37 3 ∷ plus 37 3 ∷
    minus 9 3 ∷ up ∷ down ∷ up ∷ plus 11 1 ∷ plus 23 3 ∷ minus 5 1 ∷ up ∷ up ∷ minus 3 1 ∷ minus 23 3 ∷
    minus 11 1 ∷ minus 23 3 ∷ plus 11 1 ∷ plus 23 3 ∷ plus 23 3 ∷ minus 23 3 ∷ down ∷ plus 5 3 ∷ plus 1 2 ∷
    plus 15 2 ∷ minus 15 2 ∷ minus 1 2 ∷ plus 1 2 ∷ plus 15 2 ∷ plus 15 2 ∷ plus 15 2 ∷ plus 15 2 ∷
    plus 9 3 ∷ minus 3 2 ∷ minus 3 2 ∷ minus 7 2 ∷ minus 7 2 ∷ plus 7 2 ∷ minus 7 2 ∷ plus 7 3 ∷
    minus 7 2 ∷ minus 7 3 ∷ plus 7 2 ∷ plus 7 2 ∷ plus 7 2 ∷ plus 7 3 ∷ minus 7 2 ∷ plus 7 2 ∷ minus 7 2 ∷
    plus 7 2 ∷ minus 7 2 ∷ plus 7 2 ∷ minus 7 2 ∷ plus 7 2 ∷ plus 7 2 ∷ minus 7 3 ∷ plus 7 2 ∷ minus 7 2 ∷
    minus 7 2 ∷ []

after_layers : List Float
after_layers =
    up ∷ down ∷ up ∷ down ∷ up ∷ down ∷ up ∷ up ∷ up ∷ plus 1 0 ∷ plus 1 2 ∷ minus 235 7 ∷ plus 571 10 ∷
    minus 1495 10 ∷ up ∷ down ∷ up ∷ plus 29 5 ∷ minus 3 4 ∷ minus 101 8 ∷ up ∷ plus 1 2 ∷ minus 3 1 ∷
    down ∷ minus 39 4 ∷ minus 71 5 ∷ plus 29 5 ∷ up ∷ plus 71 5 ∷ down ∷ minus 463 8 ∷ minus 1 2 ∷
    plus 1 2 ∷ up ∷ minus 71 5 ∷ down ∷ plus 57 5 ∷ up ∷ plus 71 5 ∷ up ∷ plus 11 4 ∷ up ∷ plus 51 7 ∷
    plus 1 0 ∷ minus 7 2 ∷ minus 7 2 ∷ plus 7 2 ∷ minus 7 5 ∷ plus 77 7 ∷ minus 7 5 ∷ minus 357 10 ∷
    plus 7 5 ∷ minus 21 4 ∷ plus 7 2 ∷ plus 357 10 ∷ minus 399 8 ∷ plus 7 2 ∷ minus 7 2 ∷ plus 7 5 ∷
    minus 7 5 ∷ plus 7 5 ∷ minus 7 5 ∷ minus 21 4 ∷ plus 7 5 ∷ minus 7 3 ∷ minus 21 4 ∷ minus 203 8 ∷
    minus 77 7 ∷ []

-- of (2,5), whose word with the lowest count comes after the second of five iterations
heard_two_five : List Float
heard_two_five =
    up ∷ up ∷ up ∷ down ∷ down ∷ []

weighed_five : Progress Lowest
weighed_five =
    let w = start_memory two_five heard_two_five (zeros 80) in
    let p = weighing_run flooding (λ i. 6) two_five 5
    (record {
      memory = record { memory = w; lowest = first_lowest two_five w (Some (word_of_zeros 5)) };
      iterations = 0;
      converged = false;
    }) in
    record { memory = p.memory.lowest; iterations = p.iterations; converged = p.converged }

of_eighths : ℕ → Choices
of_eighths e = record { eighths = e; schedule = flooding }

has_eighths : ℕ → Outcome Decode → Bool
has_eighths e (Ok d) = eqb d.eighths e
has_eighths e (Err n) = false

-- the factor of an iteration; iterations; a lowest count; the refusals of start, grant, read, preview and the
-- one call
known_values : let l : List Accepted = record { g = 2; eighths = 3 } ∷ record { g = 0; eighths = 5 }
    ∷ record { g = 1; eighths = 8 } ∷ [] in
    (eighths_at l 1 ≡ 3) × (eighths_at l 2 ≡ 3) × (eighths_at l 3 ≡ 8) × (sum_of l ≡ 3)
    × (take 68 (unbroken flooding (λ i. 7) (five_ten 5) heard (zeros 70) 1).memory ≡ after_flooding)
    × (take 68 (unbroken layered (λ i. 7) (five_ten 5) heard (zeros 70) 1).memory ≡ after_layers)
    × (weighed_five.memory ≡ record { count = 1; at = 2; word = 1 ∷ 0 ∷ 1 ∷ 1 ∷ 1 ∷ [] })
    × (start_outcome (five_ten 7) (of_eighths 0) (zeros 9) (Some (word_of_zeros 9)) (zeros 67)
    ≡ refused 11 7 10)
    × (start_outcome (five_ten 5) (of_eighths 0) (zeros 9) (Some (word_of_zeros 9)) (zeros 67) ≡ refused 5 9 10)
    × (start_outcome (five_ten 5) (of_eighths 0) (zeros 10) (Some (word_of_zeros 9)) (zeros 67)
    ≡ refused 9 9 10)
    × (start_outcome (five_ten 5) (of_eighths 0) (zeros 10) (Some []) (zeros 67) ≡ refused 9 0 10)
    × (start_outcome (five_ten 5) (of_eighths 9) (zeros 10) (Some (word_of_zeros 10)) (zeros 67)
    ≡ refused 13 9 8)
    × (start_outcome (five_ten 5) (of_eighths 8) (zeros 10) None (zeros 67) ≡ refused 8 67 68)
    × (grant_outcome (record_at layered 6 0 65535 true) 1 (Some 9) (Some (word_of_zeros 9)) (zeros 67)
    ≡ refused 11 6 10)
    × (grant_outcome (record_at layered 5 0 65535 true) 1 (Some 9) (Some (word_of_zeros 9)) (zeros 67) ≡ refused 9 9 10)
    × (grant_outcome (record_at layered 5 0 65535 true) 1 (Some 9) (Some (word_of_zeros 10)) (zeros 67)
    ≡ refused 13 0 1)
    × (grant_outcome (record_at layered 5 1 65535 true) 1 (Some 9) (Some (word_of_zeros 10)) (zeros 67)
    ≡ refused 13 9 8)
    × (grant_outcome (record_at layered 5 1 65535 true) 1 (Some 2) (Some (word_of_zeros 10)) (zeros 67)
    ≡ refused 8 67 68)
    × (grant_outcome (record_at layered 5 1 65535 true) 1 (Some 2) (Some (word_of_zeros 10)) (zeros 68)
    ≡ refused 10 65536 65535)
    × (has_eighths 3 (grant_outcome (record_at layered 5 1 65535 false) 0 (Some 3) None (zeros 68)) ≡ true)
    × (has_eighths 1 (grant_outcome (record_at layered 5 1 65535 true) 0 (Some 3) None (zeros 68)) ≡ true)
    × (read_outcome (record_at layered 5 9 0 false) (zeros 67) 9 ≡ refused 9 9 10)
    × (read_outcome (record_at layered 5 9 0 false) (zeros 67) 10 ≡ refused 13 9 8)
    × (preview_outcome (record_at layered 5 0 0 false) 1 (zeros 67) (zeros 66) 10 ≡ refused 13 0 1)
    × (preview_outcome (record_at layered 5 1 65535 true) 1 (zeros 67) (zeros 66) 10 ≡ refused 8 67 68)
    × (preview_outcome (record_at layered 5 1 65535 true) 1 (zeros 68) (zeros 66) 10 ≡ refused 8 66 68)
    × (preview_outcome (record_at layered 5 1 65535 true) 1 (zeros 68) (zeros 68) 10 ≡ refused 10 65536 65535)
    × (decode_outcome 9 21 (of_eighths 0) [] 1 [] 0 ≡ refused 1 1 21)
    × (decode_outcome 9 10 (of_eighths 0) [] 1 [] 0 ≡ refused 5 0 10)
    × (decode_outcome 9 10 (of_eighths 0) (zeros 10) 1 [] 0 ≡ refused 9 0 10)
    × (decode_outcome 9 10 (of_eighths 0) (zeros 10) 1 [] 10 ≡ refused 13 0 1)
    × (decode_outcome 9 10 (of_eighths 1) (zeros 10) 1 [] 10 ≡ refused 8 0 68)
unfolding code_of sum some first edges edge_row edge_column edge_shift parity_row lift_of shape_of graph_number
    base_columns
    info_columns base_rows information_columns five_ten code_graph graph_of tabulate row_at shift_at entry_at
    first_column
    row_list shift_list bit_at collect checks_of info_end folded add is_nan eighths_at sum_of xor lt sub mul div
    of_int every
    xor_sum count rewritten negative magnitude next run row_edges edges_by_row slot_of row_sum check_sum unmet
    is_sent
    place_of lifted started taken answered bits_of slots_of to_checks_at to_bits_at gathered answer to_bit
    check_pass added
    total total_pass to_check send_pass iteration decision settled memory_of numbers_of unsatisfied_of
    channel_of
    start_memory word_of factor_of layer_to_check layer_to_bit layer_total layer layers layered_iteration step
    iterated
    unbroken record_of progress_of eighths_in_force run_of_grant lowest_of lowest_with_word weighing_step
    weighing_run no_lowest first_lowest heard
    after_layers after_flooding two_five result_of work_of serves family_code tried_from chosen same_code made
    if_made if_length if_work if_sum if_eighths if_new_eighths if_slice lowest_after_grant outcome_by
    start_outcome grant_outcome
    read_outcome preview_outcome decode_outcome zeros word_of_zeros up down plus minus heard_two_five
    weighed_five
    of_eighths record_at has_eighths
known_values = (
  refl,
  refl,
  refl,
  refl,
  refl,
  refl,
  refl,
  refl,
  refl,
  refl,
  refl,
  refl,
  refl,
  refl,
  refl,
  refl,
  refl,
  refl,
  refl,
  refl,
  refl,
  refl,
  refl,
  refl,
  refl,
  refl,
  refl,
  refl,
  refl,
  refl,
  refl,
  refl,
)
