-- Full four-cycle count: known values, by computing. Assumes nothing.
use Rattle.std.specs.Prelude.{Ok}
use mathlib.Core.Path.{◌≡◌, refl}
use mathlib.Core.List.{[], ◌∷◌}
use Rattle.laws.specs.Range.{some, sum, pair_sum, first}
use Rattle.laws.specs.Columns.{information_columns, parity_row, congruent, faulty, first_fault}
use Rattle.laws.specs.Written.{tabulate}
use Rattle.refusals.specs.Outcome.{refused}
use Rattle.tables.specs.Flat.{row_list, shift_list}
use Rattle.tables.specs.Graph.{graph_number, base_columns, info_columns, base_rows, first_column, entry_at, row_at, shift_at, shape_of, graph_of}
use Rattle.matrix.specs.Edges.{edges, edge_row, edge_column, edge_shift}
use Rattle.cycles.specs.Cycles.{closes, cycles_among}
use Rattle.graph.specs.Calls.{cycles_told}
use Rattle.ldpc.specs.declared.choice.Code.{Code}
use Rattle.ldpc.specs.Choice.{lift_of, serves, code_of, family_code, tried_from, chosen, same_code, made, if_made}
use Rattle.ldpc.specs.Code.{code_graph}
use Rattle.ahead.specs.FullCount.{has_edge, shift_of_edge, full_cycles, lent_graph, full_outcome, code_cycles}
use Rattle.ahead.proofs.FiveTen.{five_ten}

-- two information columns
two_columns : (full_outcome 5 2 (0 ∷ 1 ∷ 2 ∷ 0 ∷ 1 ∷ 2 ∷ []) (0 ∷ 0 ∷ 0 ∷ 0 ∷ 0 ∷ 1 ∷ []) 5 ≡ Ok 5)
    × (full_outcome 5 2 (0 ∷ 1 ∷ 2 ∷ 0 ∷ 1 ∷ 2 ∷ []) (0 ∷ 0 ∷ 0 ∷ 0 ∷ 0 ∷ 1 ∷ []) 1 ≡ Ok 15)
unfolding full_outcome cycles_told first_fault faulty full_cycles lent_graph has_edge shift_of_edge cycles_among closes
    congruent pair_sum sum some first edges edge_row edge_column edge_shift parity_row
two_columns = (refl, refl)

-- one, where cycles run through the parity columns
one_column : (full_outcome 4 1 (0 ∷ 1 ∷ 2 ∷ []) (0 ∷ 0 ∷ 0 ∷ []) 1 ≡ Ok 7)
    × (full_outcome 4 1 (0 ∷ 1 ∷ 2 ∷ []) (0 ∷ 0 ∷ 0 ∷ []) 2 ≡ Ok 3)
    × (full_outcome 4 1 (0 ∷ 1 ∷ 2 ∷ []) (0 ∷ 0 ∷ 0 ∷ []) 4 ≡ Ok 3)
    × (full_outcome 4 1 (0 ∷ 1 ∷ 2 ∷ []) (0 ∷ 2 ∷ 5 ∷ []) 1 ≡ Ok 7)
    × (full_outcome 4 1 (0 ∷ 1 ∷ 2 ∷ []) (0 ∷ 2 ∷ 5 ∷ []) 2 ≡ Ok 2)
    × (full_outcome 4 1 (0 ∷ 1 ∷ 2 ∷ []) (0 ∷ 2 ∷ 5 ∷ []) 3 ≡ Ok 1)
    × (full_outcome 7 1 (0 ∷ 2 ∷ 4 ∷ []) (0 ∷ 0 ∷ 0 ∷ []) 1 ≡ Ok 0)
unfolding full_outcome cycles_told first_fault faulty full_cycles lent_graph has_edge shift_of_edge cycles_among closes
    congruent pair_sum sum some first edges edge_row edge_column edge_shift parity_row
one_column = (refl, refl, refl, refl, refl, refl, refl)

-- the order of the refusals: 3 (n_b, k_b, z), 5 (rows), 5 (shifts), 4
refusals : (full_outcome 3 0 [] [] 0 ≡ refused 3 3 4)
    × (full_outcome 4 2 [] [] 0 ≡ refused 3 2 1)
    × (full_outcome 4 1 [] [] 0 ≡ refused 3 0 1)
    × (full_outcome 4 1 (3 ∷ []) [] 1 ≡ refused 5 1 3)
    × (full_outcome 4 1 (3 ∷ 0 ∷ 0 ∷ []) [] 1 ≡ refused 5 0 3)
    × (full_outcome 4 1 (0 ∷ 1 ∷ 0 ∷ []) (0 ∷ 0 ∷ 0 ∷ []) 1 ≡ refused 4 0 2)
unfolding full_outcome cycles_told first_fault faulty some first
refusals = (refl, refl, refl, refl, refl, refl)

-- of a code
not_made : Code
not_made = record { rate = 5; n_tx = 10; family = 2; z = 1; k = 4; shortened = 0 }

codes : (code_cycles (five_ten 5) ≡ Ok 0) × (code_cycles not_made ≡ refused 11 5 10)
unfolding code_cycles if_made made same_code chosen tried_from family_code code_of serves lift_of five_ten not_made
    full_cycles has_edge shift_of_edge cycles_among closes congruent pair_sum sum some first edges edge_row edge_column
    edge_shift parity_row code_graph graph_of shape_of graph_number base_columns info_columns base_rows
    information_columns tabulate row_at shift_at entry_at first_column row_list shift_list
codes = (refl, refl)
