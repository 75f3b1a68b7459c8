-- Live count and toggle a set: known values of the code (5,10), by computing. Assumes nothing.
use Rattle.std.specs.Prelude.{Ok, replicate}
use mathlib.Core.Path.{◌≡◌, refl}
use mathlib.Core.Bool.{xor}
use mathlib.Core.List.{List, [], ◌∷◌}
use Prim.Native.Nat.{ℕ}
use Rattle.laws.specs.Range.{some, sum, xor_sum, collect, first, folded}
use Rattle.laws.specs.Columns.{information_columns, parity_row}
use Rattle.laws.specs.Written.{tabulate}
use Rattle.refusals.specs.Outcome.{refused, if_length}
use Rattle.tables.specs.Flat.{row_list, shift_list}
use Rattle.tables.specs.Graph.{graph_number, base_columns, info_columns, base_rows, first_column, entry_at, row_at, shift_at, shape_of, graph_of}
use Rattle.matrix.specs.Edges.{edges, edge_row, edge_column, edge_shift, bit_at}
use Rattle.matrix.specs.Checks.{row_sum, check_sum, is_sent, place_of, lifted}
use Rattle.ldpc.specs.declared.choice.Code.{Code}
use Rattle.ldpc.specs.Choice.{lift_of, serves, code_of, family_code, tried_from, chosen, same_code, made, if_made}
use Rattle.ldpc.specs.Code.{code_graph, info_end, checks_of}
use Rattle.coder.specs.Calls.{if_bits}
use Rattle.ahead.specs.Syndrome.{syndrome_of, is_joined, checks_with, sent_at, bytes_with_toggle, LiveWord, after_check, after_toggle, LiveCount, if_live, if_places, if_once, live_outcome, toggle_outcome, set_outcome}
use Rattle.ahead.proofs.FiveTen.{five_ten}

zeros : ℕ → List ℕ
zeros n = replicate n 0

-- a record with five shortened bits, which come between its one information bit and its parity bits
short_code : Code
short_code = record { rate = 2; n_tx = 5; family = 2; z = 1; k = 1; shortened = 5 }

-- ---- places 0 and 3, whose checks are 0, 2, 4 and 0, 3, 6: a count meets its limits in the midst of a toggle
toggle_at : ℕ → List ℕ → List ℕ → ℕ → LiveWord
toggle_at place word syndrome count =
    after_toggle (five_ten 5) (record { word = word; syndrome = syndrome; count = count }) place

one_at_3 : List ℕ → List ℕ
one_at_3 behind = 0 ∷ 0 ∷ 0 ∷ 1 ∷ behind

toggles : (sent_at short_code 1 ≡ 6)
    × (syndrome_of (five_ten 5) (one_at_3 (zeros 6)) ≡ 1 ∷ 0 ∷ 0 ∷ 1 ∷ 0 ∷ 0 ∷ 1 ∷ [])
    × (checks_with (code_graph (five_ten 5)) 1 0 ≡ 0 ∷ 2 ∷ 4 ∷ [])
    × (checks_with (code_graph (five_ten 5)) 1 3 ≡ 0 ∷ 3 ∷ 6 ∷ [])
    × ((toggle_at 0 (zeros 10) (zeros 7) 0).syndrome ≡ 1 ∷ 0 ∷ 1 ∷ 0 ∷ 1 ∷ 0 ∷ 0 ∷ [])
    × ((toggle_at 0 (zeros 10) (zeros 7) 0).count ≡ 3)
    × ((toggle_at 0 (zeros 10) (zeros 7) 6).count ≡ 7)
    × ((toggle_at 0 (zeros 10) (zeros 7) 7).count ≡ 7)
    × ((toggle_at 0 (zeros 10) (zeros 7) 99).count ≡ 99)
    × (toggle_at 3 (zeros 10) (1 ∷ 0 ∷ 0 ∷ 0 ∷ 0 ∷ 0 ∷ 0 ∷ []) 0
    ≡ record { word = one_at_3 (zeros 6); syndrome = one_at_3 (0 ∷ 0 ∷ 1 ∷ []); count = 2 })
    × (toggle_at 3 (zeros 10) (1 ∷ 0 ∷ 0 ∷ 0 ∷ 0 ∷ 0 ∷ 1 ∷ []) 0
    ≡ record { word = one_at_3 (zeros 6); syndrome = one_at_3 (zeros 3); count = 0 })
    × (toggle_at 3 (0 ∷ 0 ∷ 0 ∷ 200 ∷ zeros 6) (255 ∷ 0 ∷ 0 ∷ 0 ∷ 0 ∷ 0 ∷ 2 ∷ []) 9
    ≡ record { word = zeros 10; syndrome = one_at_3 (zeros 3); count = 7 })
unfolding xor some sum xor_sum collect first folded information_columns parity_row tabulate row_list shift_list
    graph_number base_columns info_columns base_rows first_column entry_at row_at shift_at shape_of graph_of
    edges edge_row edge_column edge_shift bit_at row_sum check_sum is_sent place_of lifted code_graph info_end checks_of
    syndrome_of is_joined checks_with sent_at bytes_with_toggle after_check after_toggle five_ten short_code zeros toggle_at one_at_3
toggles = (refl, refl, refl, refl, refl, refl, refl, refl, refl, refl, refl, refl)

-- ---- the order of the refusals, and their numbers
live : ℕ → LiveCount
live r = record { code = five_ten r; count = 0 }

refusals : (live_outcome (five_ten 7) (2 ∷ zeros 8) 6 ≡ refused 11 7 10)
    × (live_outcome (five_ten 5) (2 ∷ zeros 8) 6 ≡ refused 9 9 10)
    × (live_outcome (five_ten 5) (2 ∷ zeros 9) 6 ≡ refused 9 6 7)
    × (live_outcome (five_ten 5) (0 ∷ 2 ∷ zeros 8) 7 ≡ refused 6 1 2)
    × (toggle_outcome (live 7) 10 (zeros 9) (zeros 6) ≡ refused 11 7 10)
    × (toggle_outcome (live 5) 10 (zeros 9) (zeros 6) ≡ refused 9 9 10)
    × (toggle_outcome (live 5) 10 (zeros 10) (zeros 6) ≡ refused 9 6 7)
    × (toggle_outcome (live 5) 10 (zeros 10) (zeros 7) ≡ refused 12 10 10)
    × (set_outcome (live 7) (3 ∷ 3 ∷ 10 ∷ []) (zeros 9) (zeros 6) ≡ refused 11 7 10)
    × (set_outcome (live 5) (3 ∷ 3 ∷ 10 ∷ []) (zeros 10) (zeros 6) ≡ refused 9 6 7)
    × (set_outcome (live 5) (3 ∷ 3 ∷ 10 ∷ []) (zeros 10) (zeros 7) ≡ refused 12 10 10)
    × (set_outcome (live 5) (3 ∷ 3 ∷ []) (zeros 10) (zeros 7) ≡ refused 14 1 0)
    × (if_places {A = ℕ} 10 (3 ∷ 3 ∷ 12 ∷ 11 ∷ []) (Ok 0) ≡ refused 12 12 10)
    × (if_once {A = ℕ} (1 ∷ 2 ∷ 2 ∷ 1 ∷ []) (Ok 0) ≡ refused 14 2 1)
    × (if_once {A = ℕ} (4 ∷ 4 ∷ 4 ∷ []) (Ok 0) ≡ refused 14 1 0)
    × (if_once {A = ℕ} [] (Ok 0) ≡ Ok 0)
unfolding some sum first information_columns tabulate
    graph_number base_columns info_columns base_rows shape_of graph_of edges code_graph checks_of
    lift_of serves code_of family_code tried_from chosen same_code made if_made if_length if_bits
    if_live if_places if_once live_outcome toggle_outcome set_outcome five_ten zeros live
refusals = (refl, refl, refl, refl, refl, refl, refl, refl, refl, refl, refl, refl, refl, refl, refl, refl)
