-- Values of scans, by computing: what is dealt, what is left, and each refusal. Assumes nothing.
use Rattle.std.specs.Prelude.{Ok, replicate}
use mathlib.Core.Path.{◌≡◌, refl}
use mathlib.Core.Bool.{Bool, true, false, xor}
use mathlib.Core.List.{List, [], ◌∷◌, ◌++◌}
use lib.ListN.{take}
use Prim.Native.Nat.{ℕ}
use lib.IntN.{pos}
use lib.Ieee.{Float, fin, lt, add, sub, mul, div, of_int, is_nan}
use Rattle.laws.specs.Range.{every, some, sum, pair_sum, xor_sum, count, collect, first, folded}
use Rattle.laws.specs.Columns.{information_columns, parity_row}
use Rattle.laws.specs.Written.{tabulate, rewritten}
use Rattle.laws.specs.Floats.{nought, negative, magnitude}
use Rattle.laws.specs.Run.{next, run}
use Rattle.refusals.specs.Outcome.{Outcome, and_then, refused, if_length}
use Rattle.tables.specs.Flat.{row_list, shift_list}
use Rattle.tables.specs.Graph.{graph_number, base_columns, info_columns, base_rows, first_column, entry_at, row_at, shift_at, shape_of, graph_of}
use Rattle.matrix.specs.Edges.{edges, edge_row, edge_column, edge_shift, bit_at, row_edges, edges_by_row, slot_of}
use Rattle.matrix.specs.Checks.{row_sum, check_sum, unmet, is_sent, place_of, lifted}
use Rattle.rule.specs.Rule.{started, taken, answered}
use Rattle.messages.specs.Memory.{bits_of, slots_of, to_checks_at, to_bits_at}
use Rattle.messages.specs.Iteration.{gathered, answer, to_bit, check_pass, added, total, total_pass, to_check, send_pass, iteration, decision, settled}
use Rattle.ldpc.specs.Choice.{lift_of, serves, code_of, family_code, tried_from, chosen, same_code, made, if_made}
use Rattle.ldpc.specs.Code.{code_graph, info_end, checks_of, work_of}
use Rattle.channel.specs.Channel.{channel_of, start_memory}
use Rattle.decoder.specs.Calls.{if_work, if_sum}
use Rattle.ahead.specs.Refused.{if_eighths}
use Rattle.ahead.specs.Schedules.{flooding, factor_of, step}
use Rattle.ahead.specs.Decoder.{Decode, iterated, unbroken, record_of, progress_of, eighths_in_force, run_of_grant, lowest_of}
use Rattle.ahead.specs.Wells.{Pad, no_decode, part_of, memory_with_part, scan_after_deal_to, scan_after_deal, scan_after_deals, first_fault, well_outcome, scan_outcome, scan_told}
use Rattle.ahead.proofs.FiveTen.{five_ten, record_at}

well : ℕ → ℕ → ℕ → Bool → Decode
well = record_at flooding

plus : Float
plus = fin false 1 (pos 0)

minus : Float
minus = fin true 1 (pos 0)

unsettled : List Float
unsettled = replicate 8 plus ++ (minus ∷ minus ∷ [])

settled_at_once : List Float
settled_at_once = replicate 10 plus

zeros : ℕ → List Float
zeros n = replicate n nought

-- three wells' memory and two numbers more: the second well converges in one iteration, the others in none that
-- are dealt here
memory : List Float
memory =
    start_memory (five_ten 5) unsettled (zeros 68)
    ++ (start_memory (five_ten 5) settled_at_once (zeros 68)
    ++ (start_memory (five_ten 5) unsettled (zeros 68) ++ zeros 2))

pad : ℕ → ℕ → Decode → Decode → Decode → Pad
pad n last a b d = record { wells = n; last = last; decodes = a ∷ b ∷ d ∷ replicate 13 no_decode }

-- the numbers that a scan of a pad of the code (5,10) tells
record ScanNumbers : Type 0 where
  dealt : List ℕ
  left : ℕ
  last : ℕ

numbers_of : Pad → ℕ → List Float → Outcome ScanNumbers
numbers_of pad allowance w =
    and_then (scan_told pad allowance w) (λ t. Ok (record {
      dealt =
          t.dealt;
      left = t.left;
      last = t.pad.last;
    }))

numbers : ℕ → ℕ → ℕ → ℕ → ℕ → Outcome ScanNumbers
numbers a b d left last = Ok (record { dealt = a ∷ b ∷ d ∷ replicate 13 0; left = left; last = last })

fresh : Decode
fresh = well 5 6 0 false

scans : (numbers_of (pad 3 2 fresh fresh fresh) 0 memory ≡ numbers 0 0 0 0 2)
    × (numbers_of (pad 3 2 fresh fresh fresh) 1 memory ≡ numbers 1 0 0 0 0)
    × (numbers_of (pad 3 0 fresh fresh fresh) 1 memory ≡ numbers 0 1 0 0 1)
    × (numbers_of (pad 3 1 fresh (well 5 6 1 true) fresh) 5 memory ≡ numbers 2 0 3 0 2)
    × (numbers_of (pad 3 2 (well 5 6 65534 false) (well 5 6 1 true) (well 5 6 65535 false)) 9 memory
    ≡ numbers 1 0 0 8 0)
    × (numbers_of (pad 3 2 (well 5 6 65534 false) (well 5 6 1 true) fresh) 3 memory ≡ numbers 1 0 2 0 2)
    × (numbers_of (pad 3 2 fresh fresh fresh) 4 memory ≡ numbers 2 1 1 0 0)
    × (numbers_of (pad 3 2 fresh fresh fresh) 7 memory ≡ numbers 3 1 3 0 2)
    × (numbers_of (pad 0 0 fresh fresh fresh) 1 memory ≡ refused 15 0 1)
    × (numbers_of (pad 17 99 fresh fresh fresh) 1 memory ≡ refused 15 17 16)
    × (numbers_of (pad 3 3 fresh fresh fresh) 1 memory ≡ refused 15 3 2)
    × (numbers_of (pad 3 2 fresh (well 7 6 0 false) (well 5 0 0 false)) 1 (take 203 memory) ≡ refused 8 67 68)
    × (numbers_of (pad 3 2 fresh (well 7 6 0 false) (well 5 0 0 false)) 1 (take 204 memory) ≡ refused 11 7 10)
    × (numbers_of (pad 3 2 fresh (well 5 9 0 false) (well 7 0 0 false)) 0 (take 204 memory) ≡ refused 13 9 8)
    × (numbers_of (pad 3 2 (well 7 0 0 false) fresh fresh) 1 (take 3 memory) ≡ refused 11 7 10)
    × (numbers_of (pad 3 2 (well 5 0 0 false) fresh fresh) 1 (take 3 memory) ≡ refused 13 0 1)
    × (numbers_of (pad 3 2 fresh no_decode fresh) 1 memory ≡ refused 11 0 0)
unfolding xor lt add sub mul div of_int is_nan every some sum pair_sum xor_sum count collect first folded
    information_columns parity_row tabulate rewritten negative magnitude next run
    row_list shift_list graph_number base_columns info_columns base_rows first_column entry_at row_at shift_at
    shape_of graph_of
    edges edge_row edge_column edge_shift bit_at row_edges edges_by_row slot_of
    row_sum check_sum unmet is_sent place_of lifted
    started taken answered bits_of slots_of to_checks_at to_bits_at
    gathered answer to_bit check_pass added total total_pass to_check send_pass iteration decision settled
    code_graph info_end checks_of channel_of start_memory work_of
    lift_of serves code_of family_code tried_from chosen same_code made if_made if_length if_work if_sum
    if_eighths
    factor_of step iterated unbroken record_of progress_of eighths_in_force run_of_grant lowest_of
    no_decode part_of memory_with_part scan_after_deal_to scan_after_deal scan_after_deals first_fault
    well_outcome scan_outcome scan_told
    five_ten record_at well plus minus unsettled settled_at_once zeros memory pad numbers_of numbers fresh
scans = (refl, refl, refl, refl, refl, refl, refl, refl, refl, refl, refl, refl, refl, refl, refl, refl, refl)
