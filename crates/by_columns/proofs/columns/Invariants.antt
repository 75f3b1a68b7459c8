-- The columns below v are done. Assumes nothing.
use Prim.Native.Nat.{◌/◌, ◌<◌}
use lib.Ieee.{nan}
use Rattle.laws.specs.Written.{Written}
use Rattle.laws.proofs.Written.{Upto}
use Rattle.matrix.specs.Edges.{edge_column}
use Rattle.messages.specs.Memory.{bits_of, slots_of}
use Rattle.messages.specs.Regions.{total_of, to_check_of}
use Rattle.ldpc.specs.Code.{code_graph}
use Rattle.by_columns.proofs.columns.Given as goal

abbrev pub invariant-loop-v : goal.invariant-loop-v
invariant-loop-v g l =
    let b = code_graph l.l.code.code in
    let z = l.l.code.code.z in
    Written nan 0 (Upto (λ u. u < bits_of b z) (λ u. u / z) l.v) (total_of b z l.channel l.to_bits) l.initial.totals l.totals
    × Written nan 0 (Upto (λ s. s < slots_of b z) (λ s. edge_column b (s / z)) l.v) (to_check_of b z l.channel l.to_bits) l.initial.to_checks l.to_checks
