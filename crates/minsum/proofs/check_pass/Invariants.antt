-- The rows below r are done. Assumes nothing.
use Prim.Native.Nat.{◌/◌, ◌<◌}
use lib.Ieee.{nan}
use Rattle.laws.specs.Written.{Written}
use Rattle.laws.proofs.Written.{Upto}
use Rattle.matrix.specs.Edges.{edge_row}
use Rattle.messages.specs.Memory.{slots_of, number}
use Rattle.messages.specs.Iteration.{to_bit}
use Rattle.ldpc.specs.Code.{code_graph}
use Rattle.minsum.proofs.check_pass.Given as goal

abbrev pub invariant-loop-r : goal.invariant-loop-r
invariant-loop-r l =
    let g = code_graph l.l.code.code in
    let z = l.l.code.code.z in
    Written nan 0 (Upto (λ s. s < slots_of g z) (λ s. edge_row g (s / z)) l.r) (to_bit l.factor g z (number l.to_checks)) l.initial.to_bits l.to_bits
