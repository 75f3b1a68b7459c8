-- `check_row` meets its contract. The invariant: the checks at the offsets of the pairs so far are done. Assumes nothing.
use Prim.Native.Nat.{◌*◌, ◌%◌}
use lib.ListN.{length}
use lib.Ieee.{nan}
use Rattle.laws.proofs.Written.{Upto}
use Rattle.laws.specs.Written.{Written}
use Rattle.messages.specs.Memory.{number}
use Rattle.messages.specs.Iteration.{answer}
use Rattle.slots.specs.Row.{Of}
use Rattle.checks.proofs.pairs.check_row.Given as goal

abbrev pub invariant-loop-pair : goal.invariant-loop-pair
invariant-loop-pair l =
    Written nan 0 (Upto (Of l.row.list.now (length l.row.list.now) l.row.z) (λ s. s % l.row.z) (8 * l.pair))
    (answer l.factor l.row.z l.row.list.now (number l.to_checks)) l.initial.to_bits l.to_bits
