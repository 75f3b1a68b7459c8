-- `scatter` meets its contract. The invariant: the slots of the base edges so far are written. Assumes nothing.
use lib.Ieee.{nan}
use Rattle.laws.specs.Written.{Written}
use Rattle.messages.specs.Memory.{number}
use Rattle.messages.specs.Iteration.{answer}
use Rattle.slots.specs.Row.{Of}
use Rattle.checks.proofs.few.scatter.Given as goal

abbrev pub invariant-loop-b : goal.invariant-loop-b
invariant-loop-b g l =
    Written nan 0 (Of l.row.list.now l.b-index g.row.Z) (answer l.factor g.row.Z l.row.list.now (number l.to_checks)) l.initial.to_bits l.to_bits
