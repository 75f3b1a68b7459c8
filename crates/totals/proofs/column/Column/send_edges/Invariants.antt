-- `send_edges` meets its contract. The invariant: the slots of the first i base edges are written. Assumes nothing.
use lib.Ieee.{nan, sub, binary32}
use Rattle.laws.specs.Written.{Written}
use Rattle.messages.specs.Memory.{number}
use Rattle.slots.specs.Row.{Of}
use Rattle.totals.specs.Joined.{offset_of}
use Rattle.totals.proofs.column.Column.send_edges.Given as goal

abbrev pub invariant-loop-b : goal.invariant-loop-b
invariant-loop-b l =
    Written nan 0 (Of l.self.edges.now l.b-index l.self.z) (λ s. sub binary32 (number l.totals (offset_of l.self.z l.self.turn.now s)) (number l.to_bits s))
    l.initial.to_checks l.to_checks
