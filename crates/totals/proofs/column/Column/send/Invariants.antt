-- `send` meets its contract. The invariant: the slots over the first i base edges are written. Assumes nothing.
use lib.Ieee.{nan, sub, binary32}
use Rattle.laws.specs.Written.{Written}
use Rattle.messages.specs.Memory.{number}
use Rattle.totals.specs.Joined.{Joins}
use Rattle.totals.proofs.column.Column.send.Given as goal

abbrev pub invariant-loop-b : goal.invariant-loop-b
invariant-loop-b l =
    Written nan 0 (Joins l.self.edges.now l.b-index l.self.z l.self.turn.now l.j) (λ s. sub binary32 l.total (number l.to_bits s)) l.initial.to_checks
    l.to_checks
