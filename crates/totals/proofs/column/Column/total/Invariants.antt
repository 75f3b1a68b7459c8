-- `total` meets its contract. The invariant: the messages over the first i base edges are added. Assumes nothing.
use Rattle.std.proofs.Common.{◌≡◌, take}
use Rattle.messages.specs.Memory.{number}
use Rattle.totals.specs.Joined.{total_over}
use Rattle.totals.proofs.column.Column.total.Given as goal

abbrev pub invariant-loop-b : goal.invariant-loop-b
invariant-loop-b l = l.sum ≡ total_over (number l.to_bits) l.self.z l.self.turn.now l.j l.channel (take l.b-index l.self.edges.now)
