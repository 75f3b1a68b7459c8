-- `add_edges` meets its contract. The invariant: the messages over the first i base edges are added. Assumes nothing.
use Rattle.std.proofs.Common.{◌≡◌}
use Rattle.totals.proofs.Totals.{totals}
use Rattle.totals.proofs.column.Column.add_edges.Given as goal

abbrev pub invariant-loop-b : goal.invariant-loop-b
invariant-loop-b l = l.totals ≡ totals l.to_bits l.self.z l.self.turn.now l.self.edges.now l.initial.totals l.b-index
