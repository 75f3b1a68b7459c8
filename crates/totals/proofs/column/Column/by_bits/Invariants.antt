-- `by_bits` meets its contract. The invariant: the bits below offset j are done. Assumes nothing.
use Rattle.totals.proofs.Bits.{BitsDone}
use Rattle.totals.proofs.column.Column.by_bits.Given as goal

abbrev pub invariant-loop-j : goal.invariant-loop-j
invariant-loop-j g l = BitsDone l.to_bits l.channel l.self.z l.self.slots l.self.turn.now l.self.edges.now l.self.fits l.j l.totals l.initial.to_checks l.to_checks
