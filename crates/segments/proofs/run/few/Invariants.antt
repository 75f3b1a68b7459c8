-- `few` meets its contract. The invariant: the numbers before i are combined. Assumes nothing.
use Rattle.segments.specs.Combined.{CombinedUpto}
use Rattle.segments.proofs.run.few.Given as goal

abbrev pub invariant-loop-i : goal.invariant-loop-i
invariant-loop-i g l = CombinedUpto g.O.Operation.op l.initial.to l.a l.b l.i l.to
