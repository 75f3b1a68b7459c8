-- `eights` meets its contract. The invariant: the blocks before i are combined. Assumes nothing.
use Rattle.std.proofs.Common.{◌*◌}
use Rattle.segments.specs.Combined.{CombinedUpto}
use Rattle.segments.proofs.run.eights.Given as goal

abbrev pub invariant-loop-i : goal.invariant-loop-i
invariant-loop-i g l = CombinedUpto g.O.Operation.op l.initial.to l.a l.b (8 * l.i) l.to
