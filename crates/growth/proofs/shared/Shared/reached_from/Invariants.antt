-- `reached_from` meets its contract. The invariant: the rows of the frontier that are not left are gone over. Assumes nothing.
use Rattle.growth.proofs.Frontier.{Gathering}
use Rattle.growth.proofs.shared.Shared.reached_from.Given as goal

abbrev pub invariant-loop-q : goal.invariant-loop-q
invariant-loop-q l = Gathering l.self.near l.fn.frontier l.left l.gathered

abbrev pub decreases-loop-q : goal.decreases-loop-q
decreases-loop-q l = l.left.bits
