-- `pick` meets its contract. The invariant: of the rows that were taken out the best is kept. Assumes nothing.
use Rattle.std.proofs.Common.{get_or}
use Rattle.growth.specs.Rows.{has}
use Rattle.growth.specs.Search.{fewer}
use Rattle.growth.proofs.Kept.{Picking}
use Rattle.growth.proofs.choice.pick.Given as goal

abbrev pub invariant-loop-r : goal.invariant-loop-r
invariant-loop-r l = Picking (has l.fn.rows) (fewer (λ q. get_or l.degree q 0)) (has l.left) l.best

abbrev pub decreases-loop-r : goal.decreases-loop-r
decreases-loop-r l = l.left.bits
