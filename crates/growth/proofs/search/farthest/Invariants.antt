-- `farthest` meets its contract. The invariant: the steps so far lead to no unreached row, and one more to the next. Assumes nothing.
use Rattle.laws.specs.Range.{count}
use Rattle.growth.specs.Rows.{has}
use Rattle.growth.specs.Search.{meets}
use Rattle.growth.proofs.Reached.{Searching}
use Rattle.growth.proofs.search.farthest.Given as goal

abbrev pub invariant-steps : goal.invariant-steps
invariant-steps l = Searching l.fn.base.m_b (meets l.shared.near) (has l.fn.taken) (has l.unreached) (has l.next)

abbrev pub decreases-steps : goal.decreases-steps
decreases-steps l = count (has l.unreached) l.fn.base.m_b
