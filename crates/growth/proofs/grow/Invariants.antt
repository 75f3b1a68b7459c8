-- `grow` meets its contract. The invariant: the rows before place p are grown, and the links are kept up. Assumes nothing.
use Rattle.std.proofs.Common.{◌≡◌}
use Rattle.growth.proofs.Grown.{Growing}
use Rattle.growth.proofs.grow.Given as goal

abbrev pub invariant-loop-p : goal.invariant-loop-p
invariant-loop-p l = Growing l.m_b l.k_b l.rows l.links.shared.near l.links.degree l.p × (l.links.base.m_b ≡ l.m_b)
