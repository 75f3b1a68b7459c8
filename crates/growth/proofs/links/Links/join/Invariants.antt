-- `join` meets its contract. The invariant: r is joined with the rows before q. Assumes nothing.
use Rattle.std.proofs.Common.{◌≡◌}
use Rattle.growth.proofs.Filled.{Joining}
use Rattle.growth.proofs.links.Links.join.Given as goal

abbrev pub invariant-loop-q : goal.invariant-loop-q
invariant-loop-q l = Joining l.rows l.p l.r l.initial.self.shared.near l.q-index l.self.shared.near
    × (l.self.base.m_b ≡ l.initial.self.base.m_b) × (l.self.degree ≡ l.initial.self.degree)
