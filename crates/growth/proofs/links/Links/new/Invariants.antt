-- `new` meets its contract. The invariant: the rows before q are filled in. Assumes nothing.
use Rattle.std.proofs.Common.{◌≡◌, ℕ, ◌<◌, length, get_or}
use Rattle.growth.specs.Search.{meets, beside, parity_edges}
use Rattle.growth.proofs.links.Links.new.Given as goal

abbrev pub invariant-loop-q : goal.invariant-loop-q
invariant-loop-q l = (length l.near ≡ 64) × (length l.degree ≡ 64)
    × ((k r : ℕ) → k < l.q → r < l.base.m_b → meets l.near k r ≡ beside l.base.m_b k r)
    × ((k : ℕ) → k < l.q → get_or l.degree k 0 ≡ parity_edges l.base.m_b k)
