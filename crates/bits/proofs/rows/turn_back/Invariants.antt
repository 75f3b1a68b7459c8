-- `turn_back` meets its contract. The invariant: the places before t are written. Assumes nothing.
use Rattle.std.proofs.Common.{◌≡◌, ℕ, ◌-◌, ◌<◌, ◌≤◌, length, get_or}
use Rattle.bits.proofs.rows.turn_back.Given as goal

abbrev pub invariant-loop-t : goal.invariant-loop-t
invariant-loop-t l =
    (length l.first ≡ length l.fn.first)
    × (get_or l.first 0 0 ≡ get_or l.total (l.z - 1) 0)
    × ((k : ℕ) → 1 ≤ k → k < l.t → get_or l.first k 0 ≡ get_or l.total (k - 1) 0)
    × ((k : ℕ) → l.t ≤ k → get_or l.first k 0 ≡ get_or l.fn.first k 0)
