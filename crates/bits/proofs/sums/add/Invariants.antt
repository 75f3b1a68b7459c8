-- `add` meets its contract. The invariant: the first i bits are added. Assumes nothing.
use Rattle.std.proofs.Common.{◌≡◌, ℕ, ◌<◌, ◌≤◌, length, get_or}
use Rattle.bits.specs.Sums.{differing}
use Rattle.bits.proofs.sums.add.Given as goal

abbrev pub invariant-loop-i : goal.invariant-loop-i
invariant-loop-i l =
    (length l.sums ≡ length l.initial.sums)
    × ((k : ℕ) → k < l.i → get_or l.sums k 0 ≡ differing (get_or l.initial.sums k 0) (get_or l.bits k 0))
    × ((k : ℕ) → l.i ≤ k → get_or l.sums k 0 ≡ get_or l.initial.sums k 0)
