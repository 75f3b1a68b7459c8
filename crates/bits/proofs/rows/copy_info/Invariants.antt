-- `copy_info` meets its contract. The invariant: the first i bits are copied. Assumes nothing.
use Rattle.std.proofs.Common.{◌≡◌, ℕ, ◌<◌, ◌≤◌, length, get_or}
use Rattle.bits.proofs.rows.copy_info.Given as goal

abbrev pub invariant-loop-i : goal.invariant-loop-i
invariant-loop-i l =
    (length l.out ≡ length l.initial.out)
    × ((k : ℕ) → k < l.i → get_or l.out k 0 ≡ get_or l.info k 0)
    × ((k : ℕ) → l.i ≤ k → get_or l.out k 0 ≡ get_or l.initial.out k 0)
