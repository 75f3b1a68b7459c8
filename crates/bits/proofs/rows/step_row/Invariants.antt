-- `step_row` meets its contract. The invariant: both rows are written up to t. Assumes nothing.
use Rattle.std.proofs.Common.{◌≡◌, ℕ, ◌<◌, ◌≤◌, cond, length, get_or}
use Rattle.bits.specs.Sums.{differing}
use Rattle.bits.proofs.rows.step_row.Given as goal

abbrev pub invariant-loop-t : goal.invariant-loop-t
invariant-loop-t l =
    (length l.row ≡ length l.initial.row) × (length l.next ≡ length l.initial.next)
    × ((k : ℕ) → k < l.t → get_or l.row k 0 ≡ get_or l.initial.next k 0)
    × ((k : ℕ) → k < l.t
    → get_or l.next k 0 ≡ differing (differing (get_or l.initial.row k 0) (get_or l.initial.next k 0)) (cond l.middle (get_or l.total k 0) 0))
    × ((k : ℕ) → l.t ≤ k → get_or l.row k 0 ≡ get_or l.initial.row k 0)
    × ((k : ℕ) → l.t ≤ k → get_or l.next k 0 ≡ get_or l.initial.next k 0)
