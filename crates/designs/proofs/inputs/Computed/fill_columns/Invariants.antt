-- `fill_columns` meets its contract. The invariant: the places below p are written. Assumes nothing.
use Rattle.std.proofs.Common.{ℕ, ◌≡◌, ◌<◌, length, get_or}
use Rattle.designs.specs.Inputs.{row_at, shift_at}
use Rattle.designs.proofs.inputs.Computed.fill_columns.Given as goal

abbrev pub invariant-loop-p : goal.invariant-loop-p
invariant-loop-p l =
    (length l.rows ≡ length l.initial.rows)
    × (length l.shifts ≡ length l.initial.shifts)
    × ((k : ℕ) → k < l.p → get_or l.rows k 0 ≡ row_at l.self.m_b l.self.seed k)
    × ((k : ℕ) → k < l.p → get_or l.shifts k 0 ≡ shift_at l.self.seed k)
