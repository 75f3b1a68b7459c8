-- `total_of` meets its contract. The invariant: the first i rows are added. Assumes nothing.
use Rattle.std.proofs.Common.{◌≡◌, length}
use Rattle.bits.specs.Rows.{Holds}
use Rattle.bits.proofs.Row.{rows_upto}
use Rattle.bits.proofs.rows.total_of.Given as goal

abbrev pub invariant-loop-i : goal.invariant-loop-i
invariant-loop-i l = (length l.total ≡ length l.initial.total) × Holds l.z (rows_upto l.parity.bytes.now l.z l.i) l.total
