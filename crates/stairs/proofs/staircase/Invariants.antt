-- `staircase` meets its contract. The invariant: i rows are parity, and `next` is row i. Assumes nothing.
use Rattle.std.proofs.Common.{◌≡◌, length}
use Rattle.bits.specs.Rows.{Holds}
use Rattle.stairs.specs.Stairs.{stair_bit, stairs}
use Rattle.stairs.proofs.staircase.Given as goal

abbrev pub invariant-loop-i : goal.invariant-loop-i
invariant-loop-i l =
    let c = l.g.code.code in
    (l.parity ≡ stairs c l.info.bytes.now l.i) × (length l.next ≡ 324) × Holds c.z (stair_bit c l.info.bytes.now l.i) l.next
