-- `send` meets its contract. Assumes nothing.
use Rattle.std.proofs.Common.{arith}
use Rattle.totals.proofs.Sent.{slot_sent}
use Rattle.totals.proofs.column.Column.send.Goals as goal

pub loop-b-preserved : goal.loop-b-preserved
loop-b-preserved c = slot_sent _ _ _ _ c.loop-b-test.true _ _ _ _ _ c.slot-s.ensures.value (omega arith) c.loop-b.invariant
