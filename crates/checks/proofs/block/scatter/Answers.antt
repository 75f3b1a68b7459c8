-- `scatter` meets its contract. Assumes nothing.
use native.Mathlib.Omega.{arith}
use Rattle.checks.proofs.Four.{lanes_are}
use Rattle.checks.proofs.Sent.{sent_more, block_sent}
use Rattle.checks.proofs.block.scatter.Goals as goal

pub loop-b-preserved : goal.loop-b-preserved
loop-b-preserved c =
    block_sent _ _ _ _ _ _ _ _
    (sent_more _ _ _ _ _ _ 4 _ _ _ _ _ _ _ _ (omega arith) c.requires.fits c.slot-s.ensures c.place.ensures (lanes_are _ _ c.load-m.ensures)
    c.requires.gathers c.message.ensures c.store.ensures c.loop-b.invariant)
