-- `scatter` meets its contract. Assumes nothing.
use native.Mathlib.Omega.{arith}
use Rattle.checks.proofs.Four.{lanes_are}
use Rattle.checks.proofs.Sent.{sent_more, pair_sent}
use Rattle.checks.proofs.pairs.scatter.Goals as goal

pub loop-b-preserved : goal.loop-b-preserved
loop-b-preserved c =
    pair_sent _ _ _ _ _ _ _ _ _
    (sent_more _ _ _ _ _ _ 4 _ _ _ _ _ _ _ _ (omega arith) c.requires.fits.1 c.slot-r.ensures c.place-in-loop-b.ensures
    (lanes_are _ _ c.load-n.ensures) c.requires.gathers.1 c.message-in-loop-b.ensures c.store-in-loop-b.ensures
    (sent_more _ _ _ _ _ _ 4 _ _ _ _ _ _ _ _ (omega arith) c.requires.fits.0 c.slot-s.ensures c.place.ensures
    (lanes_are _ _ c.load-m.ensures) c.requires.gathers.0 c.message.ensures c.store.ensures c.loop-b.invariant))
