-- `scatter` meets its contract. Assumes nothing.
use native.Mathlib.Omega.{arith}
use Rattle.checks.proofs.Sent.{sent_more, edge_sent}
use Rattle.checks.proofs.few.scatter.Goals as goal

pub loop-b-preserved : goal.loop-b-preserved
loop-b-preserved g c =
    edge_sent _ _ _ _ _ _ _ (omega (arith, c.args.row.lift.0, c.requires.few.1))
    (sent_more _ _ _ _ _ 0 g.row.Z _ _ _ _ _ _ _ _ (omega (arith, c.requires.few.0)) (omega arith) c.slot-s.ensures c.place.ensures
    c.load_some-m.ensures c.requires.gathers c.message.ensures c.store_some.ensures c.loop-b.invariant)
