-- `send_edges` meets its contract. Assumes nothing.
use Rattle.std.proofs.Common.{arith}
use Rattle.totals.proofs.Sent.{edge_sent, all_sent}
use Rattle.totals.proofs.column.Column.send_edges.Goals as goal

pub loop-b-preserved : goal.loop-b-preserved
loop-b-preserved c =
    edge_sent _ _ _ _ c.loop-b-test.true _ _ _ _ c.args.self.now.lift.0 _ _ _ _ _ c.from-b.ensures c.from.ensures (omega arith) (omega arith)
    (c.args.self.now.fits c.loop-b.b-index c.loop-b-test.true) (omega arith) _ c.loop-b.invariant c.subtract_turned.ensures

pub returns : goal.returns
returns c = all_sent (omega (arith, c.loop-b-test.false)) c.loop-b.invariant
