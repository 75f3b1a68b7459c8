-- `add_edges` meets its contract. Assumes nothing.
use Rattle.std.proofs.Common.{arith}
use Rattle.totals.proofs.Totals.{totals_none, totals_more}
use Rattle.totals.proofs.column.Column.add_edges.Goals as goal

pub loop-b-init : goal.loop-b-init
loop-b-init c = totals_none _ _ _ c.args.self.now.edges.now _ (omega arith)

pub loop-b-preserved : goal.loop-b-preserved
loop-b-preserved c =
    totals_more _ _ _ _ _ c.loop-b.b-index _ _ _ _ _ c.loop-b-test.true c.from-b.ensures c.from.ensures (omega arith) (omega arith) c.loop-b.invariant
    c.add_turned.ensures
