-- `by_bits` meets its contract. Assumes nothing.
use Rattle.std.proofs.Common.{arith}
use Rattle.totals.proofs.Bits.{bits_more, bits_totals, bits_sent}
use Rattle.totals.proofs.column.Column.by_bits.Goals as goal

pub loop-j-preserved : goal.loop-j-preserved
loop-j-preserved g c = bits_more _ _ _ _ _ _ _ c.loop-j.j c.loop-j-test.true _ _ _ _ _ c.loop-j.invariant c.total-total.ensures c.send.ensures

pub returns-clause-totals_after : goal.returns-clause-totals_after
returns-clause-totals_after g c = bits_totals _ _ _ _ _ _ _ c.loop-j.j _ _ _ (omega arith) c.loop-j.invariant

pub returns-clause-checks_after : goal.returns-clause-checks_after
returns-clause-checks_after g c = bits_sent _ _ _ _ _ _ _ c.loop-j.j _ _ _ (omega arith) c.loop-j.invariant c.args.self.now.lift.0
