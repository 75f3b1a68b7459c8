-- `gather` meets its contract. Assumes nothing.
use native.Mathlib.Omega.{arith}
use Rattle.checks.proofs.Four.{lanes_are, none_gathered, more_gathered}
use Rattle.checks.proofs.pairs.gather.Goals as goal

pub loop-b-init : goal.loop-b-init
loop-b-init c = (
  none_gathered _ _ _ _ _ (omega arith) c.new-first.ensures,
  none_gathered _ _ _ _ _ (omega arith) c.new-second.ensures,
)

pub loop-b-preserved : goal.loop-b-preserved
loop-b-preserved c = (
  more_gathered _ _ _ _ _ _ _ _ _ _ _ (omega arith) c.loop-b-test.true c.slot.ensures c.place.ensures
      (lanes_are _ _ c.load-m.ensures) c.loop-b.invariant.0 c.with-first.ensures,
  more_gathered _ _ _ _ _ _ _ _ _ _ _ (omega arith) c.loop-b-test.true c.slot-in-loop-b.ensures c.place-in-loop-b.ensures
      (lanes_are _ _ c.load-n.ensures) c.loop-b.invariant.1 c.with-second.ensures,
)
