-- `gather` meets its contract. Assumes nothing.
use native.Mathlib.Omega.{arith}
use Rattle.checks.proofs.Four.{lanes_are, none_gathered, more_gathered}
use Rattle.checks.proofs.block.gather.Goals as goal

pub loop-b-init : goal.loop-b-init
loop-b-init c = none_gathered _ _ _ _ _ (omega arith) c.new-l.ensures

pub loop-b-preserved : goal.loop-b-preserved
loop-b-preserved c =
    more_gathered _ _ _ _ _ _ _ _ _ _ _ (omega arith) c.loop-b-test.true c.slot.ensures c.place.ensures
    (lanes_are _ _ c.load-m.ensures) c.loop-b.invariant c.with-l.ensures
