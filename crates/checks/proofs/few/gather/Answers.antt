-- `gather` meets its contract. Assumes nothing.
use native.Mathlib.Omega.{arith}
use Rattle.checks.proofs.Four.{none_gathered, more_gathered}
use Rattle.checks.proofs.few.gather.Goals as goal

pub loop-b-init : goal.loop-b-init
loop-b-init g c = none_gathered _ _ _ _ _ (omega (arith, c.requires.0)) c.new-l.ensures

pub loop-b-preserved : goal.loop-b-preserved
loop-b-preserved g c =
    more_gathered _ _ _ _ _ _ _ _ _ _ _ (omega (arith, c.requires.0)) c.loop-b-test.true c.slot.ensures c.place.ensures
    c.load_some-m.ensures c.loop-b.invariant c.with-l.ensures
