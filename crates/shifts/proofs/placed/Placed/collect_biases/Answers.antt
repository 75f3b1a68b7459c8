-- `collect_biases` meets its contract. The invariant: the biases of the other places before e are collected. Assumes nothing.
use Rattle.std.proofs.Common.{arith}
use Rattle.shifts.proofs.Biased.{collecting_first, collecting_skip, collecting_more, collecting_all}
use Rattle.shifts.proofs.placed.Placed.collect_biases.Goals as goal
use Rattle.shifts.proofs.placed.Placed.collect_biases.Goals.{then-e-place, else-e-place}

pub loop-e-init : goal.loop-e-init
loop-e-init c = rw (c.clear.ensures.0, c.clear.ensures.1) (collecting_first c.args.biases.now.held.long)

pub add_biases-requires : goal.add_biases-requires
add_biases-requires c = (c.loop-e-test.true, omega (arith, c.loop-e-test.true, c.loop-e.invariant.most))

pub loop-e-preserved : goal.loop-e-preserved
loop-e-preserved c =
    let I = c.loop-e.invariant in
    elim c.if-e-place.branch [
      | then-e-place w ↦ rw w.biases-is
          (collecting_more I c.loop-e-test.true w.if-e-place.true (w.add_biases.ensures.costs, w.add_biases.ensures.upper_bound))
      | else-e-place w ↦ rw w.biases-is (collecting_skip I c.loop-e-test.true w.if-e-place.false)
    ]

pub returns : goal.returns
returns c = collecting_all c.loop-e.invariant c.loop-e-test.false
