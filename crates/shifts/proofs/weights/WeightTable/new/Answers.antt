-- `new` meets its contract: the table is right, by a test that is computed over its numbers. Assumes nothing.
use Rattle.std.proofs.Common.{refl}
use Rattle.laws.specs.Range.{count}
use Rattle.laws.specs.Columns.{congruent}
use Rattle.shifts.specs.Shifts.{test_lifts, weight}
use Rattle.shifts.proofs.Weighed.{holds, weights_are}
use Rattle.shifts.proofs.weights.WeightTable.new.Goals as goal

pub invariant_of-result : goal.invariant_of-result
unfolding holds weight test_lifts count congruent
invariant_of-result c = record { weighs = weights_are _ refl tt }
