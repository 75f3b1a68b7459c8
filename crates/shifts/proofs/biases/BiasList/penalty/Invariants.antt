-- `penalty` meets its contract. The invariant: the sum is what the first i biases cost. Assumes nothing.
use Rattle.shifts.proofs.Searched.{Summing}
use Rattle.shifts.proofs.biases.BiasList.penalty.Given as goal

abbrev pub invariant-loop-bias : goal.invariant-loop-bias
invariant-loop-bias l = Summing l.self.biases l.self.count l.x l.sum l.bias-index
