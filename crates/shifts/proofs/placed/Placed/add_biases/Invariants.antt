-- `add_biases` meets its contract. The invariant: the biases of the columns before c are added. Assumes nothing.
use Rattle.shifts.proofs.Biased.{Adding}
use Rattle.shifts.proofs.placed.Placed.add_biases.Given as goal

abbrev pub invariant-loop-c : goal.invariant-loop-c
invariant-loop-c l = Adding l.self.rows.now l.self.shifts.now l.e l.initial.biases.biases l.initial.biases.count l.biases.biases l.biases.count l.c
