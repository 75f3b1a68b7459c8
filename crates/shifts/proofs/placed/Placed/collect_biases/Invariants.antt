-- `collect_biases` meets its contract. The invariant: the biases of the other places before e are collected. Assumes nothing.
use Rattle.shifts.proofs.Biased.{Collecting}
use Rattle.shifts.proofs.placed.Placed.collect_biases.Given as goal

abbrev pub invariant-loop-e : goal.invariant-loop-e
invariant-loop-e l = Collecting l.self.rows.now l.self.shifts.now l.biases.biases l.biases.count l.e
