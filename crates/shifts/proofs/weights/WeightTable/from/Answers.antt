-- `from` meets its contract. Assumes nothing.
use Rattle.std.proofs.Common.{arith}
use Rattle.std.proofs.lemmas.List.{length-drop}
use Rattle.shifts.proofs.weights.WeightTable.from.Goals as goal

pub returns-clause-long : goal.returns-clause-long
returns-clause-long c = omega (arith, length-drop c.args.i c.args.self.weights.now, c.args.self.weighs.long)
