-- `without` meets its contract. Assumes nothing.
use Rattle.std.proofs.Common.{arith}
use Rattle.growth.specs.Rows.{has}
use Rattle.growth.proofs.Words.{without_bit}
use Rattle.growth.proofs.rows.RowSet.without.Goals as goal

pub returns : goal.returns
unfolding has
returns c r = without_bit c.args.self.bits c.args.other.bits r (omega arith) (omega arith)
