-- `and` meets its contract. Assumes nothing.
use Rattle.growth.specs.Rows.{has}
use Rattle.growth.proofs.Words.{and_bit}
use Rattle.growth.proofs.rows.RowSet.and.Goals as goal

pub returns : goal.returns
unfolding has
returns c r = and_bit c.args.self.bits c.args.other.bits r
