-- `or` meets its contract. Assumes nothing.
use Rattle.growth.specs.Rows.{has}
use Rattle.growth.proofs.Words.{or_bit}
use Rattle.growth.proofs.rows.RowSet.or.Goals as goal

pub returns : goal.returns
unfolding has
returns c r = or_bit c.args.self.bits c.args.other.bits r
