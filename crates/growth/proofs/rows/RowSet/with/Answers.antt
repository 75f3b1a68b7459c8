-- `with` meets its contract. Assumes nothing.
use Rattle.growth.specs.Rows.{has}
use Rattle.growth.proofs.Words.{with_bit}
use Rattle.growth.proofs.rows.RowSet.with.Goals as goal

pub returns : goal.returns
unfolding has
returns c s = with_bit c.args.self.bits c.args.r s c.requires
