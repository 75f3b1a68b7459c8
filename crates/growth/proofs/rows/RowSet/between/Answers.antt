-- `between` meets its contract. Assumes nothing.
use Rattle.growth.specs.Rows.{has}
use Rattle.growth.proofs.Words.{between_bit}
use Rattle.growth.proofs.rows.RowSet.between.Goals as goal

pub returns : goal.returns
unfolding has
returns c r = between_bit c.args.from c.args.to r c.requires.0 c.requires.2
