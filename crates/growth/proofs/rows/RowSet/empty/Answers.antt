-- `empty` meets its contract. Assumes nothing.
use Rattle.growth.specs.Rows.{has}
use Rattle.growth.proofs.Words.{zero_bit}
use Rattle.growth.proofs.rows.RowSet.empty.Goals as goal

pub returns : goal.returns
unfolding has
returns c r = zero_bit r
