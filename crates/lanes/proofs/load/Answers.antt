-- `load` meets its contract. Assumes nothing.
use lib.Ieee.{nan}
use Rattle.lanes.proofs.Lanewise.{chunk_tabulated}
use Rattle.lanes.proofs.load.Goals as goal

pub returns : goal.returns
returns g c = chunk_tabulated nan c.args.at g.row.N c.args.work.now c.requires
