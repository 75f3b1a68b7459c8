-- `store` meets its contract. Assumes nothing.
use lib.Ieee.{nan}
use Rattle.lanes.proofs.Lanewise.{chunk_put}
use Rattle.lanes.proofs.store.Goals as goal

pub returns : goal.returns
returns g c = chunk_put nan c.args.at g.row.N c.args.work.now c.args.block c.fits-block.0 c.requires
