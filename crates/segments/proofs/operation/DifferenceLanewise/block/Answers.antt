-- `block` meets its contract. Assumes nothing.
use lib.Ieee.{nan, sub, binary32}
use Rattle.segments.specs.Combined.{combined_block}
use Rattle.lanes.proofs.Lanewise.{both}
use Rattle.segments.proofs.operation.DifferenceLanewise.block.Goals as goal

pub returns : goal.returns
unfolding combined_block
returns g c = both nan nan (sub binary32) g.row.N _ _ _ _ c.load.ensures c.load-2.ensures
