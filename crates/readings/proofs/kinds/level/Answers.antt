-- `level` meets its contract. Assumes nothing.
use mathlib.Core.Path.{refl}
use lib.Ieee as Ieee
use Rattle.readings.specs.Kinds.{level_at}
use Rattle.readings.proofs.kinds.level.Goals as goal

pub returns : goal.returns
unfolding level_at Ieee.of_bits
returns c = refl
