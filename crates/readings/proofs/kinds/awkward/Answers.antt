-- `awkward` meets its contract. Assumes nothing.
use mathlib.Core.Path.{refl}
use lib.Ieee as Ieee
use Rattle.readings.specs.Kinds.{awkward_at}
use Rattle.readings.proofs.kinds.awkward.Goals as goal

pub returns : goal.returns
unfolding awkward_at Ieee.of_bits Ieee.neg Ieee.div Ieee.round
returns c = refl
