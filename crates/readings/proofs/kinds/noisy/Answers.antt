-- `noisy` meets its contract. Assumes nothing.
use lib.Ieee as Ieee
use Rattle.readings.specs.Kinds.{noisy_of}
use Rattle.readings.proofs.kinds.noisy.Goals as goal

pub returns : goal.returns
unfolding noisy_of Ieee.of_bits
returns c = rw (c.turned.ensures, c.from.ensures)
