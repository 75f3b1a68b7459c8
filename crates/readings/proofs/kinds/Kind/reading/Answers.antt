-- `reading` meets its contract. Assumes nothing.
use lib.Ieee as Ieee
use Rattle.readings.proofs.kinds.Kind.reading.Goals as goal

pub returns-in-Tenth : goal.returns-in-Tenth
unfolding Ieee.of_bits Ieee.round
returns-in-Tenth c = rw (c.turned-in-Tenth.ensures, c.in-Tenth.is)
