-- `fill_readings` meets its contract. Assumes nothing.
use lib.ListN.{get_or}
use lib.Ieee.{nan}
use Rattle.readings.specs.Kinds.{reading_of}
use Rattle.readings.proofs.Filling.{Filling}
use Rattle.readings.proofs.kinds.fill_readings.Given as goal

abbrev pub invariant-loop-i : goal.invariant-loop-i
invariant-loop-i l =
    Filling nan (λ s x. reading_of l.kind (get_or l.bits s 0) x) l.seed l.initial.out l.out l.state l.i
