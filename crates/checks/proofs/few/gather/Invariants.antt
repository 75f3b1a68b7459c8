-- `gather` meets its contract. The invariant: the base edges so far are gathered. Assumes nothing.
use lib.ListN.{take}
use Rattle.messages.specs.Memory.{number}
use Rattle.checks.specs.Lanes.{Gathers}
use Rattle.checks.proofs.few.gather.Given as goal

abbrev pub invariant-loop-b : goal.invariant-loop-b
invariant-loop-b g l = Gathers l.l g.row.Z (number l.to_checks) g.row.Z 0 (take l.b-index l.row.list.now)
