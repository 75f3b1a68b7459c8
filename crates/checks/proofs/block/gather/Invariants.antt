-- `gather` meets its contract. The invariant: the base edges so far are gathered. Assumes nothing.
use lib.ListN.{take}
use Rattle.messages.specs.Memory.{number}
use Rattle.checks.specs.Lanes.{Gathers}
use Rattle.checks.proofs.block.gather.Given as goal

abbrev pub invariant-loop-b : goal.invariant-loop-b
invariant-loop-b l = Gathers l.l 4 (number l.to_checks) l.row.z l.t (take l.b-index l.row.list.now)
