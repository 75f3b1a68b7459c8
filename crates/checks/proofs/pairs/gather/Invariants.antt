-- `gather` meets its contract. The invariant: the base edges so far are gathered, at both blocks. Assumes nothing.
use lib.ListN.{take}
use Rattle.messages.specs.Memory.{number}
use Rattle.checks.specs.Lanes.{Gathers}
use Rattle.checks.proofs.pairs.gather.Given as goal

abbrev pub invariant-loop-b : goal.invariant-loop-b
invariant-loop-b l =
    Gathers l.first 4 (number l.to_checks) l.row.z l.t (take l.b-index l.row.list.now)
    × Gathers l.second 4 (number l.to_checks) l.row.z l.u (take l.b-index l.row.list.now)
