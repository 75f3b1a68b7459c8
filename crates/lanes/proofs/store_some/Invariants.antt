-- `store_some` meets its contract. The invariant: the lanes so far are stored. Assumes nothing.
use Prim.Native.Nat.{◌<◌}
use lib.ListN.{get_or}
use lib.Ieee.{nan}
use Rattle.laws.specs.Written.{Written}
use Rattle.lanes.proofs.store_some.Given as goal

abbrev pub invariant-loop-j : goal.invariant-loop-j
invariant-loop-j g l = Written nan l.at (λ j. j < l.j) (λ j. get_or l.lanes j nan) l.initial.work l.work
