-- `met_eight` meets its contract. The invariant: the decisions of the base edges so far are added up, of eight checks. Assumes nothing.
use Prim.Native.Nat.{◌+◌}
use Rattle.convergence.proofs.Lanewise.{Parities}
use Rattle.convergence.proofs.Rows.{odd_before}
use Rattle.convergence.proofs.row.Row.met_eight.Given as goal

abbrev pub invariant-loop-b : goal.invariant-loop-b
invariant-loop-b l = Parities (λ j. odd_before l.self (l.t + j) l.b-index) l.odd
