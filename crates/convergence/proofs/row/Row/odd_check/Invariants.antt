-- `odd_check` meets its contract. The invariant: the decisions of the base edges so far are added up. Assumes nothing.
use Rattle.std.proofs.Common.{◌≡◌}
use Rattle.convergence.proofs.Rows.{odd_before}
use Rattle.convergence.proofs.row.Row.odd_check.Given as goal

abbrev pub invariant-loop-b : goal.invariant-loop-b
invariant-loop-b l = l.odd ≡ odd_before l.self l.t l.b-index
