-- `choose_shifts` meets its contract. The invariant: the shifts before place p are chosen. Assumes nothing.
use Rattle.std.proofs.Common.{◌*◌}
use Rattle.shifts.proofs.Placing.{Placing}
use Rattle.shifts.proofs.place.choose_shifts.Given as goal

abbrev pub invariant-loop-p : goal.invariant-loop-p
invariant-loop-p l = Placing l.rows l.seed (3 * l.k_b) l.shifts l.state l.p
