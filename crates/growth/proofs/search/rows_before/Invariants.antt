-- `rows_before` meets its contract. The invariant: the rows before r are in the set. Assumes nothing.
use Rattle.std.proofs.Common.{◌≡◌, ℕ, ◌+◌, ◌*◌, ◌/◌, eqb, get_or}
use Rattle.laws.specs.Range.{some}
use Rattle.growth.specs.Rows.{has}
use Rattle.growth.proofs.search.rows_before.Given as goal

abbrev pub invariant-loop-r : goal.invariant-loop-r
invariant-loop-r l = (s : ℕ) → has l.taken s ≡ some (λ e. eqb (get_or l.rows (3 * (l.p / 3) + e) 0) s) l.r-index
