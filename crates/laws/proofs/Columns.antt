-- The rows of the parity edges past column 0's three. Assumes nothing.
use mathlib.Core.Path.{◌≡◌}
use mathlib.Core.Bool.{cond}
use Prim.Native.Nat.{ℕ, ◌+◌, ◌/◌, ◌%◌, ◌-◌, ◌≤◌}
use native.Mathlib.Omega.{arith}
use native.Mathlib.Decide.{ℕ_discrete}
use lib.Dec.{eqb}
use borrow.Author.Tests.{eq-eqb, ne_eqb}
use Rattle.laws.specs.Columns.{parity_row}

-- from the parity edge 3 on: the row j at the edge 2j + 1, and j - 1 at the edge 2j + 2
pub stair_row : (m p : ℕ) → 3 ≤ p → parity_row m p ≡ (p - 1) / 2 - (p + 1) % 2
unfolding parity_row
stair_row m p h =
    rw (ne_eqb p 0 (omega arith), ne_eqb p 1 (omega arith), ne_eqb p 2 (omega arith)) (by (ℕ_discrete (p % 2) 1))
  where
    by : Dec (p % 2 ≡ 1) → cond (eqb (p % 2) 1) ((p - 1) / 2) ((p - 1) / 2 - 1) ≡ (p - 1) / 2 - (p + 1) % 2
    by (yes o) = rw (eq-eqb (p % 2) 1 o) (omega arith)
    by (no o) = rw (ne_eqb (p % 2) 1 o) (omega arith)
