-- The computed columns: their sizes, their rows, and the squares in their shifts; and how many columns a shape has. Assumes nothing.
use Rattle.std.proofs.Common.{◌≡◌, ℕ, ◌+◌, ◌-◌, ◌*◌, ◌/◌, ◌%◌, ◌<◌, ◌≤◌, Bool, true, false, cond, ◌==◌, Ok, mul-le-mul, mod-lt, arith}
use Rattle.std.proofs.lemmas.Grind.{common_steps}
use Rattle.designs.specs.Inputs.{some_row, row_at, shift_at}
use Rattle.laws.specs.Columns.{information_columns}
use Rattle.graph.specs.Calls.{columns_told}

-- the square of a place
pub square : (p : ℕ) → p < 200 → p * p ≤ 39601
square p h = let k : p ≤ 199 = omega (arith, h) in mul-le-mul k k

-- the rows are below m, and the shifts below 65,536
some_row_lt : (m seed c : ℕ) → 3 ≤ m → some_row m seed c < m
unfolding some_row
some_row_lt m seed c h = mod-lt (seed + c * c * 7 + c) (omega (arith, h))

pub row_lt : (m seed p : ℕ) → 3 ≤ m → row_at m seed p < m
unfolding row_at
row_lt m seed p h = by (p % 3 == 0) (p % 3 == 1)
  where
    by : (t u : Bool)
        → cond t (some_row m seed (p / 3))
        (cond u ((some_row m seed (p / 3) + 1 + (seed * 3 + p / 3 * 5) % (m - 2)) % m) ((some_row m seed (p / 3) + m - 1) % m))
        < m
    by true u = some_row_lt m seed (p / 3) h
    by false true = mod-lt (some_row m seed (p / 3) + 1 + (seed * 3 + p / 3 * 5) % (m - 2)) (omega (arith, h))
    by false false = mod-lt (some_row m seed (p / 3) + m - 1) (omega (arith, h))

pub shift_lt : (seed p : ℕ) → shift_at seed p < 65536
unfolding shift_at
shift_lt seed p = mod-lt (seed * 7919 + p * p * 31 + p * 104729) (omega arith)

-- a remainder
pub less : (x m : ℕ) → 3 ≤ m → x % m < m
less x m h = mod-lt x (omega (arith, h))

-- the sizes of graph i
pub sizes : (i : ℕ) → 1 + i * 5 % (4 + i * 7 % 61 - 3) + 3 ≤ 4 + i * 7 % 61
sizes i =
    let some : 0 < 4 + i * 7 % 61 - 3 = omega arith in
    let h : i * 5 % (4 + i * 7 % 61 - 3) < 4 + i * 7 % 61 - 3 = mod-lt (i * 5) some in
    omega (arith, h)

-- the most information columns
pub few : (n_b percent k : ℕ) → columns_told n_b percent ≡ Ok k → k ≤ 61
unfolding columns_told information_columns
few n_b percent k e = grind (arith, common_steps, e)
