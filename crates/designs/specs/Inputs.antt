-- The seed and the columns that the program computes. The oracle's driver computes the same. Assumes nothing.
use Rattle.std.specs.Prelude.{ℕ, ◌+◌, ◌-◌, ◌*◌, ◌/◌, ◌%◌, ◌^◌, cond, List, ◌==◌}
use Rattle.std.specs.List.{fold}
use Rattle.shifts.specs.Generator.{next_state}

-- a seed from the bytes of a text: each is added to the state, which then steps
unfoldable pub seed_of : List ℕ → ℕ
seed_of text = fold (λ s x. next_state ((s + x) % 2 ^ 64)) 0 text

-- the rows of a column: some row, one that is neither it nor the one before it, and the one before it
unfoldable pub some_row : ℕ → ℕ → ℕ → ℕ
some_row m seed c = (seed + c * c * 7 + c) % m

unfoldable pub row_at : ℕ → ℕ → ℕ → ℕ
row_at m seed p =
    cond (p % 3 == 0) (some_row m seed (p / 3))
    (cond (p % 3 == 1) ((some_row m seed (p / 3) + 1 + (seed * 3 + p / 3 * 5) % (m - 2)) % m) ((some_row m seed (p / 3) + m - 1) % m))

unfoldable pub shift_at : ℕ → ℕ → ℕ
shift_at seed p = (seed * 7919 + p * p * 31 + p * 104729) % 65536
