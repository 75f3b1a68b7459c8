-- What the functions over sets of rows say: a set of rows below 64 is a word, which has row r where its bit r is 1. Assumes nothing.
use Rattle.std.specs.Prelude.{◌≡◌, Bool, true, false, not, ◌&&◌, ℕ, ◌<◌, eqb}
use Rattle.std.specs.Int.{bit_at}
use Rattle.growth.specs.declared.rows.RowSet.{RowSet}

unfoldable pub has : RowSet → ℕ → Bool
has rows r = eqb (bit_at rows.bits r) 1

-- r is the lowest row of a set, and rest the others. That r is below 64 and rest the smaller word is said for the loops over a set:
-- for what they look up at r, and for their end.
pub record Lowest (rows : RowSet) (r : ℕ) (rest : RowSet) : Type 0 where
  pub low : r < 64
  pub had : has rows r ≡ true
  pub first : (s : ℕ) → s < r → has rows s ≡ false
  pub others : (s : ℕ) → has rest s ≡ (has rows s && not (eqb s r))
  pub less : rest.bits < rows.bits
