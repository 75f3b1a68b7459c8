-- The choice of shifts for the rows of a graph's information columns. The shifts placed so far are a flat list; the next
-- one is of place length shifts. Assumes nothing.
use Rattle.std.specs.Prelude.{ℕ, zero, suc, ◌+◌, ◌*◌, ◌/◌, ◌%◌, min, true, cond, ◌&&◌, List, [], ◌∷◌, ◌++◌, length, ◌==◌, nat_eq, nat_lt, slice_index, slice_index_or}
use Rattle.laws.specs.Range.{sum, count, first, foremost}
use Rattle.laws.specs.Columns.{has_row, shift_on, congruent}
use Rattle.shifts.specs.Generator.{state_after, draw_of}

-- TEST_Z: the lifts that a draw is tried at
unfoldable pub test_lifts : List ℕ
test_lifts = 2 ∷ 3 ∷ 4 ∷ 5 ∷ 6 ∷ 7 ∷ 8 ∷ 12 ∷ 16 ∷ 24 ∷ 32 ∷ 48 ∷ 64 ∷ 96 ∷ 128 ∷ 256 ∷ 324 ∷ []

-- what d = up - down costs: 1000 when it is 0, else 1 for each test lift that divides it
unfoldable pub weight : ℕ → ℕ → ℕ
weight up down = cond (up == down) 1000 (count (λ i. congruent (slice_index test_lifts i) up down) 17)

module _ (rows shifts : List ℕ) where
  -- the row at the place of the next shift, and the row at place e of its column
  unfoldable pub this_row : ℕ
  this_row = slice_index rows (length shifts)

  unfoldable pub other_place : ℕ → ℕ
  other_place e = 3 * (length shifts / 3) + e

  -- what the draw x costs with the other row at place e and column c, if c has edges on both rows:
  -- d = x - c's shift on this row + c's shift on the other - this column's there
  unfoldable pub cost : ℕ → ℕ → ℕ → ℕ
  cost x e c =
      let other = slice_index_or rows (other_place e) 0 in
      cond (has_row rows c this_row && has_row rows c other)
      (weight (x + shift_on rows shifts c other) (shift_on rows shifts c this_row + slice_index shifts (other_place e))) 0

  -- a draw's penalty, over each other row of the column and each earlier column
  unfoldable pub penalty : ℕ → ℕ
  penalty x = sum (λ e. cond (e == length shifts % 3) 0 (sum (cost x e) (length shifts / 3))) 3

  -- from the state s: the i-th draw and its penalty
  unfoldable pub draw_at : ℕ → ℕ → ℕ
  draw_at s i = draw_of (state_after s (suc i))

  unfoldable pub penalty_at : ℕ → ℕ → ℕ
  penalty_at s i = penalty (draw_at s i)

  -- the first of least penalty of 256 draws
  unfoldable pub least_draw : ℕ → ℕ
  least_draw s = foremost (λ i. true) (λ i j. nat_lt (penalty_at s i) (penalty_at s j)) 256

  -- how many are drawn: penalty 0 ends the search
  unfoldable pub draws : ℕ → ℕ
  draws s = min 256 (suc (first (λ i. nat_eq (penalty_at s i) 0) 256))

-- shifts placed, and the state of the generator after them
pub record Chosen : Type 0 where
  pub shifts : List ℕ
  pub state : ℕ

-- one shift more; the state runs on
unfoldable pub choose : List ℕ → Chosen → Chosen
choose rows c =
    record {
      shifts = c.shifts ++ (draw_at rows c.shifts c.state (least_draw rows c.shifts c.state) ∷ []);
      state = state_after c.state (draws rows c.shifts c.state);
    }

-- the first p shifts, from a seed
unfoldable pub chosen : List ℕ → ℕ → ℕ → Chosen
chosen rows seed zero = record { shifts = []; state = seed }
chosen rows seed (suc p) = choose rows (chosen rows seed p)

-- the shifts of n rows
unfoldable pub shifts_of : List ℕ → ℕ → ℕ → List ℕ
shifts_of rows seed n = (chosen rows seed n).shifts
