-- What the contracts inside the choice of shifts cite. A number d = up - down that may be below zero is held as up + 1022 - down:
-- shifts are below 512, so up and down are at most 1022. Assumes nothing.
use Rattle.std.specs.Prelude.{◌≡◌, ℕ, ◌+◌, ◌*◌, ◌/◌, ◌<◌, ◌≤◌, List, length, slice_index}
use Rattle.laws.specs.Range.{sum}
use Rattle.shifts.specs.Generator.{state_after}
use Rattle.shifts.specs.Shifts.{weight, cost, draw_at, least_draw, draws}

-- w holds what each d costs, at place d + 1022
pub record Weights (w : List ℕ) : Type 0 where
  pub long : length w ≡ 2045
  pub at : (i : ℕ) → i < 2045 → slice_index w i ≡ weight i 1022

-- rows of whole columns, at most 61, where some shifts are placed and one is next
pub record Partly (rows shifts : List ℕ) : Type 0 where
  pub inside : 3 * (length shifts / 3) + 3 ≤ length rows
  pub most : length shifts < 183
  pub low : (i : ℕ) → slice_index shifts i < 512

-- what the draw x costs with the other row at place e
abbrev pub row_cost : List ℕ → List ℕ → ℕ → ℕ → ℕ
row_cost rows shifts e x = sum (cost rows shifts x e) (length shifts / 3)

-- what the draw x costs by n biases: each is d + 1022 with x left out of d
unfoldable pub bias_cost : List ℕ → ℕ → ℕ → ℕ
bias_cost bias n x = sum (λ i. weight (x + slice_index bias i) 1022) n

-- a list with room for 183 biases holds n
pub record Held (bias : List ℕ) (n : ℕ) : Type 0 where
  pub long : length bias ≡ 183
  pub fits : n ≤ 183
  pub low : (i : ℕ) → i < n → slice_index bias i < 1534

-- it gives the cost f of each draw
pub record Biases (f : ℕ → ℕ) (bias : List ℕ) (n : ℕ) : Type 0 where
  pub held : Held bias n
  pub costs : (x : ℕ) → bias_cost bias n x ≡ f x

-- a shift and a state are those that come after the shifts placed and the state s
pub record Follows (rows shifts : List ℕ) (s shift state : ℕ) : Type 0 where
  pub shift_is : shift ≡ draw_at rows shifts s (least_draw rows shifts s)
  pub state_is : state ≡ state_after s (draws rows shifts s)
