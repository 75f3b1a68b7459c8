-- The shift generator. Assumes nothing.
use Rattle.std.specs.Prelude.{ℕ, zero, suc, ◌+◌, ◌*◌, ◌/◌, ◌%◌, ◌^◌}

-- a step: the product and the sum wrap at 64 bits
unfoldable pub next_state : ℕ → ℕ
next_state s = (s * 6364136223846793005 + 1442695040888963407) % 2 ^ 64

-- the state after n steps
unfoldable pub state_after : ℕ → ℕ → ℕ
state_after s zero = s
state_after s (suc n) = next_state (state_after s n)

-- the number that a state draws: (state >> 33) mod 512
unfoldable pub draw_of : ℕ → ℕ
draw_of s = s / 2 ^ 33 % 512
