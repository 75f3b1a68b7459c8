-- The generator of computed inputs. Assumes nothing.
use Rattle.std.specs.Prelude.{List, ℕ, zero, suc, ◌*◌, ◌%◌}
use Rattle.laws.specs.Written.{tabulate}

-- a step of the generator: a multiplication modulo a prime, so small that nothing wraps
abbrev pub next_state : ℕ → ℕ
next_state s = s % 65537 * 75 % 65537

unfoldable pub state_at : ℕ → ℕ → ℕ
state_at seed zero = seed
state_at seed (suc n) = next_state (state_at seed n)

-- n bits of the generator
unfoldable pub random_bits : ℕ → ℕ → List ℕ
random_bits seed n = tabulate (λ i. state_at seed (suc i) % 2) n
