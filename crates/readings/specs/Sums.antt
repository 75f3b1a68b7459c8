-- The checksum of what is too long to print. Assumes nothing.
use Rattle.std.specs.Prelude.{List, ℕ, ◌+◌, ◌*◌, ◌%◌}
use Rattle.std.specs.List.{fold}

-- a step: a multiplication and an addition modulo a prime, so small that nothing wraps
abbrev pub sum_step : ℕ → ℕ → ℕ
sum_step h x = (h % 65521 * 31 + x % 65521) % 65521

-- the checksum of what has a value each
unfoldable pub checksum_by : {A : Type 0} → (A → ℕ) → List A → ℕ
checksum_by value xs = fold (λ h x. sum_step h (value x)) 0 xs
