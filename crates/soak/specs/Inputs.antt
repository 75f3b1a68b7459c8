-- The lengths past 300. Assumes nothing.
use Rattle.std.specs.Prelude.{ℕ, ◌*◌, ◌-◌}

-- 25 lengths, from 1,000 down to 304
abbrev pub spread_length : ℕ → ℕ
spread_length i = 1000 - 29 * i
