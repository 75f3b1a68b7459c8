-- A place that is looked for. Assumes nothing.
use Rattle.std.specs.Prelude.{cond, ℕ, Option, Some, None, nat_lt}

-- the place p, or none where it is not below n
abbrev pub below : ℕ → ℕ → Option ℕ
below n p = cond (nat_lt p n) (Some p) None
