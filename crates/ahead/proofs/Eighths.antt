-- Eighths: the factors, exact; each is finite and above 0; 6 eighths are `alpha`. Assumes nothing.
use mathlib.Core.Path.{◌≡◌, refl}
use Prim.Native.Nat.{ℕ, zero, suc, ◌≤◌}
use native.Mathlib.Omega.{arith}
use lib.Ieee.{lt, div, of_int, fits}
use Rattle.laws.specs.Written.{tabulate}
use Rattle.laws.proofs.Floats.{Factor}
use Rattle.runs.specs.Runs.{alpha}
use Rattle.ahead.specs.Schedules.{factor_of, EighthsExact}

pub eighths_exact : EighthsExact
unfolding factor_of div of_int tabulate
eighths_exact = refl

pub six_is_alpha : factor_of 6 ≡ alpha
unfolding factor_of div of_int
six_is_alpha = refl

pub eighths_are_factors : (e : ℕ) → 1 ≤ e → e ≤ 8 → Factor (factor_of e)
unfolding factor_of div of_int lt fits
eighths_are_factors zero h k = absurd (omega arith)
eighths_are_factors (suc zero) h k = record { above = refl; finite = refl; fit = refl }
eighths_are_factors (suc (suc zero)) h k = record { above = refl; finite = refl; fit = refl }
eighths_are_factors (suc (suc (suc zero))) h k = record { above = refl; finite = refl; fit = refl }
eighths_are_factors (suc (suc (suc (suc zero)))) h k = record { above = refl; finite = refl; fit = refl }
eighths_are_factors (suc (suc (suc (suc (suc zero))))) h k = record { above = refl; finite = refl; fit = refl }
eighths_are_factors (suc (suc (suc (suc (suc (suc zero)))))) h k =
    record { above = refl; finite = refl; fit = refl }
eighths_are_factors (suc (suc (suc (suc (suc (suc (suc zero))))))) h k =
    record { above = refl; finite = refl; fit = refl }
eighths_are_factors (suc (suc (suc (suc (suc (suc (suc (suc zero)))))))) h k =
    record { above = refl; finite = refl; fit = refl }
eighths_are_factors (suc (suc (suc (suc (suc (suc (suc (suc (suc e))))))))) h k = absurd (omega arith)
