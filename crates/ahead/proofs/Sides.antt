-- A noiseless pass, place by place on the sides of its word's bits. Assumes nothing.
use mathlib.Core.Path.{◌≡◌}
use mathlib.Core.List.{List}
use Prim.Native.Nat.{ℕ, ◌<◌}
use native.Mathlib.Omega.{arith}
use lib.Dec.{eqb}
use lib.ListN.{length, get_or}
use lib.Ieee.{Float, nan}
use Rattle.laws.proofs.Floats.{Sided}
use Rattle.ahead.specs.Noiseless.{IsNoiseless}

pub sides : (rx : List Float) (word : List ℕ) (n : ℕ) → length word ≡ n → IsNoiseless rx word
    → (i : ℕ) → i < n → Sided (eqb (get_or word i 0) 1) (get_or rx i nan)
sides rx word n long N i h =
    let (number, side, fit) = N i (omega arith) in
    record { number = number; side = side; fit = fit }
