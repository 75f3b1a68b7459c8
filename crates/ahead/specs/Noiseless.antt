-- A noiseless pass. Assumes nothing.
use Rattle.std.specs.Prelude.{◌≡◌, false, true, List, ℕ, ◌<◌, eqb, length, get_or, Float}
use Rattle.std.specs.Float.{nan, binary32}
use Rattle.std.specs.Float.Ieee.{is_nan, fits}
use Rattle.laws.specs.Floats.{negative}

-- a pass of f32 numbers that is free of NaN, and negative exactly at the ones of the word
abbrev pub IsNoiseless : List Float → List ℕ → Type 0
IsNoiseless rx word =
    (i : ℕ) → i < length word
    → let y = get_or rx i nan in
    (is_nan y ≡ false) × (negative y ≡ eqb (get_or word i 0) 1) × (fits binary32 y ≡ true)
