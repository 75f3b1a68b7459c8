-- Readings of bits, by a kind and a state of the generator. Assumes nothing.
use Rattle.std.specs.Prelude.{Bool, true, false, not, cond, List, [], ◌∷◌, ℕ, suc, ◌/◌, ◌%◌, ◌^◌, eqb, pos, negsuc, get_or, Float}
use Rattle.std.specs.Float.{nan, inf, fin, binary32}
use Rattle.std.specs.Float.Ieee.{unlike, round, neg, add, sub, mul, of_int}
use Rattle.laws.specs.Written.{tabulate}
use Rattle.readings.specs.declared.kinds.Kind.{Kind}
use Rattle.readings.specs.declared.kinds.Kind.TheVariants.{Signs, Levels, Tenth, Awkward, Noise, Mixed}
use Rattle.readings.specs.Generator.{state_at}

-- every byte but 0 is a one
abbrev pub is_one : ℕ → Bool
is_one bit = not (eqb bit 0)

abbrev one : Float
one = fin false 1 (pos 0)

-- a number, or its negative
abbrev pub turned : Bool → Float → Float
turned negative x = cond negative (neg x) x

-- 0.5, 1, 1.5, 2
unfoldable pub level_at : ℕ → Float
level_at i =
    get_or (fin false 1 (negsuc 0) ∷ fin false 1 (pos 0) ∷ fin false 3 (negsuc 0) ∷ fin false 1 (pos 1) ∷ []) (i % 4) nan

-- zeros, infinities, a NaN, the smallest denormal and a larger one, the largest finite numbers, 1e-30, 1e8 and 1
unfoldable pub awkward_at : ℕ → Float
awkward_at i =
    get_or
    (fin false 0 (pos 0)
    ∷ fin true 0 (pos 0)
    ∷ inf false
    ∷ inf true
    ∷ nan
    ∷ fin false 1 (negsuc 148)
    ∷ fin true 1 (negsuc 148)
    ∷ round binary32 false 1 (10 ^ 39)
    ∷ fin false 16777215 (pos 104)
    ∷ fin true 16777215 (pos 104)
    ∷ round binary32 false 1 (10 ^ 30)
    ∷ round binary32 true 1 (10 ^ 30)
    ∷ round binary32 false (10 ^ 8) 1
    ∷ round binary32 true (10 ^ 8) 1
    ∷ fin false 1 (pos 0)
    ∷ fin true 1 (pos 0)
    ∷ [])
    (i % 16)
    nan

-- 1 or −1, with noise up to 1.25 on it in steps of 5 / 65536
unfoldable pub noisy_of : ℕ → ℕ → Float
noisy_of bit s =
    add binary32 (turned (is_one bit) one)
    (mul binary32 (sub binary32 (of_int binary32 (pos (s / 2 % 32768))) (fin false 1 (pos 14))) (fin false 5 (negsuc 15)))

-- the same, with an awkward value in one state of 32
unfoldable pub mixed_of : ℕ → ℕ → Float
mixed_of bit s = cond (eqb (s % 32) 1) (awkward_at (s / 32)) (noisy_of bit s)

-- the kinds, by their numbers
unfoldable pub kind_of : ℕ → Kind
kind_of kind =
    cond (eqb kind 0) Signs
    (cond (eqb kind 1) Levels (cond (eqb kind 2) Tenth (cond (eqb kind 3) Awkward (cond (eqb kind 4) Noise Mixed))))

-- the reading of a bit in a state of the generator: signs alone, four magnitudes, the magnitude 0.1 alone, awkward values,
-- noise, or noise with awkward values in it; of the first three some signs are reversed
abbrev pub reading_by : Kind → ℕ → ℕ → Float
reading_by Signs bit s = turned (unlike (is_one bit) (eqb (s % 64) 1)) one
reading_by Levels bit s = turned (unlike (is_one bit) (eqb (s % 16) 1)) (level_at (s / 16))
reading_by Tenth bit s = turned (unlike (is_one bit) (eqb (s % 16) 1)) (round binary32 false 1 10)
reading_by Awkward bit s = awkward_at (s / 16)
reading_by Noise bit s = noisy_of bit s
reading_by Mixed bit s = mixed_of bit s

-- the same by the kind's number: any above 4 counts as 5
abbrev pub reading_of : ℕ → ℕ → ℕ → Float
reading_of kind bit s = reading_by (kind_of kind) bit s

-- n readings of a word; bits that it lacks count as 0
unfoldable pub readings_of : ℕ → ℕ → List ℕ → ℕ → List Float
readings_of kind seed bits n = tabulate (λ i. reading_of kind (get_or bits i 0) (state_at seed (suc i))) n
